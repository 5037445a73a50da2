-- The words that are drawn one after the other.
use Rattle.std.proofs.Common.{◌≡◌, ℕ, zero, suc, ◌+◌, ◌<◌, Some, ap, ◌∙◌, arith}
use Rattle.std.specs.Prelude.{slice_get}
use Rattle.twister.specs.Sequence.{word_of}
use Rattle.twister.specs.Place.{Place, after_word, words_from}

-- From any place on, by how many words lie between.
drawn-at :
    (count : ℕ) (place : Place) (k : ℕ) → k < count →
    slice_get (words_from count place) k ≡ Some (word_of place.seed (place.drawn + k))
drawn-at zero place k within = absurd (omega arith)
drawn-at (suc count) place zero within = ap (λ (i : ℕ). Some (word_of place.seed i)) (omega arith)
drawn-at (suc count) place (suc k) within =
    drawn-at count (after_word place) k (omega arith) ∙ ap (λ (i : ℕ). Some (word_of place.seed i)) (omega arith)

-- From the beginning of a seed.
pub drawn_in_order :
    (seed count k : ℕ) → k < count → slice_get (words_from count (record { seed = seed; drawn = 0 })) k ≡ Some (word_of seed k)
drawn_in_order seed count k within =
    drawn-at count (record { seed = seed; drawn = 0 }) k within ∙ ap (λ (i : ℕ). Some (word_of seed i)) (omega arith)
