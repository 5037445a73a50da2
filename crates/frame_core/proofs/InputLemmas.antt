-- The answer on a frame means what `MeansReady` says in the subject's words.
use Rattle.std.specs.Prelude.{◌≡◌, ℕ, suc, ◌+◌, ◌<◌, ◌⊎◌, Bool, true, false, List, [], ◌∷◌, length}
use Rattle.std.specs.Prelude.{Some, slice_get}
use Rattle.std.proofs.Common.{refl, sym, subst, inl, inr, arith}
use Rattle.frame_core.specs.declared.input.Input.{Input}
use Rattle.frame_core.specs.declared.input.Input.TheVariants.{Missing, Played, Departed}
use Rattle.frame_core.specs.Input.{ready_from, ready_of, MeansReady, MeansInput}

-- What is known of the clients before client c: each has played the frame or left by then, and
-- whether one has played it.
record Passed (HasPlayed HasLeft : ℕ → Type 0) (c : ℕ) (played : Bool) : Type 0 where
  each : (d : ℕ) → d < c → HasPlayed d ⊎ HasLeft d
  some : played ≡ true → (d : ℕ) × (d < c) × HasPlayed d
  all : played ≡ false → (d : ℕ) → d < c → HasLeft d

before_or_at : (c d : ℕ) → d < c + 1 → (d < c) ⊎ (d ≡ c)
before_or_at c d below = grind arith

-- One more client that has played.
one_played :
    (HasPlayed HasLeft : ℕ → Type 0) (c : ℕ) (played : Bool) → HasPlayed c →
    Passed HasPlayed HasLeft c played → Passed HasPlayed HasLeft (c + 1) true
one_played HasPlayed HasLeft c played here passed =
    record {
      each = λ d below. by_place d (before_or_at c d below);
      some = λ is. (c, omega arith, here);
      all = λ never. absurd cc;
    }
  where
    by_place : (d : ℕ) → (d < c) ⊎ (d ≡ c) → HasPlayed d ⊎ HasLeft d
    by_place d (inl before) = passed.each d before
    by_place d (inr same) = inl (subst HasPlayed (sym same) here)

-- One more client that has left.
one_left :
    (HasPlayed HasLeft : ℕ → Type 0) (c : ℕ) (played : Bool) → HasLeft c →
    Passed HasPlayed HasLeft c played → Passed HasPlayed HasLeft (c + 1) played
one_left HasPlayed HasLeft c played here passed =
    record {
      each = λ d below. by_place d (before_or_at c d below);
      some = λ is. let (d, below, has) = passed.some is in (d, omega arith, has);
      all = λ never d below. left_by_place never d (before_or_at c d below);
    }
  where
    by_place : (d : ℕ) → (d < c) ⊎ (d ≡ c) → HasPlayed d ⊎ HasLeft d
    by_place d (inl before) = passed.each d before
    by_place d (inr same) = inr (subst HasLeft (sym same) here)

    left_by_place : played ≡ false → (d : ℕ) → (d < c) ⊎ (d ≡ c) → HasLeft d
    left_by_place never d (inl before) = passed.all never d before
    left_by_place never d (inr same) = subst HasLeft (sym same) here

-- Each of the clients from c on has what its input means.
abbrev Means : (HasPlayed HasLeft HasNothing : ℕ → Type 0) → ℕ → List Input → Type 0
Means HasPlayed HasLeft HasNothing c inputs =
    (i d : ℕ) (input : Input) → d ≡ c + i → slice_get inputs i ≡ Some input →
    MeansInput HasPlayed HasLeft HasNothing d input

means_later :
    (HasPlayed HasLeft HasNothing : ℕ → Type 0) (c : ℕ) (input : Input) (inputs : List Input) →
    Means HasPlayed HasLeft HasNothing c (input ∷ inputs) →
    Means HasPlayed HasLeft HasNothing (c + 1) inputs
means_later HasPlayed HasLeft HasNothing c input inputs means i d found at is =
    means (suc i) d found (omega arith) is

ready_from_means :
    (HasPlayed HasLeft HasNothing : ℕ → Type 0) (c : ℕ) (played : Bool) (inputs : List Input) (clients : ℕ) →
    clients ≡ c + length inputs → Means HasPlayed HasLeft HasNothing c inputs →
    Passed HasPlayed HasLeft c played →
    MeansReady HasPlayed HasLeft HasNothing clients (ready_from c played inputs)
ready_from_means HasPlayed HasLeft HasNothing c true [] clients end means passed =
    let (d, below, has) = passed.some refl in
    ((λ e before. passed.each e (omega arith)), (d, omega arith, has))
ready_from_means HasPlayed HasLeft HasNothing c false [] clients end means passed =
    λ d below. passed.all refl d (omega arith)
ready_from_means HasPlayed HasLeft HasNothing c played (Missing ∷ inputs) clients end means passed =
    (omega arith, means 0 c Missing (omega arith) refl, passed.each)
ready_from_means HasPlayed HasLeft HasNothing c played (Played ∷ inputs) clients end means passed =
    ready_from_means HasPlayed HasLeft HasNothing (c + 1) true inputs clients (omega arith)
    (means_later HasPlayed HasLeft HasNothing c Played inputs means)
    (one_played HasPlayed HasLeft c played (means 0 c Played (omega arith) refl) passed)
ready_from_means HasPlayed HasLeft HasNothing c played (Departed ∷ inputs) clients end means passed =
    ready_from_means HasPlayed HasLeft HasNothing (c + 1) played inputs clients (omega arith)
    (means_later HasPlayed HasLeft HasNothing c Departed inputs means)
    (one_left HasPlayed HasLeft c played (means 0 c Departed (omega arith) refl) passed)

-- Where each input means so of its client, the answer means so of all.
pub ready_means :
    (HasPlayed HasLeft HasNothing : ℕ → Type 0) (inputs : List Input) (clients : ℕ) →
    clients ≡ length inputs →
    ((c : ℕ) (input : Input) → slice_get inputs c ≡ Some input → MeansInput HasPlayed HasLeft HasNothing c input) →
    MeansReady HasPlayed HasLeft HasNothing clients (ready_of inputs)
ready_means HasPlayed HasLeft HasNothing inputs clients end means =
    ready_from_means HasPlayed HasLeft HasNothing 0 false inputs clients (omega arith)
    (λ i d input same is. subst (λ k. MeansInput HasPlayed HasLeft HasNothing k input) (omega arith) (means i input is))
    (record { each = λ d below. absurd (omega arith); some = λ is. absurd cc; all = λ never d below. absurd (omega arith) })
