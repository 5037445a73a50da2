-- Two lists of actors that are gone over at once.
use Rattle.std.specs.Prelude.{◌≡◌, ℕ, zero, suc, ◌+◌, ◌≤◌, ◌<◌, nat_lt, Bool, true, false, List, [], ◌∷◌, ◌++◌}
use Rattle.std.specs.Prelude.{drop, length, slice_get, Option, Some, None, if◌then◌else◌}
use Rattle.std.proofs.Common.{refl, sym, ap₂, ◌∙◌, arith}
use Rattle.std.proofs.lemmas.Option.{slice_get_within}
use Rattle.game_model.specs.declared.actor.Actor.{Actor}
use Rattle.compare_command.specs.Difference.{Difference, OnlyFirst, OnlySecond}
use Rattle.compare_command.specs.Found.{FoundState, with_found}
use Rattle.compare_command.specs.Merging.{merged, next_differences, next_taken}
use Rattle.compare_command.specs.Saves.{field_differences}
use Rattle.compare_command.proofs.FoundLemmas.{next_found}
use Rattle.compare_command.proofs.ListLemmas.{drop_on, first_left, none_left}

-- What is left after the next id.
abbrev left_after : (p q : Option Actor) → (actors others : List Actor) → List Difference
left_after p q actors others =
    merged (drop (next_taken p q).0 actors) (drop (next_taken p q).1 others)

merged_step :
    (actors others : List Actor) →
    merged actors others
    ≡ next_differences (slice_get actors 0) (slice_get others 0)
    ++ left_after (slice_get actors 0) (slice_get others 0) actors others
merged_step [] [] = refl
merged_step [] (q ∷ others) = refl
merged_step (p ∷ actors) [] = refl
merged_step (p ∷ actors) (q ∷ others) = by_tests (nat_lt p.id q.id) (nat_lt q.id p.id)
  where
    taken : Bool → Bool → ℕ × ℕ
    taken less more = if less then (1, 0) else (if more then (0, 1) else (1, 1))

    by_tests : (less more : Bool) →
        (if less then OnlyFirst p.id ∷ merged actors (q ∷ others)
        else (if more then OnlySecond q.id ∷ merged (p ∷ actors) others
        else field_differences p q ++ merged actors others))
        ≡ (if less then OnlyFirst p.id ∷ []
        else (if more then OnlySecond q.id ∷ [] else field_differences p q))
        ++ merged (drop (taken less more).0 (p ∷ actors)) (drop (taken less more).1 (q ∷ others))
    by_tests true more = refl
    by_tests false true = refl
    by_tests false false = refl

-- From places on.
merged_at :
    (actors others : List Actor) (i j : ℕ) (p q : Option Actor) → p ≡ slice_get actors i →
    q ≡ slice_get others j →
    merged (drop i actors) (drop j others)
    ≡ next_differences p q
    ++ merged (drop (i + (next_taken p q).0) actors) (drop (j + (next_taken p q).1) others)
merged_at actors others i j p q here there =
    let one : slice_get (drop i actors) 0 ≡ p = first_left actors i ∙ sym here in
    let two : slice_get (drop j others) 0 ≡ q = first_left others j ∙ sym there in
    merged_step (drop i actors) (drop j others)
    ∙ ap₂ (λ (a b : Option Actor). next_differences a b
    ++ left_after a b (drop i actors) (drop j others)) one two
    ∙ ap₂ (λ (ps qs : List Actor). next_differences p q ++ merged ps qs)
    (drop_on actors i (next_taken p q).0) (drop_on others j (next_taken p q).1)

-- The next id was compared.
pub next_merged :
    (target now new : FoundState) (actors others : List Actor) (i j : ℕ) (p q : Option Actor)
    (taken : ℕ × ℕ) → p ≡ slice_get actors i → q ≡ slice_get others j → taken ≡ next_taken p q →
    with_found now (merged (drop i actors) (drop j others)) ≡ target →
    new ≡ with_found now (next_differences p q) →
    with_found new (merged (drop (i + taken.0) actors) (drop (j + taken.1) others)) ≡ target
next_merged target now new actors others i j p q taken here there is so_far found =
    rw is (next_found target now new (merged (drop i actors) (drop j others))
    (next_differences p q)
    (merged (drop (i + (next_taken p q).0) actors) (drop (j + (next_taken p q).1) others))
    (merged_at actors others i j p q here there) so_far found)

pub none_merged :
    (actors others : List Actor) (i j : ℕ) → length actors ≤ i → length others ≤ j →
    merged (drop i actors) (drop j others) ≡ []
none_merged actors others i j past beyond =
    ap₂ merged (none_left actors i past) (none_left others j beyond)

-- Of either list an actor is taken only where one is left, and of one of them where one is left.
pub record IsTaken (i j count others : ℕ) (taken : ℕ × ℕ) : Type 0 where
  pub within : i + taken.0 ≤ count
  pub beside : j + taken.1 ≤ others
  pub some : 1 ≤ taken.0 + taken.1

is_within : {X : Type 0} (items : List X) (i : ℕ) (x : X) → Some x ≡ slice_get items i → i < length items
is_within items i x here = slice_get_within items i x (sym here)

pub takes_next :
    (actors others : List Actor) (i j : ℕ) (p q : Option Actor) (taken : ℕ × ℕ) →
    p ≡ slice_get actors i → q ≡ slice_get others j → taken ≡ next_taken p q →
    i ≤ length actors → j ≤ length others → (p ≡ None → q ≡ None → ⊥) →
    IsTaken i j (length actors) (length others) taken
takes_next actors others i j None None taken here there is within beside some = absurd (some refl refl)
takes_next actors others i j None (Some q) taken here there is within beside some =
    rw is (record {
      within = omega (arith, within);
      beside = omega (arith, is_within others j q there);
      some = omega arith;
    })
takes_next actors others i j (Some p) None taken here there is within beside some =
    rw is (record {
      within = omega (arith, is_within actors i p here);
      beside = omega (arith, beside);
      some = omega arith;
    })
takes_next actors others i j (Some p) (Some q) taken here there is within beside some =
    rw is (by_tests (nat_lt p.id q.id) (nat_lt q.id p.id))
  where
    by_tests : (less more : Bool) →
        IsTaken i j (length actors) (length others)
        (if less then (1, 0) else (if more then (0, 1) else (1, 1)))
    by_tests true more = record {
      within = omega (arith, is_within actors i p here);
      beside = omega (arith, beside);
      some = omega arith;
    }
    by_tests false true = record {
      within = omega (arith, within);
      beside = omega (arith, is_within others j q there);
      some = omega arith;
    }
    by_tests false false = record {
      within = omega (arith, is_within actors i p here);
      beside = omega (arith, is_within others j q there);
      some = omega arith;
    }

-- One of the lists has an actor left.
pub some_left :
    {X : Type 0} (items : List X) (i : ℕ) (p : Option X) → i < length items →
    p ≡ slice_get items i → p ≡ None → ⊥
some_left [] i p within here none = absurd (omega (arith, within))
some_left (x ∷ items) zero p within here none = absurd cc
some_left (x ∷ items) (suc i) p within here none =
    some_left items i p (omega (arith, within)) here none
