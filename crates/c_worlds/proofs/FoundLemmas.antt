-- The first actor with an id, looked for one by one.
use Rattle.std.proofs.Common.{arith, ◌≡◌, ◌≤◌, ℕ, zero, suc, true, false, cond, List, [], ◌∷◌, length, drop, None, Some, refl, ap, sym, ◌∙◌}
use Rattle.std.specs.Prelude.{◌==◌, slice_get}
use Rattle.game_model.specs.declared.actor.Actor.{Actor}
use Rattle.game_model.specs.World.{actor_of}

-- An element comes before those after it.
pub dropped : {A : Type 0} (xs : List A) (i : ℕ) (x : A) → slice_get xs i ≡ Some x → drop i xs ≡ x ∷ drop (suc i) xs
dropped [] i x at = absurd cc
dropped (y ∷ xs) zero x at = let same : y ≡ x = cc in ap (λ a. a ∷ xs) same
dropped (y ∷ xs) (suc i) x at = dropped xs i x at

-- It has the id.
pub found_here : (actors : List Actor) (i id : ℕ) (a : Actor) → slice_get actors i ≡ Some a → (a.id == id) ≡ true →
    actor_of (drop i actors) id ≡ actor_of actors id → actor_of actors id ≡ Some a
found_here actors i id a at has so_far =
    sym so_far ∙ ap (λ l. actor_of l id) (dropped actors i a at)
    ∙ ap (λ b. cond b (Some a) (actor_of (drop (suc i) actors) id)) has

-- It has another one.
pub passed : (actors : List Actor) (i n id : ℕ) (a : Actor) → n ≡ suc i → slice_get actors i ≡ Some a → (a.id == id) ≡ false →
    actor_of (drop i actors) id ≡ actor_of actors id → actor_of (drop n actors) id ≡ actor_of actors id
passed actors i n id a next at other so_far =
    ap (λ k. actor_of (drop k actors) id) next
    ∙ sym (ap (λ l. actor_of l id) (dropped actors i a at)
    ∙ ap (λ b. cond b (Some a) (actor_of (drop (suc i) actors) id)) other)
    ∙ so_far

gone_by : {A : Type 0} (xs : List A) (i : ℕ) → length xs ≤ i → drop i xs ≡ []
gone_by [] zero past = refl
gone_by [] (suc i) past = refl
gone_by (x ∷ xs) zero past = absurd (omega (arith, past))
gone_by (x ∷ xs) (suc i) past = gone_by xs i (omega (arith, past))

-- None has it.
pub found_none : (actors : List Actor) (i id : ℕ) → length actors ≤ i →
    actor_of (drop i actors) id ≡ actor_of actors id → actor_of actors id ≡ None
found_none actors i id past so_far = sym so_far ∙ ap (λ l. actor_of l id) (gone_by actors i past)
