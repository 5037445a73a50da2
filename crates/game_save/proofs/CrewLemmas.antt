-- The flags of the cells that actors have.
use Rattle.std.proofs.Common.{◌≡◌, ◌≢◌, ℕ, zero, suc, ◌*◌, ◌/◌, ◌%◌, ◌<◌, eqb, Bool, true, false, cond, ◌||◌}
use Rattle.std.proofs.Common.{List, [], ◌∷◌, ◌++◌, Some, slice_get, replicate, refl, sym, ◌∙◌, ap, ap₂}
use Rattle.std.proofs.Common.{arith, set, inl, inr}
use Rattle.std.proofs.lemmas.Bool.Decides.{eqb_tells, nat_tests}
use Rattle.std.proofs.lemmas.List.{get_or-replicate, length-replicate, length-set}
use Rattle.std.proofs.lemmas.List.Folds.{list_any-append}
use Rattle.std.proofs.lemmas.Nat.{mul-add-lt, div-mul-add, mod-mul-add}
use Rattle.std.proofs.lemmas.Option.{slice_get-get_or}
use Rattle.world_units.specs.declared.cell.CPos.{CPos}
use Rattle.world_units.specs.Cells.{same_cell}
use Rattle.world_units.specs.CellEquality.{cell_decides}
use Rattle.game_model.specs.declared.actor.Actor.{Actor}
use Rattle.game_model.specs.Grid.{Grid, place_of, with_cell}
use Rattle.game_save.specs.Crew.{AreMarked}
use Rattle.game_model.specs.World.{is_occupied}

differ : (i j : ℕ) → i ≢ j → eqb i j ≡ false
differ i j differs = grind (arith, nat_tests)

self_same : (n : ℕ) → eqb n n ≡ true
self_same n = grind (arith, nat_tests)

next : (i j : ℕ) → eqb (suc i) (suc j) ≡ eqb i j
next i j = elim (eqb_tells i j) [
  | inl hit ↦ sym (rw hit.0 (rw hit.1 (sym (self_same (suc j)))))
  | inr miss ↦ rw miss.0 (differ (suc i) (suc j) (λ same. miss.1 (omega arith)))
]

-- A read after a write.
read_after_set : {T : Type 0} (xs : List T) (i j : ℕ) (v x y : T) → slice_get xs i ≡ Some x → slice_get xs j ≡ Some y → slice_get (set xs i v) j ≡ Some (cond (eqb i j) v y)
read_after_set [] i j v x y at_i at_j = absurd (cc)
read_after_set (z ∷ xs) zero zero v x y at_i at_j = refl
read_after_set {T} (z ∷ xs) zero (suc j) v x y at_i at_j = at_j ∙ ap (λ b. Some (cond b v y)) (sym (differ zero (suc j) (λ same. omega arith)))
read_after_set {T} (z ∷ xs) (suc i) zero v x y at_i at_j = at_j ∙ ap (λ b. Some (cond b v y)) (sym (differ (suc i) zero (λ same. omega arith)))
read_after_set {T} (z ∷ xs) (suc i) (suc j) v x y at_i at_j = read_after_set xs i j v x y at_i at_j ∙ ap (λ b. Some (cond b v y)) (sym (next i j))

by_tests : (a b : Bool) → (a ≡ true → b ≡ true) → (b ≡ true → a ≡ true) → a ≡ b
by_tests true true f g = refl
by_tests true false f g = sym (f refl)
by_tests false true f g = g refl
by_tests false false f g = refl

-- Two cells have one place exactly where they are one.
same_place : (w : ℕ) (q p : CPos) → q.x < w → p.x < w → eqb (place_of w q) (place_of w p) ≡ same_cell q p
same_place w q p q_on p_on = by_tests (eqb (place_of w q) (place_of w p)) (same_cell q p) to from
  where
    to : eqb (place_of w q) (place_of w p) ≡ true → same_cell q p ≡ true
    to test =
        let hit : place_of w q ≡ place_of w p = grind (arith, nat_tests) in
        let rows : q.y ≡ p.y = sym (div-mul-add q.y w q.x q_on) ∙ ap (λ n. n / w) hit ∙ div-mul-add p.y w p.x p_on in
        let columns : q.x ≡ p.x = sym (mod-mul-add q.y w q.x q_on) ∙ ap (λ n. n % w) hit ∙ mod-mul-add p.y w p.x p_on in
        let made : ℕ → ℕ → CPos = λ x y. record { x = x; y = y } in
        (cell_decides q p).1 (ap₂ made columns rows)

    from : same_cell q p ≡ true → eqb (place_of w q) (place_of w p) ≡ true
    from test = rw ((cell_decides q p).0 test) (self_same (place_of w p))

-- Nobody has a cell.
pub unmarked : (w h : ℕ) → AreMarked [] (record { width = w; height = h; cells = replicate (w * h) false })
unmarked w h =
    record {
      whole = record { cells = length-replicate (w * h) false };
      marks = λ p on. slice_get-get_or (replicate (w * h) false) (place_of w p) false (rw length-replicate (mul-add-lt p.y w p.x h on.row on.column)) ∙ ap Some (get_or-replicate (w * h) (place_of w p) false false (mul-add-lt p.y w p.x h on.row on.column));
    }

one_more : (b x : Bool) → cond b true x ≡ (x || (b || false))
one_more true true = refl
one_more true false = refl
one_more false true = refl
one_more false false = refl

-- One more actor has its cell.
pub marked : (actors : List Actor) (s : Actor) (taken : Grid Bool) → AreMarked actors taken → s.cell.x < taken.width → s.cell.y < taken.height → AreMarked (actors ++ s ∷ []) (with_cell taken s.cell true)
marked actors s taken are column row =
    record {
      whole = record { cells = length-set taken.cells (place_of taken.width s.cell) true ∙ are.whole.cells };
      marks = λ p on.
          read_after_set taken.cells (place_of taken.width s.cell) (place_of taken.width p) true (is_occupied actors s.cell) (is_occupied actors p) (are.marks s.cell (record { column = column; row = row })) (are.marks p on)
          ∙ ap (λ b. Some (cond b true (is_occupied actors p))) (same_place taken.width s.cell p column on.column)
          ∙ ap Some (one_more (same_cell s.cell p) (is_occupied actors p) ∙ sym (list_any-append (λ (t : Actor). same_cell t.cell p) actors (s ∷ [])));
    }
