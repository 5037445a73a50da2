-- Each comparison of orders is true exactly where the two are the same.
use Rattle.std.specs.Prelude.{◌≡◌, ℕ, ◌==◌, Bool, true, false, if◌then◌else◌, List, [], ◌∷◌}
use Rattle.std.specs.Bool.{Decides}
use Rattle.std.proofs.Common.{refl, sym, ap, ◌∙◌}
use Rattle.std.proofs.lemmas.Bool.Decides.{Decides-eqb}
use Rattle.std.proofs.lemmas.Slice.Eq.{slice_eq-Decides}
use Rattle.world_units.specs.declared.cell.CPos.{CPos}
use Rattle.game_orders.specs.declared.order.Order.{Order}
use Rattle.game_orders.specs.declared.order.Order.TheVariants.{Move, Attack, Harvest, Stop}
use Rattle.game_orders.specs.declared.order.Order.TheVariants.{Produce, Cancel, Donate, Pace}
use Rattle.game_orders.specs.Order.{flag_number, fields_of, same_order, same_orders}

abbrev cell_of : ℕ → ℕ → CPos
cell_of x y = record { x = x; y = y }

-- The order with these fields.
abbrev order_of : (tag a b c d : ℕ) → Order
order_of tag a b c d =
    if tag == 1 then Move a (cell_of b c) (d == 1)
    else (if tag == 2 then Attack a b (c == 1)
    else (if tag == 3 then Harvest a (cell_of b c) (d == 1)
    else (if tag == 4 then Stop a
    else (if tag == 5 then Produce a b
    else (if tag == 6 then Cancel a
    else (if tag == 7 then Donate a b
    else Pace a))))))

abbrev from_fields : List ℕ → Order
from_fields (tag ∷ a ∷ b ∷ c ∷ d ∷ []) = order_of tag a b c d
from_fields fields = Pace 0

flag_back : (flag : Bool) → (flag_number flag == 1) ≡ flag
flag_back true = refl
flag_back false = refl

-- An order is that of its fields.
order_back : (order : Order) → from_fields (fields_of order) ≡ order
order_back (Move actor cell queued) = ap (Move actor cell) (flag_back queued)
order_back (Attack actor target queued) = ap (Attack actor target) (flag_back queued)
order_back (Harvest actor cell queued) = ap (Harvest actor cell) (flag_back queued)
order_back (Stop actor) = refl
order_back (Produce actor kind) = refl
order_back (Cancel actor) = refl
order_back (Donate to amount) = refl
order_back (Pace ticks) = refl

-- Orders with the same fields are the same.
same_fields : (a b : Order) → fields_of a ≡ fields_of b → a ≡ b
same_fields a b same = sym (order_back a) ∙ ap from_fields same ∙ order_back b

pub order_decides : (a b : Order) → Decides (same_order a b) (a ≡ b)
order_decides a b =
    let fields : Decides (same_order a b) (fields_of a ≡ fields_of b) =
    slice_eq-Decides (λ x y. Decides-eqb x y) (fields_of a) (fields_of b) (same_order a b) refl in
    ((λ same. same_fields a b (fields.0 same)), (λ same. fields.1 (ap fields_of same)))

pub orders_decides : (xs ys : List Order) → Decides (same_orders xs ys) (xs ≡ ys)
orders_decides xs ys = slice_eq-Decides order_decides xs ys (same_orders xs ys) refl
