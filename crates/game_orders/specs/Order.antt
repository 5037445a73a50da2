-- Orders are compared by their values.
use Rattle.std.specs.Prelude.{ℕ, ◌==◌, Bool, if◌then◌else◌, List, [], ◌∷◌}
use Rattle.std.specs.Cmp.Lexicographic.{pointwise}
use Rattle.game_orders.specs.declared.order.Order.{Order}
use Rattle.game_orders.specs.declared.order.Order.TheVariants.{Move, Attack, Harvest, Stop}
use Rattle.game_orders.specs.declared.order.Order.TheVariants.{Produce, Cancel, Donate, Pace}

-- A flag as a number.
abbrev pub flag_number : Bool → ℕ
flag_number flag = if flag then 1 else 0

-- The number of the variant, then its fields in order, and 0 for each field that it has not.
abbrev pub fields_of : Order → List ℕ
fields_of (Move actor cell queued) = 1 ∷ actor ∷ cell.x ∷ cell.y ∷ flag_number queued ∷ []
fields_of (Attack actor target queued) = 2 ∷ actor ∷ target ∷ flag_number queued ∷ 0 ∷ []
fields_of (Harvest actor cell queued) = 3 ∷ actor ∷ cell.x ∷ cell.y ∷ flag_number queued ∷ []
fields_of (Stop actor) = 4 ∷ actor ∷ 0 ∷ 0 ∷ 0 ∷ []
fields_of (Produce actor kind) = 5 ∷ actor ∷ kind ∷ 0 ∷ 0 ∷ []
fields_of (Cancel actor) = 6 ∷ actor ∷ 0 ∷ 0 ∷ 0 ∷ []
fields_of (Donate to amount) = 7 ∷ to ∷ amount ∷ 0 ∷ 0 ∷ []
fields_of (Pace ticks) = 8 ∷ ticks ∷ 0 ∷ 0 ∷ 0 ∷ []

-- The two are the same order.
abbrev pub same_order : Order → Order → Bool
same_order a b = pointwise (λ x y. x == y) (fields_of a) (fields_of b)

-- The two are the same orders, in the same order.
abbrev pub same_orders : List Order → List Order → Bool
same_orders = pointwise same_order
