-- Columns only grow: at their end, and not any more once the client has left.
use Rattle.std.specs.Prelude.{◌≡◌, ℕ, true, List, [], ◌∷◌, ◌++◌, is_some}
use Rattle.std.specs.List.{AllByRecursion}
use Rattle.game_orders.specs.declared.order.Order.{Order}
use Rattle.frame_core.specs.Column.{Column}
use Rattle.frame_core.specs.Ready.{each_at}

-- The new column is the old one with more plays at its end, and with none where the client had
-- left.
pub record GrowsTo (old new : Column) : Type 0 where
  pub more : List (List Order)
  pub plays : new.plays ≡ old.plays ++ more
  pub closed : old.left ≡ true → new ≡ old

-- Each client's column grows.
abbrev pub Grows : List Column → List Column → Type 0
Grows [] [] = Unit {0}
Grows [] (new ∷ news) = ⊥
Grows (old ∷ olds) [] = ⊥
Grows (old ∷ olds) (new ∷ news) = GrowsTo old new × Grows olds news

-- Each client has something for frame n.
abbrev pub AllHave : List Column → ℕ → Type 0
AllHave columns n = AllByRecursion (λ each. is_some each ≡ true) (each_at columns n)
