-- What holds of the shared columns between any two steps of the threads.
use Rattle.std.specs.Prelude.{◌≡◌, ℕ, ◌+◌, ◌^◌, ◌<◌, ◌≤◌, ◌⊎◌, Bool, true, false}
use Rattle.std.specs.Prelude.{List, [], ◌∷◌, ◌++◌, length, map, Option as Maybe, Some}
use Rattle.std.specs.Prelude.{slice_index_or}
use mathlib.Core.Option.{Option, none, some}
use lib.ListN.{get_elem?}
use Rattle.atomic_table.specs.Table.{State}
use Rattle.game_orders.specs.declared.order.Order.{Order}
use Rattle.frame_core.specs.Column.{Column, length_of, IsWithinFrames}
use Rattle.frame_core.specs.Grows.{GrowsTo}
use Rattle.frame_table.specs.declared.seen.Seen.{Seen}
use Rattle.frame_table.specs.declared.planned.Planned.{Planned}
use Rattle.frame_table.specs.declared.planned.Planned.TheVariants.{Free, Plays}
use Rattle.frame_table.specs.declared.view.View.{View}
use Rattle.frame_table.specs.Part.{Part, part_of}
use Rattle.frame_table.specs.Word.{one_if, word_of}

-- What is planned for client c.
abbrev pub planned_of : List Planned → ℕ → Planned
planned_of plan c = slice_index_or plan c Free

-- No more was seen than the column has, and the departure only with all plays before it.
pub record IsReach (column : Column) (reach : Seen) : Type 0 where
  pub plays : reach.plays ≤ length_of column
  pub left : reach.left ≡ true → (column.left ≡ true) × (reach.plays ≡ length_of column)

-- No more is known than was seen.
pub record IsWithinReach (known : Column) (reach : Seen) : Type 0 where
  pub plays : length_of known ≤ reach.plays
  pub left : known.left ≡ true → reach.left ≡ true

-- A planned column has the first of its planned plays, and a departure only after the last.
abbrev pub Follows : Planned → Column → Type 0
Follows Free column = Unit {0}
Follows (Plays plays) column =
    ((later : List (List Order)) × (plays ≡ column.plays ++ later))
    × (column.left ≡ true → length_of column ≡ length plays)

-- What holds of the pass with number `by` and a column, the lock of which the pass `holder` has
-- where it is taken. The pass that may add plays knows all plays, and the column is free. A pass
-- that has the lock knows the column. A pass without a share has no rights.
pub record Fits (planned : Planned) (column : Column) (locked : Bool) (holder by : ℕ)
    (part : Part) : Type 0 where
  pub reach : IsReach column part.reach
  pub known : GrowsTo part.known column
  pub within : IsWithinReach part.known part.reach
  pub plan : 0 < part.share → part.planned ≡ planned
  pub feeds : part.feeds ≡ true → (planned ≡ Free) × (part.known.plays ≡ column.plays)
  pub held : (part.held ≡ []) ⊎ ((part.held ≡ column ∷ []) × (locked ≡ true) × (holder ≡ by))
  pub met : GrowsTo part.met column
  pub poor : part.share ≡ 0 → (part.made ≡ 0) × (part.feeds ≡ false)

-- A number of each pass, added up.
abbrev pub total : {A : Type 0} → (A → ℕ) → List A → ℕ
total f [] = 0
total f (x ∷ xs) = f x + total f xs

-- The slot of a column has it while nobody has its lock.
abbrev pub home_of : Column → Bool → Option (Maybe (List Column))
home_of column true = none
home_of column false = some (Some (column ∷ []))

-- What holds of one column, by its word, its slot and all passes: there is a column that they
-- agree on. The shares make the whole, its departure was fixed by one pass, and at most one pass
-- may add plays.
pub record Keeps (planned : Planned) (word : Option ℕ)
    (home : Option (Option (Maybe (List Column)))) (parts : List Part) : Type 0 where
  pub column : Column
  pub locked : Bool
  pub holder : ℕ
  pub word_is : word ≡ some (word_of column locked)
  pub home_is : home ≡ some (home_of column locked)
  pub frames : IsWithinFrames column
  pub follows : Follows planned column
  pub fits : (by : ℕ) (part : Part) → get_elem? parts by ≡ some part →
      Fits planned column locked holder by part
  pub shares : total (λ (p : Part). p.share) parts ≡ 2 ^ 62
  pub made : total (λ (p : Part). p.made) parts ≡ one_if column.left
  pub feeding : total (λ (p : Part). one_if p.feeds) parts ≤ 1

-- The rule: each column is kept, and each pass that has a share has to do with each of them.
pub record IsKept (plan : List Planned) (state : State (Maybe (List Column)) View) : Type 0 where
  pub each : (c : ℕ) → c < length plan →
      Keeps (planned_of plan c) (get_elem? state.words c) (get_elem? state.homes c)
      (map (part_of c) state.views)
  pub marks : (by : ℕ) (view : View) → get_elem? state.views by ≡ some view → 0 < view.share →
      length view.marks ≡ length plan
