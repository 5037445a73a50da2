-- What the tests know of a pass of a table with free columns.
use Rattle.std.specs.Prelude.{◌≡◌, ℕ, ◌<◌, true, length}
use Rattle.frame_table.specs.declared.planned.Planned.TheVariants.{Free}
use Rattle.frame_table.specs.declared.pass.Pass.{Pass}
use Rattle.frame_table.specs.declared.table.FrameTable.{FrameTable}
use Rattle.frame_table.specs.Part.{part_of}
use Rattle.frame_table.specs.Calls.{plan_of, view_of, IsPassOf}

-- No column is planned.
pub record IsFreePass (table : FrameTable) (pass : Pass) : Type 0 where
  pub is : IsPassOf table pass
  pub planned : (c : ℕ) → c < length (plan_of table) → (part_of c (view_of pass)).planned ≡ Free

-- It feeds each column.
pub record IsFeedingPass (table : FrameTable) (pass : Pass) : Type 0 where
  pub free : IsFreePass table pass
  pub feeds : (c : ℕ) → c < length (plan_of table) → (part_of c (view_of pass)).feeds ≡ true
