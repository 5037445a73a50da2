-- What the tests know of a pass of a table with one column.
use Rattle.std.specs.Prelude.{◌≡◌, [], length}
use Rattle.frame_table.specs.declared.pass.Pass.{Pass}
use Rattle.frame_table.specs.declared.planned.Planned.TheVariants.{Free}
use Rattle.frame_table.specs.declared.table.FrameTable.{FrameTable}
use Rattle.frame_table.specs.Calls.{plan_of, standing, IsPassOf}
use Rattle.match_net.specs.Reading.{MayPlay}

-- It may add plays to the column, and knows none of it.
pub record IsFreshPass (table : FrameTable) (pass : Pass) : Type 0 where
  pub is : IsPassOf table pass
  pub clients : length (plan_of table) ≡ 1
  pub may : MayPlay (standing pass 0)
  pub unplayed : (standing pass 0).known.plays ≡ []

-- The column, which is free, was read.
pub record IsReadPass (table : FrameTable) (pass : Pass) : Type 0 where
  pub is : IsPassOf table pass
  pub clients : length (plan_of table) ≡ 1
  pub free : (standing pass 0).planned ≡ Free
