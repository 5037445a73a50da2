-- A match on one machine: what its columns are, and what a run of it hands back.
use Rattle.std.specs.Prelude.{◌≡◌, ℕ, ◌^◌, ◌<◌, true, max, List, [], ◌∷◌, length, map}
use Rattle.game_orders.specs.declared.order.Order.{Order}
use Rattle.game_orders.specs.declared.entry.Entry.{Entry}
use Rattle.frame_core.specs.Column.{Column, length_of, column_of}
use Rattle.frame_core.specs.World.{world_at}
use Rattle.frame_table.specs.declared.pass.Pass.{Pass}
use Rattle.frame_table.specs.declared.table.FrameTable.{FrameTable}
use Rattle.frame_table.specs.Part.{Part}
use Rattle.frame_table.specs.Word.{whole_of}
use Rattle.frame_table.specs.Calls.{plan_of, view_of, standing, IsPassOf}

-- A client's column at the end of the match: its script's plays, then its departure.
abbrev pub script_column : List (List Order) → Column
script_column plays = record { plays = plays; left = true }

abbrev pub script_columns : List (List (List Order)) → List Column
script_columns scripts = map script_column scripts

-- The greatest number of plays of a column.
abbrev pub longest : List Column → ℕ
longest [] = 0
longest (column ∷ columns) = max (length_of column) (longest columns)

-- The number of frames of a match of these scripts.
abbrev pub frames_of : List (List (List Order)) → ℕ
frames_of scripts = longest (script_columns scripts)

-- The world after all frames of these scripts, where no bots play beside them.
abbrev pub world_of : {W : Type 0} → (W → List Entry → W) → W → List (List (List Order)) → W
world_of after start scripts = world_at after start (script_columns scripts) (frames_of scripts)

-- All of the column was seen, and is known.
pub record IsAll (part : Part) (column : Column) : Type 0 where
  pub reach : part.reach ≡ whole_of column
  pub known : part.known ≡ column

-- The table that a run filled with these columns, each of which its client left, with a pass that
-- has the whole share: so each other pass was joined into it. It knows each whole column.
pub record IsFilled (filled : List Column) (table : FrameTable) (pass : Pass) : Type 0 where
  pub of_table : IsPassOf table pass
  pub clients : length (plan_of table) ≡ length filled
  pub share : (view_of pass).share ≡ 2 ^ 62
  pub columns : (c : ℕ) → c < length filled → IsAll (standing pass c) (column_of filled c)
  pub left : (c : ℕ) → c < length filled → (column_of filled c).left ≡ true
