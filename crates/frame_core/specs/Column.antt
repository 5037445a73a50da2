-- A column: one client's plays, frame by frame from 0, then perhaps its departure.
use Rattle.std.specs.Prelude.{ℕ, ◌≤◌, ◌==◌, nat_lt, Bool, true, false, ◌&&◌, if◌then◌else◌, List}
use Rattle.std.specs.Prelude.{[], ◌∷◌, ◌++◌, length, Option, Some, None, slice_get, slice_index_or}
use Rattle.game_orders.specs.declared.order.Order.{Order}
use Rattle.game_orders.specs.declared.entry.Entry.{Entry}
use Rattle.game_orders.specs.declared.entry.Entry.TheVariants.{Play, Leave}
use Rattle.game_orders.specs.declared.limits.TheConstants.{MAX_FRAMES}
use Rattle.game_orders.specs.Entry.{is_play, same_entry}
use Rattle.frame_core.specs.declared.put.Put.{Put}
use Rattle.frame_core.specs.declared.put.Put.TheVariants.{Fixed, Repeat, Conflict, Left, Ahead}
use Rattle.frame_core.specs.declared.put.Put.TheVariants.{Full}
use Rattle.frame_core.specs.declared.leaving.Leaving.{Leaving}
use Rattle.frame_core.specs.declared.leaving.Leaving.TheVariants.{Already, Fixed as FixedAt}

-- The plays of one client, and whether its departure stands after them.
pub record Column : Type 0 where
  pub plays : List (List Order)
  pub left : Bool

-- A client that has played nothing yet.
abbrev pub no_column : Column
no_column = record { plays = []; left = false }

-- The length of a column is its number of plays. Its departure, if there is one, stands at that
-- frame.
abbrev pub length_of : Column → ℕ
length_of column = length column.plays

-- The play if there is one, else a departure if there is one.
abbrev pub entry_from : Option (List Order) → Bool → Option Entry
entry_from (Some orders) left = Some (Play orders)
entry_from None true = Some Leave
entry_from None false = None

-- The entry that stands at frame n: the play there, or the departure where it stands at n.
abbrev pub entry_at : Column → ℕ → Option Entry
entry_at column n = entry_from (slice_get column.plays n) (column.left && (n == length_of column))

-- What the client has for frame n: its play there, or its departure at n or before it.
abbrev pub has_at : Column → ℕ → Option Entry
has_at column n = entry_from (slice_get column.plays n) column.left

-- The answer to a put, by the entry that stands at its frame: the first applicable case.
abbrev pub put_by : Option Entry → Column → ℕ → Entry → Put
put_by (Some kept) column n entry = if same_entry entry kept then Repeat else Conflict kept
put_by None column n entry =
    if column.left && nat_lt (length_of column) n then Left (length_of column)
    else (if nat_lt (length_of column) n then Ahead (length_of column)
    else (if is_play entry && (n == MAX_FRAMES) then Full
    else Fixed))

abbrev pub put_answer : Column → ℕ → Entry → Put
put_answer column n entry = put_by (entry_at column n) column n entry

-- The column with one more entry.
abbrev pub with_entry : Column → Entry → Column
with_entry column (Play orders) = record column { plays = column.plays ++ orders ∷ [] }
with_entry column Leave = record column { left = true }

-- Only `Fixed` changes a column.
abbrev pub after_answer : Put → Column → Entry → Column
after_answer Fixed column entry = with_entry column entry
after_answer Repeat column entry = column
after_answer (Conflict kept) column entry = column
after_answer (Left at) column entry = column
after_answer (Ahead plays) column entry = column
after_answer Full column entry = column

-- The column after a put.
abbrev pub put_column : Column → ℕ → Entry → Column
put_column column n entry = after_answer (put_answer column n entry) column entry

-- The answer to a departure.
abbrev pub leave_answer : Column → Leaving
leave_answer column = if column.left then Already (length_of column) else FixedAt (length_of column)

-- The column after a departure.
abbrev pub left_column : Column → Column
left_column column = record column { left = true }

-- The column of client c.
abbrev pub column_of : List Column → ℕ → Column
column_of columns c = slice_index_or columns c no_column

-- No column has more plays than a match may have frames.
abbrev pub IsWithinFrames : Column → Type 0
IsWithinFrames column = length_of column ≤ MAX_FRAMES
