-- The next part of a replay read from bytes, field by field from the left: the part and the bytes
-- after it, the end, or the first fault.
use Rattle.std.specs.Prelude.{ℕ, zero, suc, ◌==◌, nat_lt, Bool, not, ◌&&◌, if◌then◌else◌}
use Rattle.std.specs.Prelude.{List, [], ◌∷◌, ◌++◌, Option, Some, None, Result, Ok, Err}
use Rattle.std.specs.List.{list_any}
use Rattle.base.specs.Steps.{◌>>=◌}
use Rattle.wire_bytes.specs.Read.{number_at}
use Rattle.game_orders.specs.declared.limits.TheConstants.{MAX_ORDERS}
use Rattle.game_orders.specs.declared.order.Order.{Order}
use Rattle.game_orders.specs.declared.entry.Entry.{Entry}
use Rattle.game_orders.specs.declared.entry.Entry.TheVariants.{Play, Leave}
use Rattle.game_orders.specs.declared.order_fault.OrderFault.{OrderFault}
use Rattle.game_orders.specs.declared.order_fault.OrderFault.TheVariants as order_fault
use Rattle.game_orders.specs.Entry.{is_play}
use Rattle.game_orders.specs.OrderReading.{OrderRead, order_at}
use Rattle.replay_file.specs.declared.part.Part.{Part}
use Rattle.replay_file.specs.declared.part.Part.TheVariants.{Frame, Mark}
use Rattle.replay_file.specs.declared.part_fault.PartFault.{PartFault}
use Rattle.replay_file.specs.declared.part_fault.PartFault.TheVariants.{Short, Bad}
use Rattle.replay_file.specs.declared.standing.Standing.{Standing}
use Rattle.replay_file.specs.PartRules.{most_frames, greatest_tag}

-- A value and the bytes after it, or the fault.
abbrev pub PartRead : Type 0 → Type 0
PartRead A = Result (A × List ℕ) PartFault

-- The fault of a part for that of an order in it.
abbrev pub part_fault : OrderFault → PartFault
part_fault order_fault.Short = Short
part_fault order_fault.BadTag = Bad
part_fault order_fault.BadFlag = Bad

abbrev pub in_part : OrderRead Order → PartRead Order
in_part (Ok read) = Ok read
in_part (Err fault) = Err (part_fault fault)

-- An order whose tag is at most the greatest of the version.
unfoldable pub order_in : ℕ → List ℕ → PartRead Order
order_in greatest bytes = do
  tag ← number_at Short 1 bytes
  if nat_lt greatest tag.0 then Err Bad else in_part (order_at bytes)

-- So many more orders after those that are held.
unfoldable pub orders_after : ℕ → List Order → ℕ → List ℕ → PartRead (List Order)
orders_after greatest held zero bytes = Ok (held, bytes)
orders_after greatest held (suc more) bytes =
    order_in greatest bytes >>= λ next. orders_after greatest (held ++ next.0 ∷ []) more next.1

-- The orders of one client: their number, at most `MAX_ORDERS`, then each of them.
unfoldable pub orders_in : ℕ → List ℕ → PartRead (List Order)
orders_in greatest bytes = do
  count ← number_at Short 1 bytes
  if nat_lt MAX_ORDERS count.0 then Err Bad else orders_after greatest [] count.0 count.1

-- A play.
unfoldable pub play_in : ℕ → List ℕ → PartRead Entry
play_in greatest bytes = do
  orders ← orders_in greatest bytes
  Ok (Play orders.0, orders.1)

-- The entry of a client that has departed before, or has not: 0 for a departure, 1 for a play,
-- which no departed client has.
unfoldable pub entry_in : ℕ → Bool → List ℕ → PartRead Entry
entry_in greatest gone bytes = do
  kind ← number_at Short 1 bytes
  if kind.0 == 0 then Ok (Leave, kind.1)
      else (if (kind.0 == 1) && not gone then play_in greatest kind.1 else Err Bad)

-- An entry for each client that is left, after those that are held.
unfoldable pub entries_after : ℕ → List Entry → List Bool → List ℕ → PartRead (List Entry)
entries_after greatest held [] bytes = Ok (held, bytes)
entries_after greatest held (gone ∷ more) bytes =
    entry_in greatest gone bytes >>= λ next.
    entries_after greatest (held ++ next.0 ∷ []) more next.1

-- The entries of a frame. That no client plays is found after the last of them.
unfoldable pub frame_in : ℕ → List Bool → List ℕ → PartRead Part
frame_in greatest departed bytes = do
  entries ← entries_after greatest [] departed bytes
  if list_any is_play entries.0 then Ok (Frame entries.0, entries.1) else Err Bad

-- The hash of a mark.
unfoldable pub mark_in : List ℕ → PartRead Part
mark_in bytes = do
  hash ← number_at Short 8 bytes
  Ok (Mark hash.0, hash.1)

-- The part with this tag after parts with this standing: 1 is a frame, 2 a mark. A frame too many
-- and a mark directly after a mark are found at the tag.
unfoldable pub part_in : ℕ → Standing → ℕ → List ℕ → PartRead Part
part_in version s tag bytes =
    if (tag == 1) && nat_lt s.frames (most_frames version)
    then frame_in (greatest_tag version) s.departed bytes
    else (if (tag == 2) && not s.marked then mark_in bytes else Err Bad)

abbrev pub some_part : PartRead Part → PartRead (Option Part)
some_part (Ok read) = Ok (Some read.0, read.1)
some_part (Err fault) = Err fault

-- The next part after parts with this standing, its tag first. The tag 0 is the end.
unfoldable pub next_in : ℕ → Standing → List ℕ → PartRead (Option Part)
next_in version s bytes = do
  tag ← number_at Short 1 bytes
  if tag.0 == 0 then Ok (None, tag.1) else some_part (part_in version s tag.0 tag.1)
