-- The parts of a replay as bytes. Each part has one spelling.
use Rattle.std.specs.Prelude.{ℕ, ◌<◌, ◌^◌, List, ◌++◌}
use Rattle.std.specs.List.{flat_map, AllByRecursion}
use Rattle.wire_bytes.specs.Field.{field_bytes}
use Rattle.game_orders.specs.declared.entry.Entry.{Entry}
use Rattle.game_orders.specs.declared.entry.Entry.TheVariants.{Play, Leave}
use Rattle.game_orders.specs.OrderBytes.{orders_bytes, FitsOrders}
use Rattle.replay_file.specs.declared.part.Part.{Part}
use Rattle.replay_file.specs.declared.part.Part.TheVariants.{Frame, Mark}

-- The entry of one client: 1 and its orders, or 0 where it has departed.
abbrev pub entry_bytes : Entry → List ℕ
entry_bytes (Play orders) = field_bytes 1 1 ++ orders_bytes orders
entry_bytes Leave = field_bytes 1 0

-- The entries by rising client.
abbrev pub entries_bytes : List Entry → List ℕ
entries_bytes entries = flat_map entry_bytes entries

-- A part: 1 and the entries of a frame, or 2 and the hash of a mark.
unfoldable pub part_bytes : Part → List ℕ
part_bytes (Frame entries) = field_bytes 1 1 ++ entries_bytes entries
part_bytes (Mark hash) = field_bytes 1 2 ++ field_bytes 8 hash

-- The parts one after the other.
abbrev pub parts_bytes : List Part → List ℕ
parts_bytes parts = flat_map part_bytes parts

-- The byte that ends a replay.
abbrev pub end_bytes : List ℕ
end_bytes = field_bytes 1 0

-- The numbers of a part fit their fields, as those of every part that code holds do.
abbrev pub FitsEntry : Entry → Type 0
FitsEntry (Play orders) = FitsOrders orders
FitsEntry Leave = Unit {0}

abbrev pub FitsPart : Part → Type 0
FitsPart (Frame entries) = AllByRecursion FitsEntry entries
FitsPart (Mark hash) = hash < 2 ^ 64
