-- A part as code has it: its kind, beside a frame that has the entries where it is a frame.
use Rattle.std.specs.Prelude.{Bool, true, false, List, Option, Some, None, Result, Ok, Err}
use Rattle.game_orders.specs.declared.order.Order.{Order}
use Rattle.game_orders.specs.declared.entry.Entry.{Entry}
use Rattle.game_orders.specs.declared.entry.Entry.TheVariants.{Play, Leave}
use Rattle.replay_file.specs.declared.part.Part.{Part}
use Rattle.replay_file.specs.declared.part.Part.TheVariants.{Frame, Mark}
use Rattle.replay_file.specs.declared.part_kind.PartKind.{PartKind}
use Rattle.replay_file.specs.declared.part_kind.PartKind.TheVariants as kind

-- The part of this kind, beside a frame with these entries.
abbrev pub part_of : PartKind → List Entry → Part
part_of kind.Frame entries = Frame entries
part_of (kind.Mark hash) entries = Mark hash

-- The same where there may be none.
abbrev pub next_of : Option PartKind → List Entry → Option Part
next_of None entries = None
next_of (Some kind) entries = Some (part_of kind entries)

-- The entry of a client: a play of these orders, or its departure.
abbrev pub entry_by : (plays : Bool) → List Order → Entry
entry_by true orders = Play orders
entry_by false orders = Leave

-- The outcome, with what this gives of its value.
abbrev pub with_value : {A B E : Type 0} → (A → B) → Result A E → Result B E
with_value give (Ok value) = Ok (give value)
with_value give (Err fault) = Err fault
