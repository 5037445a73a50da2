-- Plays and departures. Entries are compared by their values.
use Rattle.std.specs.Prelude.{Bool, true, false}
use Rattle.game_orders.specs.declared.entry.Entry.{Entry}
use Rattle.game_orders.specs.declared.entry.Entry.TheVariants.{Play, Leave}
use Rattle.game_orders.specs.Order.{same_orders}

-- The entry is a play.
abbrev pub is_play : Entry → Bool
is_play (Play orders) = true
is_play Leave = false

-- The two are the same entry.
abbrev pub same_entry : Entry → Entry → Bool
same_entry (Play orders) (Play others) = same_orders orders others
same_entry (Play orders) Leave = false
same_entry Leave (Play others) = false
same_entry Leave Leave = true
