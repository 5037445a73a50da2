-- Departures are applied client by client.
use Rattle.std.specs.Prelude.{ℕ, Bool, true, List, slice_set}
use Rattle.game_orders.specs.declared.entry.Entry.{Entry}
use Rattle.game_orders.specs.declared.entry.Entry.TheVariants.{Play, Leave}

-- The flags after the entry of client c.
abbrev pub departed_by : List Bool → ℕ → Entry → List Bool
departed_by flags c (Play orders) = flags
departed_by flags c Leave = slice_set flags c true
