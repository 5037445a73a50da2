-- The tick: what a world becomes by one frame, which has an entry for each client by rising number.
use Rattle.std.specs.Prelude.{ℕ, zero, suc, ◌+◌, List, [], ◌∷◌}
use Rattle.game_orders.specs.declared.entry.Entry.{Entry}
use Rattle.game_orders.specs.declared.entry.Entry.TheVariants.{Play, Leave}
use Rattle.game_model.specs.declared.world.World.{World}
use Rattle.game_model.specs.Setup.{Setup}
use Rattle.game_tick.specs.Departures.{with_departures}
use Rattle.game_tick.specs.Orders.{after_orders}
use Rattle.game_tick.specs.Turn.{after_turn}

-- The world after the orders of one client's entry.
abbrev pub after_entry : Setup → World → (client : ℕ) → Entry → World
after_entry setup w client (Play orders) = after_orders setup w client orders
after_entry setup w client Leave = w

-- The world after the orders of these entries, the first of which is that of client c.
abbrev pub after_entries : Setup → (c : ℕ) → World → List Entry → World
after_entries setup c w [] = w
after_entries setup c w (entry ∷ entries) =
    after_entries setup (c + 1) (after_entry setup w c entry) entries

-- The orders of the plays are applied by rising client.
abbrev pub with_orders : Setup → World → List Entry → World
with_orders setup w frame = after_entries setup 0 w frame

-- The world after so many turns.
abbrev pub after_turns : Setup → (turns : ℕ) → World → World
after_turns setup zero w = w
after_turns setup (suc more) w = after_turns setup more (after_turn setup w)

-- First, each client whose entry is a Leave becomes gone. Second, the orders of the plays are
-- applied. Last, as many turns are run as the pace said before the frame, so that a new pace holds
-- from the next frame on.
abbrev pub tick_of : Setup → World → List Entry → World
tick_of setup w frame =
    after_turns setup w.pace (with_orders setup (with_departures w frame) frame)
