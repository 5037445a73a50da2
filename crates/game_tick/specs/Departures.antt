-- Departures: which clients have departed after a frame, which has an entry for each client by
-- rising number.
use Rattle.std.specs.Prelude.{Bool, true, List, [], ◌∷◌}
use Rattle.game_orders.specs.declared.entry.Entry.{Entry}
use Rattle.game_orders.specs.declared.entry.Entry.TheVariants.{Play, Leave}
use Rattle.game_model.specs.declared.world.World.{World}

-- A client has departed once it had before or its entry is a Leave.
abbrev pub gone_by : Bool → Entry → Bool
gone_by before (Play orders) = before
gone_by before Leave = true

-- The departure flags after the departures of a frame.
abbrev pub gone_after : List Bool → List Entry → List Bool
gone_after [] frame = []
gone_after (before ∷ flags) [] = before ∷ flags
gone_after (before ∷ flags) (entry ∷ entries) = gone_by before entry ∷ gone_after flags entries

-- The world in which each client whose entry is a Leave has departed.
abbrev pub with_departures : World → List Entry → World
with_departures w frame = record w { gone = gone_after w.gone frame }
