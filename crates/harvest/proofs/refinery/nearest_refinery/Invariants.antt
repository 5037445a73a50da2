use Rattle.std.proofs.Common.{◌-◌}
use Rattle.std.specs.Option.{option_copied}
use Rattle.actor_table.specs.Kinds.{next_number}
use Rattle.game_model.specs.NearestActor.{IsNearest}
use Rattle.harvest.specs.Refineries.{IsRefineryBelow}
use Rattle.harvest.proofs.refinery.nearest_refinery.Given as goal

abbrev pub invariant-loop-kind : goal.invariant-loop-kind
invariant-loop-kind l =
    IsNearest l.a.cell (IsRefineryBelow l.rules l.t.actors l.a (next_number l.last)) (option_copied l.best)

abbrev pub decreases-loop-kind : goal.decreases-loop-kind
decreases-loop-kind l = 65536 - next_number l.last
