use Rattle.std.proofs.Common.{◌≡◌, drop}
use Rattle.game_io.specs.Plan.{remains_at}
use Rattle.game_io.proofs.schedule.remains_at.Given as goal

abbrev pub invariant-loop-planned : goal.invariant-loop-planned
invariant-loop-planned l = remains_at l.calls (drop l.planned-index l.failing) ≡ remains_at l.calls l.failing
