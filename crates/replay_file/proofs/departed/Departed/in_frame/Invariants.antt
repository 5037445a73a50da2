use Rattle.std.proofs.Common.{◌≡◌, take}
use Rattle.replay_file.specs.PartRules.{departed_in}
use Rattle.replay_file.proofs.departed.Departed.in_frame.Given as goal

abbrev pub invariant-loop-client : goal.invariant-loop-client
invariant-loop-client l = l.held.items ≡ departed_in (take l.client l.frame)
