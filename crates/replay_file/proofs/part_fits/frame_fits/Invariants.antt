use Rattle.std.proofs.Common.{take}
use Rattle.std.specs.List.{AllByRecursion}
use Rattle.replay_file.specs.PartBytes.{FitsEntry}
use Rattle.replay_file.proofs.part_fits.frame_fits.Given as goal

abbrev pub invariant-loop-client : goal.invariant-loop-client
invariant-loop-client l = AllByRecursion FitsEntry (take l.client l.frame)
