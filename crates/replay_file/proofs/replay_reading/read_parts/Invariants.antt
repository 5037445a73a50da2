use Rattle.std.proofs.Common.{length}
use Rattle.replay_file.specs.ReadClauses.{ReadSoFar}
use Rattle.replay_file.proofs.replay_reading.read_parts.Given as goal

abbrev pub invariant-loop-frame : goal.invariant-loop-frame
invariant-loop-frame l = ReadSoFar l.version l.clients l.fn.c l.c l.parts l.standing

abbrev pub decreases-loop-frame : goal.decreases-loop-frame
decreases-loop-frame l = length l.c
