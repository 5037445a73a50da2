use Rattle.std.proofs.Common.{length}
use Rattle.drill_words.proofs.ScriptLemmas.{ReadSoFar}
use Rattle.drill_words.proofs.script_reading.read_plays.Given as goal

abbrev pub invariant-loop-number : goal.invariant-loop-number
invariant-loop-number l = ReadSoFar l.clients l.fn.lines l.lines l.scripts l.before

abbrev pub decreases-loop-number : goal.decreases-loop-number
decreases-loop-number l = length l.lines
