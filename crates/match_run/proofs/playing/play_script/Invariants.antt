use Rattle.std.proofs.Common.{◌≡◌, length}
use Rattle.drill_words.specs.Scripts.{plays_of}
use Rattle.match_run.proofs.LocalPasses.{PutSoFar}
use Rattle.match_run.proofs.playing.play_script.Given as goal

abbrev pub invariant-loop-n : goal.invariant-loop-n
invariant-loop-n g l = PutSoFar l.scripts l.table l.initial.pass l.pass l.c l.n × (l.n-end ≡ length (plays_of l.scripts l.c))
