-- The greatest so far and the greatest of what is left are together the greatest of all.
use Rattle.std.proofs.Common.{◌≡◌, drop, max}
use Rattle.match_run.specs.Local.{longest}
use Rattle.match_run.proofs.frames.longest.Given as goal

abbrev pub invariant-loop-c : goal.invariant-loop-c
invariant-loop-c l = max l.most (longest (drop l.c l.columns)) ≡ longest l.columns
