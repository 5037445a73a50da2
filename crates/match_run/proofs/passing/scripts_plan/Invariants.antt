use Rattle.std.proofs.Common.{◌≡◌, take, length}
use Rattle.match_run.specs.Passes.{script_plan}
use Rattle.match_run.proofs.passing.scripts_plan.Given as goal

abbrev pub invariant-loop-c : goal.invariant-loop-c
invariant-loop-c l = (l.each ≡ take l.c (script_plan l.scripts)) × (l.c-end ≡ length l.scripts)
