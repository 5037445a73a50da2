use Rattle.std.proofs.Common.{◌≡◌}
use Rattle.match_run.specs.Passes.{match_plan}
use Rattle.match_run.proofs.passing.plan_of.Given as goal

abbrev pub invariant-loop-bot : goal.invariant-loop-bot
invariant-loop-bot l = l.each ≡ match_plan l.scripts l._bot
