use Rattle.std.proofs.Common.{refl, inl, inr}
use Rattle.match_commands.specs.Drills.{drill_report}
use Rattle.match_commands.proofs.reporting.run_report.Goals.{in-Ok, in-Err-Write, in-Err-NoMemory}
use Rattle.match_commands.proofs.reporting.run_report.Goals as goal

-- The drill was run, and its report was written; or a write failed; or memory ran out.
pub returns-clause-prints : goal.returns-clause-prints
unfolding drill_report
returns-clause-prints g c = elim c.match-run_drill.branch [
  | in-Ok w ↦ rw w.result-is (inl (inl (refl, w.in-Ok.ensures.writes.wrote)))
  | in-Err-Write w ↦ rw w.result-is (inl (inr (refl, w.in-Err-Write.ensures.writes.failed (rw w.in-Err-Write.field-0-is refl), w.in-Err-Write.ensures.writes.prefix)))
  | in-Err-NoMemory w ↦ rw w.result-is (inr (refl, w.in-Err-NoMemory.ensures.writes.prefix))
]
