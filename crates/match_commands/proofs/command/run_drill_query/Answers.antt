use Rattle.match_commands.proofs.command.run_drill_query.Goals as goal

-- The drill is recorded.
pub returns-in-Some-clause-keeps : goal.returns-in-Some-clause-keeps
returns-in-Some-clause-keeps g c = rw (c.in-Some.is) c.run_recorded_script.ensures.keeps

-- No file is written.
pub returns-in-None-clause-keeps : goal.returns-in-None-clause-keeps
returns-in-None-clause-keeps g c = rw (c.in-None.is) (λ done. tt)
