use Rattle.std.proofs.Common.{refl}
use Rattle.command_words.specs.RequestPlain.{Make}
use Rattle.match_commands.specs.Made.{make_step}
use Rattle.match_commands.proofs.FilesLemmas.{nothing_read}
use Rattle.match_commands.proofs.RunLemmas.{request_runs}
use Rattle.match_commands.proofs.command.run_request.Goals as goal

pub returns-in-Drill-clause-runs : goal.returns-in-Drill-clause-runs
returns-in-Drill-clause-runs g c = rw (c.in-Drill.is) (request_runs _ _ _ _ _ c.run_drill_query.ensures.runs)

pub returns-in-Replay-clause-runs : goal.returns-in-Replay-clause-runs
returns-in-Replay-clause-runs g c = rw (c.in-Replay.is) (request_runs _ _ _ _ _ c.run_replay.ensures)

pub returns-in-Migrate-clause-runs : goal.returns-in-Migrate-clause-runs
returns-in-Migrate-clause-runs g c = rw (c.in-Migrate.is) (request_runs _ _ _ _ _ c.run_migrate.ensures.runs)

pub returns-in-Save-clause-runs : goal.returns-in-Save-clause-runs
returns-in-Save-clause-runs g c = rw (c.in-Save.is) (request_runs _ _ _ _ _ c.run_save.ensures.runs)

pub returns-in-Continue-clause-runs : goal.returns-in-Continue-clause-runs
returns-in-Continue-clause-runs g c = rw (c.in-Continue.is) (request_runs _ _ _ _ _ c.run_continue.ensures)

pub returns-in-View-clause-runs : goal.returns-in-View-clause-runs
returns-in-View-clause-runs g c = rw (c.in-View.is) (request_runs _ _ _ _ _ c.run_view.ensures)

pub returns-in-Worlds-clause-runs : goal.returns-in-Worlds-clause-runs
returns-in-Worlds-clause-runs g c = rw (c.in-Worlds.is) (request_runs _ _ _ _ _ c.run_worlds_query.ensures)

pub returns-in-Compare-clause-runs : goal.returns-in-Compare-clause-runs
returns-in-Compare-clause-runs g c = rw (c.in-Compare.is) (request_runs _ _ _ _ _ c.run_compare.ensures)

pub returns-in-Yaml-clause-runs : goal.returns-in-Yaml-clause-runs
returns-in-Yaml-clause-runs g c = rw (c.in-Yaml.is) (request_runs _ _ _ _ _ c.run_yaml.ensures)

pub returns-in-Check-clause-runs : goal.returns-in-Check-clause-runs
returns-in-Check-clause-runs g c = rw (c.in-Check.is) (request_runs _ _ _ _ _ c.run_check.ensures)

pub returns-in-Route-clause-runs : goal.returns-in-Route-clause-runs
returns-in-Route-clause-runs g c = rw (c.in-Route.is) (request_runs _ _ _ _ _ c.run_route.ensures)

-- The made match reads no files.
pub returns-in-Make-clause-runs : goal.returns-in-Make-clause-runs
returns-in-Make-clause-runs g c =
    rw (c.in-Make.is)
    (request_runs _ _ _ _ _
    (nothing_read (Make c.in-Make.number) c.make_text.result (make_step c.in-Make.number) c.print_text.result
    (g.D.Disk.state c.args.disk.now) (g.K.Sink.state c.args.out.now) (g.K.Sink.state c.print_text.new.out)
    refl c.print_text.ensures.later c.make_text.ensures refl c.print_text.ensures.prints))

-- ---- files that keep their matches

pub returns-in-Drill-clause-keeps : goal.returns-in-Drill-clause-keeps
returns-in-Drill-clause-keeps g c = rw (c.in-Drill.is) c.run_drill_query.ensures.keeps

pub returns-in-Migrate-clause-keeps : goal.returns-in-Migrate-clause-keeps
returns-in-Migrate-clause-keeps g c = rw (c.in-Migrate.is) c.run_migrate.ensures.keeps

pub returns-in-Save-clause-keeps : goal.returns-in-Save-clause-keeps
returns-in-Save-clause-keeps g c = rw (c.in-Save.is) c.run_save.ensures.keeps

pub returns-in-Yaml-clause-keeps : goal.returns-in-Yaml-clause-keeps
returns-in-Yaml-clause-keeps g c = rw (c.in-Yaml.is) (λ done. tt)

pub returns-in-Check-clause-keeps : goal.returns-in-Check-clause-keeps
returns-in-Check-clause-keeps g c = rw (c.in-Check.is) (λ done. tt)

pub returns-in-Route-clause-keeps : goal.returns-in-Route-clause-keeps
returns-in-Route-clause-keeps g c = rw (c.in-Route.is) (λ done. tt)

pub returns-in-Make-clause-keeps : goal.returns-in-Make-clause-keeps
returns-in-Make-clause-keeps g c = rw (c.in-Make.is) (λ done. tt)

pub returns-in-Replay-clause-keeps : goal.returns-in-Replay-clause-keeps
returns-in-Replay-clause-keeps g c = rw (c.in-Replay.is) (λ done. tt)

pub returns-in-Continue-clause-keeps : goal.returns-in-Continue-clause-keeps
returns-in-Continue-clause-keeps g c = rw (c.in-Continue.is) (λ done. tt)

pub returns-in-View-clause-keeps : goal.returns-in-View-clause-keeps
returns-in-View-clause-keeps g c = rw (c.in-View.is) (λ done. tt)

pub returns-in-Worlds-clause-keeps : goal.returns-in-Worlds-clause-keeps
returns-in-Worlds-clause-keeps g c = rw (c.in-Worlds.is) (λ done. tt)

pub returns-in-Compare-clause-keeps : goal.returns-in-Compare-clause-keeps
returns-in-Compare-clause-keeps g c = rw (c.in-Compare.is) (λ done. tt)

pub returns-in-Datagrams-clause-keeps : goal.returns-in-Datagrams-clause-keeps
returns-in-Datagrams-clause-keeps g c = rw (c.in-Datagrams.is) (λ done. tt)
