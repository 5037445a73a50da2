use Rattle.std.proofs.Common.{Some, sym, ap, map, arith}
use Rattle.command_words.specs.RequestPlain.{Migrate, plain_match}
use Rattle.command_answers.specs.Given.{replay_contents}
use Rattle.command_answers.specs.WantedFiles.{rules_and_map, with_replay}
use Rattle.match_commands.specs.KeptMatches.{KeepsReplay}
use Rattle.match_commands.specs.Replayed.{migrated_step}
use Rattle.match_commands.proofs.AnswerLemmas.{answer_printed, all_migrated_fits}
use Rattle.match_commands.proofs.FilesLemmas.{all_given, files_stopped}
use Rattle.match_commands.proofs.KeptLemmas.{answer_kept, kept_over, stopped_short}
use Rattle.match_commands.proofs.replaying.run_migrate.Goals as goal

-- The files were read.
pub returns-in-Ok-clause-runs : goal.returns-in-Ok-clause-runs
returns-in-Ok-clause-runs g c =
    let query = plain_match c.args.query.now in
    let contents = replay_contents c.in-Ok.given in
    let d = g.D.Disk.state c.args.disk.now in
    let d1 = g.D.Disk.state c.read_played_files.new.disk in
    let d' = g.D.Disk.state c.print_answer.new.disk in
    let s = g.K.Sink.state c.args.out.now in
    let s' = g.K.Sink.state c.print_answer.new.out in
    all_given (Migrate query c.args.to.now) (with_replay query.file (rules_and_map (map (λ name. name.now) c.as_slice-names.result.now) query.map_file)) contents c.print_answer.result d d' s s'
    (ap (λ names. with_replay query.file (rules_and_map names query.map_file)) (sym c.as_slice-names.ensures))
    (omega (arith, c.in-Ok.ensures.later, c.print_answer.ensures.disk)) c.print_answer.ensures.later c.in-Ok.ensures.observable c.in-Ok.ensures.opaque
    (answer_printed (Some c.args.to.now) c.answer_migrate.result (migrated_step query c.args.to.now contents) c.print_answer.result d d1 d' s s' c.in-Ok.ensures.files c.in-Ok.ensures.later
    (all_migrated_fits query c.args.to.now contents) c.answer_migrate.ensures.reply c.print_answer.ensures.answers)

-- One of them was not.
pub returns-in-Err-clause-runs : goal.returns-in-Err-clause-runs
returns-in-Err-clause-runs g c =
    let query = plain_match c.args.query.now in
    files_stopped (Migrate query c.args.to.now) (with_replay query.file (rules_and_map (map (λ name. name.now) c.as_slice-names.result.now) query.map_file)) c.in-Err.stop c.print_stop.result
    (g.D.Disk.state c.args.disk.now) (g.D.Disk.state c.read_played_files.new.disk) (g.K.Sink.state c.args.out.now) (g.K.Sink.state c.print_stop.new.out)
    (ap (λ names. with_replay query.file (rules_and_map names query.map_file)) (sym c.as_slice-names.ensures))
    c.in-Err.ensures.files c.in-Err.ensures.later c.print_stop.ensures.later c.in-Err.ensures.observable c.in-Err.ensures.opaque
    c.print_stop.ensures.prints

-- The file that was written keeps its match.
pub returns-in-Ok-clause-keeps : goal.returns-in-Ok-clause-keeps
returns-in-Ok-clause-keeps g c = λ done.
    let query = plain_match c.args.query.now in
    let contents = replay_contents c.in-Ok.given in
    kept_over (KeepsReplay query) (Migrate query c.args.to.now) (with_replay query.file (rules_and_map (map (λ name. name.now) c.as_slice-names.result.now) query.map_file)) contents
    (g.D.Disk.state c.args.disk.now).files (ap (λ names. with_replay query.file (rules_and_map names query.map_file)) (sym c.as_slice-names.ensures)) c.in-Ok.ensures.observable
    (answer_kept (KeepsReplay query contents) c.answer_migrate.result (migrated_step query c.args.to.now contents) c.print_answer.result
    (g.D.Disk.state c.read_played_files.new.disk) (g.D.Disk.state c.print_answer.new.disk) (g.K.Sink.state c.args.out.now) (g.K.Sink.state c.print_answer.new.out)
    c.answer_migrate.ensures.reply c.answer_migrate.ensures.keeps c.print_answer.ensures.answers done)

pub returns-in-Err-clause-keeps : goal.returns-in-Err-clause-keeps
returns-in-Err-clause-keeps g c = λ done. absurd (stopped_short _ _ _ _ c.print_stop.ensures.prints done)
