use Rattle.std.proofs.Common.{None, sym, ap, map, arith}
use Rattle.command_words.specs.RequestPlain.{Replay, plain_match}
use Rattle.command_answers.specs.Given.{replay_contents}
use Rattle.command_answers.specs.WantedFiles.{rules_and_map, with_replay}
use Rattle.match_commands.specs.Replayed.{replayed_step}
use Rattle.match_commands.proofs.AnswerLemmas.{answer_printed, replayed_fits}
use Rattle.match_commands.proofs.FilesLemmas.{all_given, files_stopped}
use Rattle.match_commands.proofs.replaying.run_replay.Goals as goal

-- The files were read.
pub returns-in-Ok : goal.returns-in-Ok
returns-in-Ok g c =
    let query = plain_match c.args.query.now in
    let contents = replay_contents c.in-Ok.given in
    let d = g.D.Disk.state c.args.disk.now in
    let d1 = g.D.Disk.state c.read_played_files.new.disk in
    let d' = g.D.Disk.state c.print_answer.new.disk in
    let s = g.K.Sink.state c.args.out.now in
    let s' = g.K.Sink.state c.print_answer.new.out in
    all_given (Replay query) (with_replay query.file (rules_and_map (map (λ name. name.now) c.as_slice-names.result.now) query.map_file)) contents c.print_answer.result d d' s s'
    (ap (λ names. with_replay query.file (rules_and_map names query.map_file)) (sym c.as_slice-names.ensures))
    (omega (arith, c.in-Ok.ensures.later, c.print_answer.ensures.disk)) c.print_answer.ensures.later c.in-Ok.ensures.observable c.in-Ok.ensures.opaque
    (answer_printed None c.answer_replay.result (replayed_step query contents) c.print_answer.result d d1 d' s s' c.in-Ok.ensures.files c.in-Ok.ensures.later
    (replayed_fits query contents) c.answer_replay.ensures c.print_answer.ensures.answers)

-- One of them was not.
pub returns-in-Err : goal.returns-in-Err
returns-in-Err g c =
    let query = plain_match c.args.query.now in
    files_stopped (Replay query) (with_replay query.file (rules_and_map (map (λ name. name.now) c.as_slice-names.result.now) query.map_file)) c.in-Err.stop c.print_stop.result
    (g.D.Disk.state c.args.disk.now) (g.D.Disk.state c.read_played_files.new.disk) (g.K.Sink.state c.args.out.now) (g.K.Sink.state c.print_stop.new.out)
    (ap (λ names. with_replay query.file (rules_and_map names query.map_file)) (sym c.as_slice-names.ensures))
    c.in-Err.ensures.files c.in-Err.ensures.later c.print_stop.ensures.later c.in-Err.ensures.observable c.in-Err.ensures.opaque
    c.print_stop.ensures.prints
