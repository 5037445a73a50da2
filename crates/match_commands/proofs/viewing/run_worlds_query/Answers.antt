use Rattle.std.proofs.Common.{sym, ap, map}
use Rattle.command_words.specs.RequestPlain.{Worlds, plain_match, plain_range}
use Rattle.command_answers.specs.Given.{replay_contents}
use Rattle.command_answers.specs.WantedFiles.{rules_and_map, with_replay}
use Rattle.rule_commands.specs.Numbers.{numbered_setup_step}
use Rattle.match_commands.proofs.AnswerLemmas.{worlds_printed}
use Rattle.match_commands.proofs.FilesLemmas.{all_given, files_stopped}
use Rattle.match_commands.proofs.viewing.run_worlds_query.Goals as goal

-- The files were read.
pub returns-in-Ok : goal.returns-in-Ok
returns-in-Ok g c =
    let query = plain_match c.args.query.now in
    let range = plain_range c.args.range in
    let contents = replay_contents c.in-Ok.given in
    let d = g.D.Disk.state c.args.disk.now in
    let d' = g.D.Disk.state c.read_played_files.new.disk in
    let s = g.K.Sink.state c.args.out.now in
    let s' = g.K.Sink.state c.print_range.new.out in
    let returns = rw c.as_slice-names.ensures at c.read_numbered_maker-made.ensures in
    all_given (Worlds query range) (with_replay query.file (rules_and_map (map (λ name. name.now) c.as_slice-names.result.now) query.map_file)) contents c.print_range.result d d' s s'
    (ap (λ names. with_replay query.file (rules_and_map names query.map_file)) (sym c.as_slice-names.ensures))
    c.in-Ok.ensures.later c.print_range.ensures.later c.in-Ok.ensures.observable c.in-Ok.ensures.opaque
    (worlds_printed query range c.in-Ok.given.1.items c.read_numbered_maker-made.result (numbered_setup_step query.rules query.map_file contents) c.print_range.result d d' s s'
    c.in-Ok.ensures.files returns c.print_range.ensures.prints)

-- One of them was not.
pub returns-in-Err : goal.returns-in-Err
returns-in-Err g c =
    let query = plain_match c.args.query.now in
    let range = plain_range c.args.range in
    files_stopped (Worlds query range) (with_replay query.file (rules_and_map (map (λ name. name.now) c.as_slice-names.result.now) query.map_file)) c.in-Err.stop c.print_stop.result
    (g.D.Disk.state c.args.disk.now) (g.D.Disk.state c.read_played_files.new.disk) (g.K.Sink.state c.args.out.now) (g.K.Sink.state c.print_stop.new.out)
    (ap (λ names. with_replay query.file (rules_and_map names query.map_file)) (sym c.as_slice-names.ensures))
    c.in-Err.ensures.files c.in-Err.ensures.later c.print_stop.ensures.later c.in-Err.ensures.observable c.in-Err.ensures.opaque
    c.print_stop.ensures.prints
