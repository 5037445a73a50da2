use Rattle.std.proofs.Common.{None, sym, ap, map}
use Rattle.command_words.specs.RequestPlain.{Drill, plain_match}
use Rattle.command_answers.specs.Given.{script_contents}
use Rattle.command_answers.specs.WantedFiles.{rules_and_map, with_script}
use Rattle.match_commands.specs.Drills.{prepared_step}
use Rattle.match_commands.proofs.DrillLemmas.{report_printed}
use Rattle.match_commands.proofs.FilesLemmas.{all_given, files_stopped}
use Rattle.match_commands.proofs.command.run_script.Goals as goal

-- The files were read.
pub returns-in-Ok : goal.returns-in-Ok
returns-in-Ok g c =
    let query = plain_match c.args.query.now in
    let contents = script_contents c.in-Ok.given in
    let d = g.D.Disk.state c.args.disk.now in
    let d' = g.D.Disk.state c.read_played_files.new.disk in
    let s = g.K.Sink.state c.args.out.now in
    let s' = g.K.Sink.state c.report_drill.new.out in
    all_given (Drill query None) (with_script query.file (rules_and_map (map (λ name. name.now) c.as_slice-names.result.now) query.map_file)) contents c.report_drill.result d d' s s'
    (ap (λ names. with_script query.file (rules_and_map names query.map_file)) (sym c.as_slice-names.ensures))
    c.in-Ok.ensures.later c.report_drill.ensures.later c.in-Ok.ensures.observable c.in-Ok.ensures.opaque
    (report_printed None c.prepare_drill.result (prepared_step query contents) c.report_drill.result d d' s s' c.in-Ok.ensures.files
    c.prepare_drill.ensures c.report_drill.ensures.prints)

-- One of them was not.
pub returns-in-Err : goal.returns-in-Err
returns-in-Err g c =
    let query = plain_match c.args.query.now in
    files_stopped (Drill query None) (with_script query.file (rules_and_map (map (λ name. name.now) c.as_slice-names.result.now) query.map_file)) c.in-Err.stop c.print_stop.result
    (g.D.Disk.state c.args.disk.now) (g.D.Disk.state c.read_played_files.new.disk) (g.K.Sink.state c.args.out.now) (g.K.Sink.state c.print_stop.new.out)
    (ap (λ names. with_script query.file (rules_and_map names query.map_file)) (sym c.as_slice-names.ensures))
    c.in-Err.ensures.files c.in-Err.ensures.later c.print_stop.ensures.later c.in-Err.ensures.observable c.in-Err.ensures.opaque
    c.print_stop.ensures.prints
