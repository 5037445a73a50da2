use Rattle.std.proofs.Common.{Some, sym, ap, map, arith}
use Rattle.command_words.specs.RequestPlain.{Drill, plain_match}
use Rattle.command_answers.specs.Given.{script_contents}
use Rattle.command_answers.specs.WantedFiles.{rules_and_map, with_script}
use Rattle.match_commands.specs.Drills.{numbered_step}
use Rattle.match_commands.specs.KeptMatches.{KeepsDrill}
use Rattle.match_commands.proofs.DrillLemmas.{record_printed}
use Rattle.match_commands.proofs.FilesLemmas.{all_given, files_stopped}
use Rattle.match_commands.proofs.KeptLemmas.{kept_over, record_kept, stopped_short}
use Rattle.match_commands.proofs.command.run_recorded_script.Goals as goal

-- The files were read.
pub returns-in-Ok-clause-runs : goal.returns-in-Ok-clause-runs
returns-in-Ok-clause-runs g c =
    let query = plain_match c.args.query.now in
    let contents = script_contents c.in-Ok.given in
    let d = g.D.Disk.state c.args.disk.now in
    let d1 = g.D.Disk.state c.read_played_files.new.disk in
    let d' = g.D.Disk.state c.record_drill.new.disk in
    let s = g.K.Sink.state c.args.out.now in
    let s' = g.K.Sink.state c.record_drill.new.out in
    all_given (Drill query (Some c.args.name.now)) (with_script query.file (rules_and_map (map (λ name. name.now) c.as_slice-names.result.now) query.map_file)) contents c.record_drill.result d d' s s'
    (ap (λ names. with_script query.file (rules_and_map names query.map_file)) (sym c.as_slice-names.ensures))
    (omega (arith, c.in-Ok.ensures.later, c.record_drill.ensures.disk)) c.record_drill.ensures.later c.in-Ok.ensures.observable c.in-Ok.ensures.opaque
    (record_printed c.args.name.now c.prepare_recorded-made.result (numbered_step query contents) c.record_drill.result d d1 d' s s' c.in-Ok.ensures.files c.in-Ok.ensures.later
    c.prepare_recorded-made.ensures c.record_drill.ensures.records)

-- One of them was not.
pub returns-in-Err-clause-runs : goal.returns-in-Err-clause-runs
returns-in-Err-clause-runs g c =
    let query = plain_match c.args.query.now in
    files_stopped (Drill query (Some c.args.name.now)) (with_script query.file (rules_and_map (map (λ name. name.now) c.as_slice-names.result.now) query.map_file)) c.in-Err.stop c.print_stop.result
    (g.D.Disk.state c.args.disk.now) (g.D.Disk.state c.read_played_files.new.disk) (g.K.Sink.state c.args.out.now) (g.K.Sink.state c.print_stop.new.out)
    (ap (λ names. with_script query.file (rules_and_map names query.map_file)) (sym c.as_slice-names.ensures))
    c.in-Err.ensures.files c.in-Err.ensures.later c.print_stop.ensures.later c.in-Err.ensures.observable c.in-Err.ensures.opaque
    c.print_stop.ensures.prints

-- The record keeps its match.
pub returns-in-Ok-clause-keeps : goal.returns-in-Ok-clause-keeps
returns-in-Ok-clause-keeps g c = λ done.
    let query = plain_match c.args.query.now in
    let contents = script_contents c.in-Ok.given in
    kept_over (KeepsDrill query) (Drill query (Some c.args.name.now)) (with_script query.file (rules_and_map (map (λ name. name.now) c.as_slice-names.result.now) query.map_file)) contents
    (g.D.Disk.state c.args.disk.now).files (ap (λ names. with_script query.file (rules_and_map names query.map_file)) (sym c.as_slice-names.ensures)) c.in-Ok.ensures.observable
    (record_kept query c.args.name.now contents c.prepare_recorded-made.result c.prepare_recorded-made.ensures (c.record_drill.ensures.replays done))

pub returns-in-Err-clause-keeps : goal.returns-in-Err-clause-keeps
returns-in-Err-clause-keeps g c = λ done. absurd (stopped_short _ _ _ _ c.print_stop.ensures.prints done)
