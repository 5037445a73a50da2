use Rattle.std.proofs.Common.{Some, refl, sym, ap, map}
use Rattle.command_words.specs.RequestPlain.{Route, plain_route}
use Rattle.command_answers.specs.Given.{given_contents}
use Rattle.command_answers.specs.WantedFiles.{rules_and_map}
use Rattle.match_commands.proofs.FilesLemmas.{files_given, files_stopped}
use Rattle.match_commands.proofs.command.run_route.Goals as goal

-- The files were read.
pub returns-in-Ok : goal.returns-in-Ok
returns-in-Ok g c =
    let query = plain_route c.args.query.now in
    files_given (Route query) (rules_and_map (map (λ name. name.now) c.as_slice.result.now) (Some query.map_file)) (given_contents c.in-Ok.given) c.route_text.result _ c.print_text.result
    (g.D.Disk.state c.args.disk.now) (g.D.Disk.state c.read_files.new.disk) (g.K.Sink.state c.args.out.now) (g.K.Sink.state c.print_text.new.out)
    (ap (λ names. rules_and_map names (Some query.map_file)) (sym c.as_slice.ensures))
    c.in-Ok.ensures.files c.in-Ok.ensures.later c.print_text.ensures.later c.in-Ok.ensures.observable c.in-Ok.ensures.opaque
    c.route_text.ensures refl c.print_text.ensures.prints

-- One of them was not.
pub returns-in-Err : goal.returns-in-Err
returns-in-Err g c =
    let query = plain_route c.args.query.now in
    files_stopped (Route query) (rules_and_map (map (λ name. name.now) c.as_slice.result.now) (Some query.map_file)) c.in-Err.stop c.print_stop.result
    (g.D.Disk.state c.args.disk.now) (g.D.Disk.state c.read_files.new.disk) (g.K.Sink.state c.args.out.now) (g.K.Sink.state c.print_stop.new.out)
    (ap (λ names. rules_and_map names (Some query.map_file)) (sym c.as_slice.ensures))
    c.in-Err.ensures.files c.in-Err.ensures.later c.print_stop.ensures.later c.in-Err.ensures.observable c.in-Err.ensures.opaque
    c.print_stop.ensures.prints
