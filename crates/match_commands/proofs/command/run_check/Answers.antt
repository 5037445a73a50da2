use Rattle.std.proofs.Common.{refl, sym, ap, map}
use Rattle.std.specs.Prelude.{option_map}
use Rattle.command_words.specs.RequestPlain.{Check}
use Rattle.command_answers.specs.Given.{given_contents}
use Rattle.command_answers.specs.WantedFiles.{rules_and_map}
use Rattle.match_commands.proofs.FilesLemmas.{files_given, files_stopped}
use Rattle.match_commands.proofs.command.run_check.Goals as goal

-- The files were read.
pub returns-in-Ok : goal.returns-in-Ok
returns-in-Ok g c =
    let map_file = option_map (λ name. name.now) c.args.map_file in
    files_given (Check map_file c.args.names.now) (rules_and_map (map (λ name. name.now) c.as_slice-names.result.now) map_file) (given_contents c.in-Ok.given) c.check_text.result _ c.print_text.result
    (g.D.Disk.state c.args.disk.now) (g.D.Disk.state c.read_files.new.disk) (g.K.Sink.state c.args.out.now) (g.K.Sink.state c.print_text.new.out)
    (ap (λ names. rules_and_map names map_file) (sym c.as_slice-names.ensures))
    c.in-Ok.ensures.files c.in-Ok.ensures.later c.print_text.ensures.later c.in-Ok.ensures.observable c.in-Ok.ensures.opaque
    (rw c.as_slice-names.ensures at c.check_text.ensures) refl c.print_text.ensures.prints

-- One of them was not.
pub returns-in-Err : goal.returns-in-Err
returns-in-Err g c =
    let map_file = option_map (λ name. name.now) c.args.map_file in
    files_stopped (Check map_file c.args.names.now) (rules_and_map (map (λ name. name.now) c.as_slice-names.result.now) map_file) c.in-Err.stop c.print_stop.result
    (g.D.Disk.state c.args.disk.now) (g.D.Disk.state c.read_files.new.disk) (g.K.Sink.state c.args.out.now) (g.K.Sink.state c.print_stop.new.out)
    (ap (λ names. rules_and_map names map_file) (sym c.as_slice-names.ensures))
    c.in-Err.ensures.files c.in-Err.ensures.later c.print_stop.ensures.later c.in-Err.ensures.observable c.in-Err.ensures.opaque
    c.print_stop.ensures.prints
