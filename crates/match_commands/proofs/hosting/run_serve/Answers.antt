use Rattle.std.proofs.Common.{sym, ap, map}
use Rattle.command_words.specs.RequestPlain.{plain_serve}
use Rattle.command_answers.specs.Given.{given_contents}
use Rattle.command_answers.specs.WantedFiles.{rules_and_map}
use Rattle.link_commands.specs.Links.{with_links}
use Rattle.match_commands.proofs.WaitingLemmas.{serving_given, serving_stopped}
use Rattle.match_commands.proofs.hosting.run_serve.Goals as goal

-- The files were read.
pub returns-in-Ok : goal.returns-in-Ok
returns-in-Ok g c =
    let query = plain_serve c.args.query.now in
    let net = g.N.Net.state c.args.net.now in
    let console = g.C.Source.state c.args.console.now in
    let old = with_links (g.D.Disk.state c.args.disk.now) (g.K.Sink.state c.args.out.now) net console in
    let new = with_links (g.D.Disk.state c.serve_or_record.new.disk) (g.K.Sink.state c.serve_or_record.new.out) (g.N.Net.state c.serve_or_record.new.net) (g.C.Source.state c.serve_or_record.new.console) in
    let returns = rw c.as_slice-names.ensures at c.read_numbered_maker-made.ensures in
    serving_given c.a_record_gives_the_match.ensures query.record_file query (rules_and_map (map (λ name. name.now) c.as_slice-names.result.now) query.map_file) (given_contents c.in-Ok.given)
    c.read_numbered_maker-made.result c.serve_or_record.result old new (g.D.Disk.state c.read_files.new.disk)
    (ap (λ names. rules_and_map names query.map_file) (sym c.as_slice-names.ensures))
    c.in-Ok.ensures.files c.in-Ok.ensures.later c.serve_or_record.ensures.disk c.serve_or_record.ensures.later c.in-Ok.ensures.observable c.in-Ok.ensures.opaque
    returns c.serve_or_record.ensures.serves

-- One of them was not.
pub returns-in-Err : goal.returns-in-Err
returns-in-Err g c =
    let query = plain_serve c.args.query.now in
    serving_stopped query.record_file query (rules_and_map (map (λ name. name.now) c.as_slice-names.result.now) query.map_file) c.in-Err.stop c.print_stop.result
    (g.D.Disk.state c.args.disk.now) (g.D.Disk.state c.read_files.new.disk) (g.K.Sink.state c.args.out.now) (g.K.Sink.state c.print_stop.new.out)
    (g.N.Net.state c.args.net.now) (g.C.Source.state c.args.console.now)
    (ap (λ names. rules_and_map names query.map_file) (sym c.as_slice-names.ensures))
    c.in-Err.ensures.files c.in-Err.ensures.later c.print_stop.ensures.later c.in-Err.ensures.observable c.in-Err.ensures.opaque
    c.print_stop.ensures.prints
