use Rattle.std.proofs.Common.{Some, ap, refl}
use Rattle.command_words.specs.RequestPlain.{plain_name, plain_serve}
use Rattle.link_commands.specs.Links.{with_links}
use Rattle.match_commands.proofs.WaitingLemmas.{serves_by}
use Rattle.match_commands.proofs.hosting.serve_or_record.Goals as goal

-- A file is named.
pub returns-in-Some-clause-serves : goal.returns-in-Some-clause-serves
returns-in-Some-clause-serves g c =
    let old = with_links (g.D.Disk.state c.args.disk.now) (g.K.Sink.state c.args.out.now) (g.N.Net.state c.args.net.now) (g.C.Source.state c.args.console.now) in
    let new = with_links (g.D.Disk.state c.record_made.new.disk) (g.K.Sink.state c.record_made.new.out) (g.N.Net.state c.record_made.new.net) (g.C.Source.state c.record_made.new.console) in
    serves_by (Some c.in-Some.name.now) (plain_serve c.args.query.now) c.args.made c.record_made.result old new (ap plain_name c.in-Some.is)
    c.record_made.ensures.records

-- None is.
pub returns-in-None-clause-serves : goal.returns-in-None-clause-serves
returns-in-None-clause-serves g c =
    let disk = g.D.Disk.state c.args.disk.now in
    rw (c.in-None.is) (c.serve_made.ensures.serves disk disk, refl)
