use Rattle.std.proofs.Common.{length, take, rules, ap, arith}
use Rattle.std.proofs.lemmas.List.{length-take}
use Rattle.match_net.specs.declared.piece.Piece.TheVariants as piece
use Rattle.match_net.specs.PieceTaking.{TakesPiece}
use Rattle.match_net.proofs.PieceTakingLemmas.{took_so}
use Rattle.match_net.proofs.piece_taking.feed_from.Goals as goal

pub returns-in-Ok-eq0-clause-ok : goal.returns-in-Ok-eq0-clause-ok
returns-in-Ok-eq0-clause-ok g c =
    let takes : TakesPiece (length c.args.place.now) (g.I.Source.state c.args.link.now) (g.I.Source.state c.take.new.self) c.args.feeder.now c.args.feeder.now piece.End = search rules in
    (takes, let none = ap length takes.means.0 in omega (arith, none))

pub returns-in-Err-clause-ok : goal.returns-in-Err-clause-ok
returns-in-Err-clause-ok g c =
    let takes : TakesPiece (length c.args.place.now) (g.I.Source.state c.args.link.now) (g.I.Source.state c.take.new.self) c.args.feeder.now c.args.feeder.now piece.Lost = search rules in
    (takes, let none = ap length takes.means.0 in omega (arith, none))

pub returns-in-Ok-feed-clause-ok : goal.returns-in-Ok-feed-clause-ok
returns-in-Ok-feed-clause-ok g c =
    let bound = c.in-Ok.ensures.bound in
    let size = c.take.auto.into in
    let test = c.in-Ok.count-test in
    let short = c.requires.short in
    let long = length-take c.in-Ok.count c.take.new.into in (
      record {
        taken = take c.in-Ok.count c.take.new.into;
        few = omega (arith, bound, size, long);
        short = omega (arith, bound, size, long, short);
        took = took_so _ _ c.take.new.into c.in-Ok.count c.in-Ok.ensures.left c.in-Ok.ensures.moved;
        later = c.take.ensures.later;
        fed = c.in-Ok-feed.ensures.ok;
        means = omega (arith, bound, long, test);
      },
      omega (arith, bound, long),
    )

pub returns-in-Err-feed-clause-err : goal.returns-in-Err-feed-clause-err
returns-in-Err-feed-clause-err g c =
    let bound = c.in-Ok.ensures.bound in
    let size = c.take.auto.into in
    let long = length-take c.in-Ok.count c.take.new.into in (
      record {
        taken = take c.in-Ok.count c.take.new.into;
        few = omega (arith, bound, size, long);
        took = took_so _ _ c.take.new.into c.in-Ok.count c.in-Ok.ensures.left c.in-Ok.ensures.moved;
        later = c.take.ensures.later;
      },
      omega (arith, bound, size, long),
    )
