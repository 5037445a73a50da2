use Rattle.std.proofs.Common.{subst, sym, arith}
use Rattle.order_packets.specs.Feed.{Fed}
use Rattle.match_net.specs.declared.piece.Piece.{Piece}
use Rattle.match_net.specs.PieceTaking.{Counts, TakesPiece}
use Rattle.match_net.proofs.GreetingLemmas.{Waiting, waiting_first, greets_decided, greets_ended, greets_lost, spilled}
use Rattle.match_net.proofs.first_packet.greet_counted.Goals as goal

pub loop-turn-init : goal.loop-turn-init
loop-turn-init g c =
    subst (λ (f : Fed). Waiting (g.I.Source.state c.args.link.now) (g.I.Source.state c.args.link.now) c.args.taken.now c.args.taken.now f 0) (sym c.requires.new)
    (waiting_first (g.I.Source.state c.args.link.now) c.args.taken.now)

pub returns-in-Err-clause-err : goal.returns-in-Err-clause-err
returns-in-Err-clause-err g c =
    let err = c.in-Err.ensures.err in
    spilled _ _ (g.I.Source.state c.args.link.now) _ _ _ _ _ c.loop-turn.feeder (omega arith) c.loop-turn.invariant err.0 err.1

pub returns-in-Ok-End-clause-greeted : goal.returns-in-Ok-End-clause-greeted
returns-in-Ok-End-clause-greeted g c =
    let took = subst (λ (p : Piece). (takes : TakesPiece 67108606 (g.I.Source.state c.loop-turn.link) (g.I.Source.state c.take_counted.new.link) c.loop-turn.feeder c.take_counted.new.feeder p) × Counts c.loop-turn.taken c.take_counted.new.taken takes.taken) c.in-Ok-End.field-0-is c.in-Ok-End.ensures.ok in
    greets_ended _ _ _ (g.I.Source.state c.args.link.now) _ _ _ _ _ c.loop-turn.feeder _ c.loop-turn.invariant took.0 took.1

pub returns-in-Ok-Lost-clause-greeted : goal.returns-in-Ok-Lost-clause-greeted
returns-in-Ok-Lost-clause-greeted g c =
    let took = subst (λ (p : Piece). (takes : TakesPiece 67108606 (g.I.Source.state c.loop-turn.link) (g.I.Source.state c.take_counted.new.link) c.loop-turn.feeder c.take_counted.new.feeder p) × Counts c.loop-turn.taken c.take_counted.new.taken takes.taken) c.in-Ok-Lost.field-0-is c.in-Ok-Lost.ensures.ok in
    greets_lost _ _ _ (g.I.Source.state c.args.link.now) _ _ _ _ _ c.loop-turn.feeder _ c.loop-turn.invariant took.0 took.1

pub returns-in-Some-clause-greeted : goal.returns-in-Some-clause-greeted
returns-in-Some-clause-greeted g c =
    let took = subst (λ (p : Piece). (takes : TakesPiece 67108606 (g.I.Source.state c.loop-turn.link) (g.I.Source.state c.take_counted.new.link) c.loop-turn.feeder c.take_counted.new.feeder p) × Counts c.loop-turn.taken c.take_counted.new.taken takes.taken) c.in-Ok-Some.field-0-is c.in-Ok-Some.ensures.ok in
    greets_decided _ _ _ (g.I.Source.state c.args.link.now) _ _ _ _ _ c.loop-turn.feeder _ _ _ (omega arith) c.loop-turn.invariant took.0 took.1
    c.in-Some.ensures.answer c.in-Some.ensures.after c.in-Some.ensures.welcomed
