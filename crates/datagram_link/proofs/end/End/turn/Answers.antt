use Rattle.datagram_link.proofs.SendingLemmas.{turn_got}
use Rattle.datagram_link.proofs.end.End.turn.Goals as goal

-- Bytes came.
pub returns-in-Ok-Got-clause-turn : goal.returns-in-Ok-Got-clause-turn
returns-in-Ok-Got-clause-turn g c =
    let got = rw (c.in-Ok-Got.is, c.in-Ok-Got.field-0-is) at c.receive.ensures in
    turn_got c.args.self.now c.turn_by.new.self (g.P.Post.state c.args.post.now)
    (g.P.Post.state c.receive.new.self) (g.P.Post.state c.turn_by.new.post) c.receive.new.into
    c.in-Ok-Got.length c.turn_by.result got.fits got.first got.taken got.later c.turn_by.ensures.turn
