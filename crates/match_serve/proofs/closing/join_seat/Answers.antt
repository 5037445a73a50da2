use Rattle.match_serve.proofs.CloseLemmas.{closes}
use Rattle.match_serve.proofs.closing.join_seat.Goals as goal

pub returns-clause-closes : goal.returns-clause-closes
returns-clause-closes c =
    let first = c.join.ensures in
    let second = c.join-2.ensures in
    closes _ _ _ _ _ _ c.requires.pass c.requires.reads c.requires.sends first.pass first.joined first.mine first.theirs second.pass second.joined second.mine second.theirs
