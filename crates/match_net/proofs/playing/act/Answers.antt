use Rattle.match_net.proofs.OpeningLemmas.{act_fails, act_goes, act_ends}
use Rattle.match_net.proofs.playing.act.Goals as goal

pub returns-in-Some-clause-acts : goal.returns-in-Some-clause-acts
returns-in-Some-clause-acts g c =
    λ first said had.
    act_fails _ _ _ _ _ _ _ said first _ _ _ _ c.clear.ensures.items c.deref.ensures.value
    c.in_ok-round.ensures c.in-Some.is c.put_bytes.ensures had

pub returns-then-is_over-clause-acts : goal.returns-then-is_over-clause-acts
returns-then-is_over-clause-acts g c =
    λ first said had.
    act_ends _ _ _ _ _ _ _ said first _ _ _ _ c.clear.ensures.items c.deref.ensures.value
    c.in_ok-round.ensures c.in_default.is c.put_bytes.ensures c.is_over.ensures c.if-is_over.true
    had

pub returns-clause-acts : goal.returns-clause-acts
returns-clause-acts g c =
    λ first said had.
    act_goes _ _ _ _ _ _ _ said first _ _ _ _ c.clear.ensures.items c.deref.ensures.value
    c.in_ok-round.ensures c.in_default.is c.put_bytes.ensures c.is_over.ensures c.if-is_over.false
    had
