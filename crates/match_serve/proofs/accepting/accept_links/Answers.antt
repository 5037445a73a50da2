use Rattle.std.proofs.Common.{arith}
use Rattle.match_serve.proofs.AcceptLemmas.{accepted_none, accepted_more, accepted_first, first_end, four_left, two_left}
use Rattle.match_serve.proofs.accepting.accept_links.Goals as goal

pub loop-client-init : goal.loop-client-init
loop-client-init g c = rw c.new-pieces.ensures (accepted_none _ _ _ _ _ c.requires.opening c.requires.share c.requires.none_given c.requires.ends)

pub accept_link-requires-clause-share : goal.accept_link-requires-clause-share
accept_link-requires-clause-share g c κs within =
    let test = c.loop-client-test.true in
    let most = c.requires.most in
    four_left _ _ (omega arith) c.loop-client.invariant.enough

pub accept_link-requires-clause-unpushed : goal.accept_link-requires-clause-unpushed
accept_link-requires-clause-unpushed g c κs within =
    first_end _ _ _ _ _ _ _ _ _ _ (accepted_first _ _ _ _ _ _ _ _ _ _ _ c.loop-client.invariant c.loop-client-test.true c.remove-reports.ensures.value c.remove-reports.ensures.items)

pub loop-client-preserved : goal.loop-client-preserved
loop-client-preserved g c =
    let test = c.loop-client-test.true in
    let most = c.requires.most in
    let made = c.in_ok-piece.ensures in
    accepted_more _ _ _ _ _ _ _ _ _ _ _ _ _ _ (omega arith) (accepted_first _ _ _ _ _ _ _ _ _ _ _ c.loop-client.invariant test c.remove-reports.ensures.value c.remove-reports.ensures.items)
    made.opening made.seat made.told made.reports made.link made.shares made.half made.given made.coming made.later c.in_ok-push.ensures.ok

pub returns-clause-enough : goal.returns-clause-enough
returns-clause-enough g c =
    let test = c.loop-client-test.false in
    let most = c.requires.most in
    let few = c.loop-client.invariant.few in
    two_left _ _ (omega arith) c.loop-client.invariant.enough
