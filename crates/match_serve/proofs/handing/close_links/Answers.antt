use Rattle.std.proofs.Common.{refl, ap, arith}
use Rattle.std.specs.Prelude.{slice_set}
use Rattle.match_serve.proofs.HandLemmas.{handed_none, handed_first, first_reads, handed_more, handed_shares, handed_made}
use Rattle.match_serve.proofs.handing.close_links.Goals as goal

pub loop-c-preserved : goal.loop-c-preserved
loop-c-preserved g c =
    let test = c.loop-c-test.true in
    let far = handed_first _ _ _ _ _ _ _ _ _ _ _ _ _ _ _ _ c.loop-c.invariant.0 test c.remove-piece.ensures.value c.remove-piece.ensures.items in
    let done = c.close_link.ensures in
    (handed_more _ _ _ _ _ _ _ c.close_link.new.pass _ _ c.close_link.new.receiver _ _ (g.N.Net.state c.close_link.new.net) _ _ (slice_set c.loop-c.ends c.loop-c.c c.link_end.result) _ _ _ test far done.closes done.net done.joined done.heard done.same (rw (← c.piece.view_is) (ap (slice_set c.loop-c.ends c.loop-c.c) c.link_end.ensures)) (rw (← c.piece.view_is) refl), omega arith)

pub returns-clause-links : goal.returns-clause-links
returns-clause-links g c = λ coming are d below.
    let test = c.loop-c-test.false in
    c.loop-c.invariant.0.links coming are d (omega arith)

pub loop-c-init : goal.loop-c-init
loop-c-init g c =
    let at = c.requires in
    (handed_none _ _ _ _ _ _ _ _ _ at.pass at.left at.done at.count at.given at.unjoined at.ends at.taken, omega arith)

-- What the first of the links that are left is handed back with.
pub close_link-requires-clause-pass : goal.close_link-requires-clause-pass
close_link-requires-clause-pass g c κs within = c.loop-c.invariant.0.is

pub close_link-requires-clause-reads : goal.close_link-requires-clause-reads
close_link-requires-clause-reads g c κs within =
    let taken = c.remove-piece.ensures in
    let far = handed_first _ _ _ _ _ _ _ _ _ _ _ _ _ _ _ _ c.loop-c.invariant.0 c.loop-c-test.true taken.value taken.items in
    (first_reads _ _ _ _ _ _ _ _ _ _ _ _ _ _ _ far).0

pub close_link-requires-clause-sends : goal.close_link-requires-clause-sends
close_link-requires-clause-sends g c κs within =
    let taken = c.remove-piece.ensures in
    let far = handed_first _ _ _ _ _ _ _ _ _ _ _ _ _ _ _ _ c.loop-c.invariant.0 c.loop-c-test.true taken.value taken.items in
    (first_reads _ _ _ _ _ _ _ _ _ _ _ _ _ _ _ far).1

pub close_link-requires-clause-queue : goal.close_link-requires-clause-queue
close_link-requires-clause-queue g c κs within =
    let taken = c.remove-piece.ensures in
    let far = handed_first _ _ _ _ _ _ _ _ _ _ _ _ _ _ _ _ c.loop-c.invariant.0 c.loop-c-test.true taken.value taken.items in
    (first_reads _ _ _ _ _ _ _ _ _ _ _ _ _ _ _ far).2

pub close_link-requires-clause-next : goal.close_link-requires-clause-next
close_link-requires-clause-next g c κs within =
    let taken = c.remove-piece.ensures in
    let far = handed_first _ _ _ _ _ _ _ _ _ _ _ _ _ _ _ _ c.loop-c.invariant.0 c.loop-c-test.true taken.value taken.items in
    (first_reads _ _ _ _ _ _ _ _ _ _ _ _ _ _ _ far).3

-- All were handed back.
pub returns-clause-pass : goal.returns-clause-pass
returns-clause-pass g c = c.loop-c.invariant.0.is

pub returns-clause-share : goal.returns-clause-share
returns-clause-share g c =
    let test = c.loop-c-test.false in
    handed_shares _ _ _ _ _ _ _ _ _ _ _ _ _ _ c.loop-c.invariant.0 (omega arith)

pub returns-clause-known : goal.returns-clause-known
returns-clause-known g c = c.loop-c.invariant.0.known

pub returns-clause-made : goal.returns-clause-made
returns-clause-made g c =
    let test = c.loop-c-test.false in
    handed_made _ _ _ _ _ _ _ _ _ _ _ _ _ _ c.loop-c.invariant.0 (omega arith)

pub returns-clause-given : goal.returns-clause-given
returns-clause-given g c = c.loop-c.invariant.0.given

pub returns-clause-coming : goal.returns-clause-coming
returns-clause-coming g c = c.loop-c.invariant.0.coming_same

pub returns-clause-joined : goal.returns-clause-joined
returns-clause-joined g c =
    let test = c.loop-c-test.false in
    let count = c.loop-c.invariant.0.count in
    let few = c.loop-c.invariant.1 in
    omega arith

pub returns-clause-heard : goal.returns-clause-heard
returns-clause-heard g c = c.loop-c.invariant.0.heard_same

pub returns-clause-same : goal.returns-clause-same
returns-clause-same g c = c.loop-c.invariant.0.same

pub returns-clause-ends : goal.returns-clause-ends
returns-clause-ends g c = c.loop-c.invariant.0.ends_long

pub returns-clause-taken : goal.returns-clause-taken
returns-clause-taken g c = c.loop-c.invariant.0.counts_long
