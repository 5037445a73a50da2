use Rattle.std.proofs.Common.{sym, ◌∙◌}
use Rattle.compare_command.specs.Replays.{differences_in}
use Rattle.compare_command.proofs.ReplayLemmas.{frames_here, least_here, least_later, left_after}
use Rattle.compare_command.proofs.replays.compare_frames.Goals as goal

pub returns-then-branch : goal.returns-then-branch
returns-then-branch c =
    let inv = c.loop-n.invariant in
    let given = c.in_ok-compare_frame.ensures in
    least_here (differences_in c.args.r.now c.args.s.now) c.args.count c.loop-n.n _ _ _ _ c.loop-n-test.true inv.0
    (frames_here c.args.r.now c.args.s.now c.loop-n.n _ _ _ _ inv.1 inv.2 c.next_frame.ensures.value
    c.next_frame-in-loop-n.ensures.value)
    given.0 (sym given.1 ∙ c.if-branch.true)

pub loop-n-preserved : goal.loop-n-preserved
loop-n-preserved c =
    let inv = c.loop-n.invariant in
    let given = c.in_ok-compare_frame.ensures in (
      least_later (differences_in c.args.r.now c.args.s.now) c.args.count c.loop-n.n _ _ _ _ c.loop-n-test.true inv.0
          (frames_here c.args.r.now c.args.s.now c.loop-n.n _ _ _ _ inv.1 inv.2 c.next_frame.ensures.value
          c.next_frame-in-loop-n.ensures.value)
          given.0 (sym given.1 ∙ c.if-branch.false),
      left_after c.loop-n.n c.args.r.now.parts _ _ inv.1 c.next_frame.ensures.rest,
      left_after c.loop-n.n c.args.s.now.parts _ _ inv.2 c.next_frame-in-loop-n.ensures.rest,
    )
