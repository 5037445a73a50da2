use Rattle.std.proofs.Common.{◌+◌, sym, ◌∙◌}
use Rattle.compare_command.specs.Replays.{mark_differences}
use Rattle.compare_command.proofs.ReplayLemmas.{marks_here, least_here, least_later, left_after}
use Rattle.compare_command.proofs.replays.compare_marks.Goals as goal

pub returns-then-branch : goal.returns-then-branch
returns-then-branch c =
    let inv = c.loop-n.invariant in
    let given = c.in_ok-compare_mark.ensures in
    least_here (mark_differences c.args.r.now c.args.s.now) (c.args.count + 1) c.loop-n.n _ _ _ _ c.loop-n-test.true inv.0
    (marks_here c.args.r.now c.args.s.now c.loop-n.n _ _ _ _ inv.1 inv.2 c.next_mark-mark.ensures.value
    c.next_mark-other.ensures.value)
    given.0 (sym given.1 ∙ c.if-branch.true)

pub loop-n-preserved : goal.loop-n-preserved
loop-n-preserved c =
    let inv = c.loop-n.invariant in
    let given = c.in_ok-compare_mark.ensures in (
      least_later (mark_differences c.args.r.now c.args.s.now) (c.args.count + 1) c.loop-n.n _ _ _ _ c.loop-n-test.true inv.0
          (marks_here c.args.r.now c.args.s.now c.loop-n.n _ _ _ _ inv.1 inv.2 c.next_mark-mark.ensures.value
          c.next_mark-other.ensures.value)
          given.0 (sym given.1 ∙ c.if-branch.false),
      left_after c.loop-n.n c.args.r.now.parts _ _ inv.1 c.next_mark-mark.ensures.rest,
      left_after c.loop-n.n c.args.s.now.parts _ _ inv.2 c.next_mark-other.ensures.rest,
    )
