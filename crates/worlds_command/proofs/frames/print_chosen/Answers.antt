use Rattle.std.proofs.Common.{ap, arith}
use Rattle.worlds_command.proofs.ChosenLemmas.{all_counted, all_printed, at_most_one, begins, few_chosen, next_world}
use Rattle.worlds_command.proofs.LineLemmas.{failed_prints}
use Rattle.worlds_command.proofs.frames.print_chosen.Goals as goal

pub loop-n-init : goal.loop-n-init
loop-n-init g c =
    begins c.args.game c.args.r.now c.args.chosen.now _ _ c.begin-playback.ensures.plays
    (ap (λ p. p.frames) c.begin-playback.ensures.begins)

pub returns-then-has_failed-clause-prints : goal.returns-then-has_failed-clause-prints
returns-then-has_failed-clause-prints g c =
    failed_prints _ _ _ _ (c.has_failed.ensures.some c.if-has_failed.true) c.loop-n.invariant.prints

pub overflow_add-count : goal.overflow_add-count
overflow_add-count g c =
    omega (
      arith,
      c.loop-n.invariant.few,
      c.loop-n-test.true,
      c.print_if_chosen-count.ensures.counts,
      at_most_one c.args.chosen.now c.loop-n.n,
      few_chosen c.args.r.now c.args.chosen.now.last c.requires.valid c.requires.within,
    )

pub loop-n-preserved : goal.loop-n-preserved
loop-n-preserved g c =
    next_world c.args.game c.args.r.now c.args.chosen.now _ _ _ c.loop-n.n c.loop-n.count _
    c.loop-n.playback c.step.new.self c.step.result c.loop-n.invariant c.loop-n-test.true
    c.requires.within (rw c.world.ensures.world at c.print_if_chosen-count.ensures.prints)
    c.print_if_chosen-count.ensures.counts c.step.ensures.step
    (c.step.ensures.plays c.args.game c.args.r.now c.loop-n.invariant.plays)

pub returns-clause-prints : goal.returns-clause-prints
returns-clause-prints g c =
    all_printed c.args.game c.args.r.now c.args.chosen.now _ _ c.loop-n.n c.loop-n.count _
    c.loop-n.invariant c.loop-n-test.false

pub returns-clause-counts : goal.returns-clause-counts
returns-clause-counts g c well =
    all_counted c.args.game c.args.r.now c.args.chosen.now _ _ c.loop-n.n c.loop-n.count _
    c.loop-n.invariant c.loop-n-test.false
