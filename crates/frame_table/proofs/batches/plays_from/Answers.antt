use Rattle.std.proofs.Common.{◌∙◌, ◌≤◌, ap, length, subst}
use Rattle.std.specs.Prelude.{min}
use Rattle.frame_core.specs.Column.{column_of, length_of}
use Rattle.frame_table.proofs.Copied.{none_copied, one_copied, all_copied, end_is}
use Rattle.frame_table.proofs.batches.plays_from.Goals as goal

pub loop-at-init : goal.loop-at-init
loop-at-init c K is = c.new-plays.ensures ∙ none_copied K.plays c.args.n

pub loop-at-preserved : goal.loop-at-preserved
loop-at-preserved c K is =
    c.in_ok-push.ensures.ok ∙ one_copied K.plays c.loop-at.plays c.args.n c.loop-at.at _ c.loop-at.auto.at (c.loop-at.invariant K is) (c.orders_at.ensures K is)

pub returns : goal.returns
returns c K is =
    let len = c.plays.ensures.value ∙ ap (λ l. length_of (column_of l 0)) is in
    all_copied K.plays c.loop-at.plays c.args.n c.loop-at.at c.args.most (c.loop-at.invariant K is)
    (end_is (length K.plays) c.args.n c.loop-at.at c.args.most c.saturating_add.result c.min-end.result c.saturating_add.ensures
    (c.min-end.ensures ∙ ap (λ k. min k c.saturating_add.result) len)
    (subst (λ k. k ≤ 262144) len c.plays.ensures.limit)
    c.loop-at.auto.at-end c.loop-at-test.false c.ranges.n.fits)
