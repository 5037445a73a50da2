use Rattle.std.proofs.Common.{sym, ◌∙◌}
use Rattle.compare_command.proofs.ListLemmas.{item_at}
use Rattle.compare_command.proofs.SameLemmas.{next_differs, next_same}
use Rattle.compare_command.proofs.same.same_builds.Goals as goal

pub returns-then-not-is_build : goal.returns-then-not-is_build
returns-then-not-is_build c =
    sym (next_differs c.args.builds.now c.args.others.now c.loop-i.i _ _ _
    (item_at c.args.builds.now c.loop-i.i _ c.loop-i-test.true) c.item_of.ensures
    (sym c.is_build.ensures ∙ c.if-not-is_build.true) c.loop-i.invariant)

pub loop-i-preserved : goal.loop-i-preserved
loop-i-preserved c =
    next_same c.args.builds.now c.args.others.now c.loop-i.i _ _ _
    (item_at c.args.builds.now c.loop-i.i _ c.loop-i-test.true) c.item_of.ensures
    (sym c.is_build.ensures ∙ c.if-not-is_build.false) c.loop-i.invariant
