use Rattle.std.proofs.Common.{◌≤◌, ◌∙◌, ap, sym, subst, arith}
use Rattle.frame_table.specs.declared.view.View.{View}
use Rattle.frame_table.specs.Passes.{first_view}
use Rattle.thread_tests.proofs.TablePasses.{first_feeds}
use Rattle.thread_tests.proofs.tables.begin.Goals as goal

pub returns-clause-feeds : goal.returns-clause-feeds
returns-clause-feeds c =
    let made = c.in_ok-table.ensures in
    first_feeds _ _ _ made.pass (made.plan ∙ c.new.ensures ∙ c.loop-client.invariant) (made.first ∙ ap first_view (sym made.plan))

pub returns-clause-share : goal.returns-clause-share
returns-clause-share c = subst (λ (v : View). 2 ≤ v.share) (sym c.in_ok-table.ensures.first) (omega arith)
