use Rattle.match_run.proofs.Splitting.{first_plan, first_unused, first_all_rights, first_feeds}
use Rattle.match_run.proofs.passing.planned_table.Goals as goal

pub returns-clause-plan : goal.returns-clause-plan
returns-clause-plan c =
    let made = c.in_ok-table.ensures in
    first_plan _ _ _ _ _ c.in_ok-plan.ensures made.pass made.plan made.first

pub returns-clause-pass : goal.returns-clause-pass
returns-clause-pass c =
    let made = c.in_ok-table.ensures in
    first_unused _ _ _ _ _ c.in_ok-plan.ensures made.pass made.plan made.first

pub returns-clause-rights : goal.returns-clause-rights
returns-clause-rights c =
    let made = c.in_ok-table.ensures in
    first_all_rights _ _ _ _ _ c.in_ok-plan.ensures made.pass made.plan made.first

pub returns-clause-feeds : goal.returns-clause-feeds
returns-clause-feeds c =
    let made = c.in_ok-table.ensures in
    first_feeds _ _ _ _ _ c.in_ok-plan.ensures made.pass made.plan made.first
