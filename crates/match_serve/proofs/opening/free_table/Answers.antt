use Rattle.match_serve.proofs.SplitLemmas.{first_opening}
use Rattle.match_serve.proofs.opening.free_table.Goals as goal

pub returns-clause-opening : goal.returns-clause-opening
returns-clause-opening c =
    let made = c.in_ok-table.ensures in
    first_opening _ _ _ _ c.in_ok-plan.ensures made.pass made.plan made.first
