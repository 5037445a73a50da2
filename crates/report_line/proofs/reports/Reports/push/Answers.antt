use Rattle.std.proofs.Common.{rules}
use Rattle.report_line.proofs.RuleLemmas.{pushes}
use Rattle.report_line.proofs.reports.Reports.push.Goals as goal

pub push_as-requires-clause-rule : goal.push_as-requires-clause-rule
push_as-requires-clause-rule g c = λ n. pushes n _ _ _ (search rules)
