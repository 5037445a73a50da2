use Rattle.report_line.proofs.RuleLemmas.{begins}
use Rattle.report_line.proofs.reporting.report_queue.Goals as goal

pub with_rule-requires : goal.with_rule-requires
with_rule-requires c = begins
