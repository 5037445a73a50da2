use Rattle.std.proofs.Common.{rules}
use Rattle.report_line.proofs.RuleLemmas.{pops, learns}
use Rattle.report_line.proofs.report_receiver.ReportReceiver.receive.Goals as goal

pub pop_as-requires-clause-rule : goal.pop_as-requires-clause-rule
pop_as-requires-clause-rule g c = (pops _ _ (search rules), learns _ _ (search rules))
