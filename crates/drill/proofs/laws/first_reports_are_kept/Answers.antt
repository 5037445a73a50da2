use Rattle.drill.proofs.FirstReportLemmas.{kept_is_first, one_is_kept}
use Rattle.drill.proofs.laws.first_reports_are_kept.Goals as goal

pub returns-clause-only : goal.returns-clause-only
returns-clause-only g c m events i d n hash kept = kept_is_first m events i d n hash kept

pub returns-clause-whenever : goal.returns-clause-whenever
returns-clause-whenever g c m events i up d n hash before own within handed =
    one_is_kept m events i up d n hash own within handed before
