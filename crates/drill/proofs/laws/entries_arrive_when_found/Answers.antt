use Rattle.drill.proofs.FoundLemmas.{arrives_only_when_found, arrives_when_found}
use Rattle.drill.proofs.laws.entries_arrive_when_found.Goals as goal

pub returns-clause-only : goal.returns-clause-only
returns-clause-only g c m events i p d n entry kept = arrives_only_when_found m events i p d n entry kept

pub returns-clause-whenever : goal.returns-clause-whenever
returns-clause-whenever g c m events i p d n entry own found = arrives_when_found m events i p d n entry own found
