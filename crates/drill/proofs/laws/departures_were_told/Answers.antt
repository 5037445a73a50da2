use Rattle.drill.proofs.DepartureLemmas.{departures_were_told}
use Rattle.drill.proofs.ToldLemmas.{the_told_have_left}
use Rattle.drill.proofs.laws.departures_were_told.Goals as goal

pub returns-clause-only : goal.returns-clause-only
returns-clause-only g c m events i d left = departures_were_told m events i d left

pub returns-clause-whenever : goal.returns-clause-whenever
returns-clause-whenever g c m events i d own told = the_told_have_left m events i d own told
