use Rattle.drill.proofs.TickedLemmas.{ticks_only_when_told, ticks_when_told}
use Rattle.drill.proofs.laws.peers_tick_when_told.Goals as goal

pub returns-clause-only : goal.returns-clause-only
returns-clause-only g c m events i p n below = ticks_only_when_told m events i p n below

pub returns-clause-whenever : goal.returns-clause-whenever
returns-clause-whenever g c m events i p n own told = ticks_when_told m events i p n own told
