use Rattle.drill.proofs.SealedLemmas.{plays_were_sealed}
use Rattle.drill.proofs.laws.plays_were_sealed.Goals as goal

pub returns : goal.returns
returns g c m events i d n orders found = plays_were_sealed m events i d n orders found
