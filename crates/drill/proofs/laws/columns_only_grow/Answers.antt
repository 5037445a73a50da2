use Rattle.drill.proofs.GrownLemmas.{columns_only_grow}
use Rattle.drill.proofs.laws.columns_only_grow.Goals as goal

pub returns : goal.returns
returns g c m events i j below = columns_only_grow m events i j below
