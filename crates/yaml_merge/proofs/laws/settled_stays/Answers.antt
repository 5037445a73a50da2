use Rattle.yaml_merge.proofs.StaysSteps.{settled_stays, resolved_stays}
use Rattle.yaml_merge.proofs.laws.settled_stays.Goals as goal

pub returns-clause-settled : goal.returns-clause-settled
returns-clause-settled c = settled_stays

pub returns-clause-resolved : goal.returns-clause-resolved
returns-clause-resolved c = resolved_stays
