use Rattle.yaml_merge.proofs.LawSteps.{removal_removes, top_removal_removes}
use Rattle.yaml_merge.proofs.laws.removals_remove.Goals as goal

pub returns-clause-below : goal.returns-clause-below
returns-clause-below c = removal_removes

pub returns-clause-top : goal.returns-clause-top
returns-clause-top c = top_removal_removes
