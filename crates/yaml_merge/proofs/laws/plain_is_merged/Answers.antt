use Rattle.yaml_merge.proofs.StaysSteps.{plain_is_merged}
use Rattle.yaml_merge.proofs.laws.plain_is_merged.Goals as goal

pub returns : goal.returns
returns c = plain_is_merged
