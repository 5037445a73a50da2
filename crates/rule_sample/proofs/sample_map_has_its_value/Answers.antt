use Rattle.rule_sample.proofs.SampleMapLemmas.{map_is}
use Rattle.rule_sample.proofs.sample_map_has_its_value.Goals as goal

pub returns : goal.returns
returns c = map_is
