use Rattle.rule_sample.proofs.SampleLemmas.{sample_is}
use Rattle.rule_sample.proofs.sample_text_has_its_values.Goals as goal

pub returns : goal.returns
returns c = sample_is
