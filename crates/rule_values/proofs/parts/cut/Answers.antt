use Rattle.rule_values.proofs.PartsLemmas.{cut_parts}
use Rattle.rule_values.proofs.parts.cut.Goals as goal

pub returns : goal.returns
returns c = cut_parts c.args.at c.args.text.now _ c.split_once.ensures.cases c.requires
