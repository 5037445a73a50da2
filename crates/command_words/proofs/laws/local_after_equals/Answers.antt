use Rattle.command_words.proofs.LiteralLemmas.{local_after_equals}
use Rattle.command_words.proofs.laws.local_after_equals.Goals as goal

pub returns : goal.returns
returns c = local_after_equals
