use Rattle.command_words.proofs.LiteralLemmas.{map_after_equals}
use Rattle.command_words.proofs.laws.map_after_equals.Goals as goal

pub returns : goal.returns
returns c = map_after_equals
