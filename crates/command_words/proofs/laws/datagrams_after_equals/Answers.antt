use Rattle.command_words.proofs.LiteralLemmas.{datagrams_after_equals}
use Rattle.command_words.proofs.laws.datagrams_after_equals.Goals as goal

pub returns : goal.returns
returns c = datagrams_after_equals
