use Rattle.command_words.proofs.LiteralLemmas as literal
use Rattle.command_words.proofs.laws.record_after_equals.Goals as goal

pub returns : goal.returns
returns c = literal.record_after_equals
