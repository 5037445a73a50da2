use Rattle.command_words.proofs.LiteralLemmas as literal
use Rattle.command_words.proofs.laws.script_after_equals.Goals as goal

pub returns : goal.returns
returns c = literal.script_after_equals
