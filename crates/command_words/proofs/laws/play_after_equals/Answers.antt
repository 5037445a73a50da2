use Rattle.command_words.proofs.LiteralLemmas as literal
use Rattle.command_words.proofs.laws.play_after_equals.Goals as goal

pub returns-clause-script : goal.returns-clause-script
returns-clause-script c = literal.play_after_equals

pub returns-clause-quiet : goal.returns-clause-quiet
returns-clause-quiet c = literal.play_quietly

pub returns-clause-twice : goal.returns-clause-twice
returns-clause-twice c = literal.play_quietly_twice
