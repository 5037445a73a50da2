use Rattle.command_words.proofs.LiteralLemmas.{worlds_with_options}
use Rattle.command_words.proofs.laws.worlds_with_options.Goals as goal

pub returns : goal.returns
returns c = worlds_with_options
