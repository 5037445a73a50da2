use Rattle.command_words.proofs.LiteralLemmas.{save_with_options}
use Rattle.command_words.proofs.laws.save_with_options.Goals as goal

pub returns : goal.returns
returns c = save_with_options
