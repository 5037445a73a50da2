use Rattle.command_words.proofs.LiteralLemmas.{local_with_bots}
use Rattle.command_words.proofs.laws.local_with_bots.Goals as goal

pub returns : goal.returns
returns c = local_with_bots
