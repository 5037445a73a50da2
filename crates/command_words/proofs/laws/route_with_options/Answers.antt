use Rattle.command_words.proofs.LiteralLemmas.{route_with_options}
use Rattle.command_words.proofs.laws.route_with_options.Goals as goal

pub returns : goal.returns
returns c = route_with_options
