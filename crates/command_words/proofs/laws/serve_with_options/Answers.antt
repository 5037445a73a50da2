use Rattle.command_words.proofs.LiteralLemmas.{serve_with_options}
use Rattle.command_words.proofs.laws.serve_with_options.Goals as goal

pub returns : goal.returns
returns c = serve_with_options
