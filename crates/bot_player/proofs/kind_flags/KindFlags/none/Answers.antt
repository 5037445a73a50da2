use Rattle.bot_player.proofs.WordLemmas.{none_in}
use Rattle.bot_player.proofs.kind_flags.KindFlags.none.Goals as goal

pub returns : goal.returns
returns c = none_in 16
