use Rattle.match_serve.proofs.ConsoleLemmas.{watches}
use Rattle.match_serve.proofs.console.watch_console.Goals as goal

pub returns : goal.returns
returns g c = record { watches = watches _ _ _ _ _ _ _ _ _ c.end_line.ensures.ends c.end_line.ensures.left c.take_all.ensures.taken }
