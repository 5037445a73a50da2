use Rattle.match_net.proofs.RoundLemmas.{sending_none}
use Rattle.match_net.proofs.sending.send_all.Goals as goal

pub loop-init : goal.loop-init
loop-init g c =
    (c.requires.pass, c.requires.counts, c.requires.least, sending_none _ _ _ _ c.requires.none)
