use Rattle.c_matches.proofs.HistoryLemmas.{peers_agree}
use Rattle.c_matches.proofs.law.peers_hold_the_agreed_world.Goals as goal

pub returns : goal.returns
returns c = peers_agree
