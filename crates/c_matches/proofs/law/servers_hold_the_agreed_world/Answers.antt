use Rattle.c_matches.proofs.HistoryLemmas.{servers_agree}
use Rattle.c_matches.proofs.law.servers_hold_the_agreed_world.Goals as goal

pub returns : goal.returns
returns c = servers_agree
