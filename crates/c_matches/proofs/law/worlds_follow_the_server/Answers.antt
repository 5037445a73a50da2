use Rattle.c_matches.proofs.AlongLemmas.{worlds_follow}
use Rattle.c_matches.proofs.law.worlds_follow_the_server.Goals as goal

pub returns : goal.returns
returns c = worlds_follow
