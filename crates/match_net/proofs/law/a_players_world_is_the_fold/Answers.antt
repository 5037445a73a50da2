use Rattle.match_net.proofs.FoldLemmas.{is_fold}
use Rattle.match_net.proofs.AgreedLemmas.{is_agreed}
use Rattle.match_net.proofs.law.a_players_world_is_the_fold.Goals as goal

pub returns-clause-folds : goal.returns-clause-folds
returns-clause-folds g c = is_fold

pub returns-clause-agrees : goal.returns-clause-agrees
returns-clause-agrees g c = is_agreed
