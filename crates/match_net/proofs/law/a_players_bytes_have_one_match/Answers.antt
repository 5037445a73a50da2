use Rattle.match_net.proofs.OneMatch.{one_match, played, played_the_same, followed_begins}
use Rattle.match_net.proofs.law.a_players_bytes_have_one_match.Goals as goal

pub returns-clause-one : goal.returns-clause-one
returns-clause-one g c = one_match

pub returns-clause-played : goal.returns-clause-played
returns-clause-played g c = played

pub returns-clause-same : goal.returns-clause-same
returns-clause-same g c = played_the_same

pub returns-clause-begins : goal.returns-clause-begins
returns-clause-begins g c = followed_begins
