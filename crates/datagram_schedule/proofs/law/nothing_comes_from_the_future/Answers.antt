use Rattle.datagram_schedule.proofs.FollowsLemmas.{follows_all, never_far, never_unsent}
use Rattle.datagram_schedule.proofs.law.nothing_comes_from_the_future.Goals as goal

pub returns-clause-near : goal.returns-clause-near
returns-clause-near c =
    λ events gram number payload at. never_far _ _ (follows_all events) gram number payload at

pub returns-clause-sent : goal.returns-clause-sent
returns-clause-sent c = λ events gram next at. never_unsent _ _ (follows_all events) gram next at
