use Rattle.datagram_schedule.proofs.FollowsLemmas.{follows_all, follows_event}
use Rattle.datagram_schedule.proofs.law.each_outcome_is_that_of_the_schedule.Goals as goal

pub returns : goal.returns
returns c = λ events event. (follows_event _ _ event (follows_all events)).same
