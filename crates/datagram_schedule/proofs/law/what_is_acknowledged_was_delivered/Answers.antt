use Rattle.datagram_schedule.proofs.FollowsLemmas.{follows_all, acknowledged_below}
use Rattle.datagram_schedule.proofs.law.what_is_acknowledged_was_delivered.Goals as goal

pub returns : goal.returns
returns c = λ events. acknowledged_below _ _ (follows_all events)
