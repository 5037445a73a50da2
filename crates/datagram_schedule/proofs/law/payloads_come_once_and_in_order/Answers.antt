use Rattle.datagram_schedule.proofs.FollowsLemmas.{follows_all, ready_is, ready_begins}
use Rattle.datagram_schedule.proofs.law.payloads_come_once_and_in_order.Goals as goal

pub returns-clause-delivered : goal.returns-clause-delivered
returns-clause-delivered c = λ events. ready_is _ _ (follows_all events)

pub returns-clause-prefix : goal.returns-clause-prefix
returns-clause-prefix c = λ events. ready_begins _ _ (follows_all events)
