use Rattle.match_net.proofs.WholeSession.{whole_ended, whole_refused, whole_lost}
use Rattle.match_net.proofs.law.an_ended_session_is_that_of_its_bytes.Goals as goal

pub returns-clause-ended : goal.returns-clause-ended
returns-clause-ended c = whole_ended

pub returns-clause-refused : goal.returns-clause-refused
returns-clause-refused c = whole_refused

pub returns-clause-lost : goal.returns-clause-lost
returns-clause-lost c = whole_lost
