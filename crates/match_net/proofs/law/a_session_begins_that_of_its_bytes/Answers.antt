use Rattle.match_net.proofs.OneSession.{session_begins}
use Rattle.match_net.proofs.law.a_session_begins_that_of_its_bytes.Goals as goal

pub returns : goal.returns
returns c = session_begins
