use Rattle.match_net.proofs.OneSession.{one_session}
use Rattle.match_net.proofs.law.a_links_bytes_have_one_session.Goals as goal

pub returns : goal.returns
returns c = one_session
