use Rattle.match_net.proofs.AheadLemmas.{left_within}
use Rattle.match_net.proofs.SessionLemmas.{session_ends}
use Rattle.match_net.proofs.reader.reader_session_counted.Goals as goal

pub returns-clause-reads : goal.returns-clause-reads
returns-clause-reads g c =
    rw c.after_leaving.ensures (session_ends _ _ _ _ _ _ _ _ _ _ _ _ _ _ _ c.requires.may (c.requires.pass.held _) c.requires.unplayed c.read_as_greeted-end.ensures.reads c.leave-leaving.ensures.left)

pub returns-clause-near : goal.returns-clause-near
returns-clause-near g c =
    left_within _ _ _ _ _ c.read_as_greeted-end.ensures.may.feeds c.leave-leaving.ensures.left c.read_as_greeted-end.ensures.near
