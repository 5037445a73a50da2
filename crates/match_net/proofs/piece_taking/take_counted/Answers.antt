use Rattle.std.proofs.Common.{rules}
use Rattle.match_net.proofs.PieceTakingLemmas.{wider_ok, wider_err}
use Rattle.match_net.proofs.piece_taking.take_counted.Goals as goal

pub returns-clause-ok : goal.returns-clause-ok
returns-clause-ok g c = wider_ok _ _ _ _ _ _ _ _ _ (search rules) c.feed_from.ensures.ok

pub returns-clause-err : goal.returns-clause-err
returns-clause-err g c = wider_err _ _ _ _ _ _ _ (search rules) c.feed_from.ensures.err
