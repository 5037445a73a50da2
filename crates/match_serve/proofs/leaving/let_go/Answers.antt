use Rattle.match_serve.proofs.LeaveLemmas.{out_pass}
use Rattle.match_serve.proofs.leaving.let_go.Goals as goal

pub returns-clause-pass : goal.returns-clause-pass
returns-clause-pass g c = out_pass _ _ _ _ _ c.requires.pass c.leave-left.ensures.pass (_, c.leave-left.ensures.left)
