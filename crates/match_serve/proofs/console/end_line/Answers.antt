use Rattle.match_serve.proofs.ConsoleLemmas.{line_over}
use Rattle.match_serve.proofs.console.end_line.Goals as goal

pub returns-clause-ends : goal.returns-clause-ends
returns-clause-ends g c = λ bytes start far.
    line_over _ _ bytes _ start _ _ c.args.kicks.now _ c.requires.most c.kick_by.ensures.pass c.as_slice.ensures.value c.kick_by.ensures.kicks c.clear.ensures far
