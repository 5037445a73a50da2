use Rattle.match_serve.proofs.ConsoleLemmas.{taken_none, new_count}
use Rattle.match_serve.proofs.console.take_all.Goals as goal

pub loop-turn-init : goal.loop-turn-init
loop-turn-init g c = (c.requires.pass, new_count _ c.args.table.now _ c.requires.kicks, taken_none _ _ _ _ _ c.requires.pass c.requires.kicks)

pub returns-then-take_once-clause-taken : goal.returns-then-take_once-clause-taken
returns-then-take_once-clause-taken g c = c.if-take_once.ensures.takes _ _ c.loop-turn.invariant.2
