use Rattle.std.proofs.Common.{sym, ◌∙◌, arith}
use Rattle.match_net.proofs.TickLemmas.{ticks_step, ticks_stop, ticks_end}
use Rattle.match_net.proofs.player_round.tick_all.Goals as goal

pub loop-turn-preserved : goal.loop-turn-preserved
loop-turn-preserved g c =
    sym (ticks_step _ _ _ _ _ _ (omega (arith, c.loop-turn-test.true)) c.in_ok-went.ensures.told)
    ∙ c.loop-turn.invariant

pub returns-then-not-went : goal.returns-then-not-went
returns-then-not-went g c =
    ticks_stop _ _ _ c.in_ok-went.went _ _ _ c.loop-turn.invariant c.in_ok-went.ensures.told
    c.in_ok-went.ensures.rests c.if-not-went.true

pub returns : goal.returns
returns g c = ticks_end _ _ _ _ _ (omega (arith, c.loop-turn-test.false)) c.loop-turn.invariant
