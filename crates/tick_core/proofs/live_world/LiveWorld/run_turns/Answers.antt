use Rattle.std.proofs.Common.{arith}
use Rattle.tick_core.proofs.TickLemmas.{turned_next, turned_all}
use Rattle.tick_core.proofs.live_world.LiveWorld.run_turns.Goals as goal

pub run_turn-requires : goal.run_turn-requires
run_turn-requires c =
    record {
      tick = omega (arith, c.loop-turn.invariant.room, c.loop-turn-test.true);
      draws = omega (arith, c.loop-turn.invariant.draws, c.loop-turn-test.true);
    }

pub loop-turn-preserved : goal.loop-turn-preserved
loop-turn-preserved c =
    turned_next c.args.self.now c.loop-turn.self _ c.args.turns c.loop-turn._turn c.loop-turn-test.true c.run_turn.ensures.world c.run_turn.ensures.drawn c.loop-turn.invariant

pub returns : goal.returns
returns c =
    turned_all c.args.self.now c.loop-turn.self c.args.turns c.loop-turn._turn (omega arith) c.loop-turn.invariant
