use Rattle.std.proofs.Common.{arith}
use Rattle.tick_core.proofs.BusyLemmas.{same_tick, turn_drawn, turn_whole}
use Rattle.tick_core.proofs.live_world.LiveWorld.run_turn.Goals as goal

pub count_turn-requires : goal.count_turn-requires
count_turn-requires c =
    let same = same_tick c.args.self.now c.step_all.new.self c.bury.new.self c.step_all.ensures.world c.bury.ensures in
    omega (arith, same, c.requires.tick)

pub returns-clause-world : goal.returns-clause-world
returns-clause-world c =
    turn_whole c.args.self.now c.step_all.new.self c.bury.new.self c.count_turn.new.self c.step_all.ensures.world c.bury.ensures c.count_turn.ensures

pub returns-clause-drawn : goal.returns-clause-drawn
returns-clause-drawn c =
    rw (turn_whole c.args.self.now c.step_all.new.self c.bury.new.self c.count_turn.new.self c.step_all.ensures.world c.bury.ensures c.count_turn.ensures)
    (turn_drawn c.args.self.now.setup c.args.self.now.world c.step_all.ensures.few)
