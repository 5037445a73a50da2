use Rattle.std.proofs.Common.{◌-◌, arith}
use Rattle.actor_table.proofs.TableCalls.{bury_more}
use Rattle.actor_table.proofs.table.ActorTable.bury_all.Goals as goal

pub loop-left-preserved : goal.loop-left-preserved
loop-left-preserved c =
    record {
      within = omega (arith, c.loop-left.invariant.within);
      done = bury_more c.args.self.now c.loop-left.self c.bury_nth.new.self c.loop-left.left (c.loop-left.left - 1) (omega arith) c.loop-left.invariant.within c.loop-left.invariant.done c.bury_nth.ensures;
    }
