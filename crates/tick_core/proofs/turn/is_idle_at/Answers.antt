use Rattle.tick_core.proofs.BusyLemmas.{idle_marked}
use Rattle.tick_core.proofs.turn.is_idle_at.Goals as goal

pub returns : goal.returns
returns c = λ id known at.
    idle_marked c.args.table.now.actors c.args.i id c.len-ids_rise.ensures.list.rise at (c.is_idle_at.ensures known)
