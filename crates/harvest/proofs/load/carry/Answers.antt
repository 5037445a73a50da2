use Rattle.harvest.proofs.StepCases.{carried}
use Rattle.harvest.proofs.load.carry.Goals as goal

pub returns : goal.returns
returns c = carried c.args.t.now c.set_head.new.t c.set_load.new.t c.args.id c.args.load c.args.activity c.set_head.ensures c.set_load.ensures
