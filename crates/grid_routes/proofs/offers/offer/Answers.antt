use Rattle.std.proofs.Common.{arith}
use Rattle.grid_routes.proofs.Directions.{opposite-low, step-back}
use Rattle.grid_routes.proofs.Lowering.{offered}
use Rattle.grid_routes.proofs.offers.offer.Goals as goal

pub returns-in-Some-clause-offers : goal.returns-in-Some-clause-offers
returns-in-Some-clause-offers c = λ entry_cost d low is beside.
    let there = (beside.some c.in-Some.n c.in-Some.is).0 in
    offered entry_cost c.args.q.cell c.in-Some.n.cell d c.args.step_cost c.args.level c.args.field.now c.args.buckets.now
    c.relax.new.field c.relax.new.buckets is c.if-step_cost-gt0.true there c.requires.from (opposite-low d)
    (step-back c.args.q.cell c.in-Some.n.cell d (omega arith) (omega arith) low there) c.relax.ensures.relaxed
