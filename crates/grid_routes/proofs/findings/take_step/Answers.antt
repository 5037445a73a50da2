use Rattle.grid_routes.proofs.Knowing.{added_best, next-settled}
use Rattle.grid_routes.proofs.findings.take_step.Goals as goal

pub returns-in-Some-clause-walk : goal.returns-in-Some-clause-walk
returns-in-Some-clause-walk c =
    added_best c.args.search.now.entry_costs.terrain c.args.search.now.entry_costs.built c.args.walk.now c.add.new.self
    c.args.ask.now (record { cell = c.args.at; direction = c.in-Some.direction }) c.requires.walk c.requires.asked
    c.add.ensures.asked c.in-Some.ensures c.add.ensures.added

pub returns-in-Some-clause-next : goal.returns-in-Some-clause-next
returns-in-Some-clause-next c =
    next-settled c.args.search.now c.args.ask.now c.args.at c.in-Some.direction c.step.result c.requires.search
    c.requires.settled c.in-Some.ensures c.step.ensures.value
