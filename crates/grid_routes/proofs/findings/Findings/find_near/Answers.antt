use Rattle.grid_routes.specs.Asked.{asks_in}
use Rattle.grid_routes.proofs.Asking.{asks_after, same_asks}
use Rattle.grid_routes.proofs.findings.Findings.find_near.Goals as goal

pub returns-in-Some-clause-asks : goal.returns-in-Some-clause-asks
returns-in-Some-clause-asks c =
    same_asks (asks_in c.args.self.now) (asks_in c.known.new.self) c.args.ask.now c.known.ensures.asks

pub returns-in-None-clause-asks : goal.returns-in-None-clause-asks
returns-in-None-clause-asks c =
    asks_after (asks_in c.args.self.now) (asks_in c.known.new.self) (asks_in c.find.new.self) c.args.ask.now
    c.known.ensures.asks c.find.ensures.asks
