use Rattle.std.proofs.lemmas.List.Elements.{All-contains_itself}
use Rattle.grid_routes.specs.Asked.{asks_in}
use Rattle.grid_routes.proofs.findings.Findings.look.Goals as goal

pub returns-else-not-is_over-clause-asks : goal.returns-else-not-is_over-clause-asks
returns-else-not-is_over-clause-asks c = All-contains_itself (asks_in c.args.self.now)
