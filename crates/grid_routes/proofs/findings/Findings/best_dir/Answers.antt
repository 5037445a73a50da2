use Rattle.std.proofs.Common.{◌∙◌, ◌++◌, ap}
use Rattle.grid_routes.specs.Asked.{asks_in, asks_of, walk_asks}
use Rattle.grid_routes.specs.declared.fields.Fields.{Fields}
use Rattle.grid_routes.proofs.Asking.{asks_after, final_counts, same_fields}
use Rattle.grid_routes.proofs.findings.Findings.best_dir.Goals as goal

pub returns-in-Some-clause-computed : goal.returns-in-Some-clause-computed
returns-in-Some-clause-computed c =
    let old = c.args.self.now in
    final_counts old.fields.ask old.fields.kept.items (walk_asks old.known.walks.items) c.in-Some.place c.args.ask.now
    c.args.from old.computed c.in-Some.ensures.settled

pub returns-in-Some-clause-asks : goal.returns-in-Some-clause-asks
returns-in-Some-clause-asks c =
    let old = c.args.self.now in
    same_fields old.fields.ask c.best_at.new.self.ask old.fields.kept.items c.best_at.new.self.kept.items
    (walk_asks old.known.walks.items) c.args.ask.now
    (c.best_at.ensures.asked ∙ ap (λ (f : Fields). f.ask) c.final_place.ensures.same)
    (c.best_at.ensures.kept ∙ ap (λ (f : Fields). f.kept.items) c.final_place.ensures.same)

pub returns-in-None-clause-asks : goal.returns-in-None-clause-asks
returns-in-None-clause-asks c =
    let old = c.args.self.now in
    let mid = c.final_place.new.self in
    asks_after (asks_in old) (asks_of mid.ask mid.kept.items ++ walk_asks old.known.walks.items)
    (asks_in c.find_near.new.self) c.args.ask.now
    (ap (λ (f : Fields). asks_of f.ask f.kept.items ++ walk_asks old.known.walks.items) c.final_place.ensures.same)
    c.find_near.ensures.asks
