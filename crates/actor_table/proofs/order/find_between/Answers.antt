use Rattle.std.proofs.Common.{rules}
use Rattle.std.proofs.lemmas.List.Sorted.{answers_always}
use Rattle.actor_table.specs.declared.place.Place.{Place}
use Rattle.actor_table.proofs.OrderCalls.{halved_found, halved_absent}
use Rattle.actor_table.proofs.order.find_between.Goals as goal

pub returns-in-Ok-clause-found : goal.returns-in-Ok-clause-found
returns-in-Ok-clause-found c =
    let facts = c.binary_search_by_key.ensures in
    let by_id = facts.position (λ (p : Place). p.id) (answers_always _ _ _ (λ f a r g called. search rules)) in
    halved_found c.args.order.now c.args.id c.args.from c.args.to c.binary_search_by_key.result c.in-Ok.at c.in-Ok.is c.requires.within facts.bound by_id

pub returns-in-Err-clause-absent : goal.returns-in-Err-clause-absent
returns-in-Err-clause-absent c =
    let facts = c.binary_search_by_key.ensures in
    let by_id = facts.position (λ (p : Place). p.id) (answers_always _ _ _ (λ f a r g called. search rules)) in
    halved_absent c.args.order.now c.args.id c.args.from c.args.to c.binary_search_by_key.result c.in-Err.at c.in-Err.is c.requires.rises c.requires.within c.requires.between facts.bound by_id
