use Rattle.std.proofs.Common.{◌≡◌, ◌≤◌, eqb, not, length, rules, tests, arith}
use Rattle.std.specs.List.{filter}
use Rattle.std.proofs.lemmas.Fn.{filter_same}
use Rattle.actor_table.specs.declared.listed.Listed.{Listed}
use Rattle.actor_table.proofs.KindCalls.{sorted_after_filter}
use Rattle.actor_table.proofs.kind_index.KindIndex.remove.Goals as goal

pub invariant_of-self : goal.invariant_of-self
invariant_of-self c =
    let held = c.self.inside.entries in
    let kept : c.retain.new.self.items ≡ filter (λ (e : Listed). not (eqb e.id c.args.id)) held.items =
    filter_same _ (λ (e : Listed). not (eqb e.id c.args.id)) _ (λ x b q k. search (rules, tests)) _ _ c.retain.ensures.filtered in
    let less : length c.retain.new.self.items ≤ length held.items = omega (arith, c.retain.ensures.bound, held.ok.0, c.retain.new.self.ok.0) in
    rw kept (sorted_after_filter _ _ _ held.items c.self.invariant (omega (arith, c.retain.ensures.capacity)) (rw kept at less))

pub returns-clause-rest : goal.returns-clause-rest
returns-clause-rest c =
    rw (← c.self.view_is) (filter_same _ (λ (e : Listed). not (eqb e.id c.args.id)) _ (λ x b q k. search (rules, tests)) _ _ c.retain.ensures.filtered)

pub returns-clause-limit : goal.returns-clause-limit
returns-clause-limit c = rw (← c.self.view_is) c.self.invariant.limit
