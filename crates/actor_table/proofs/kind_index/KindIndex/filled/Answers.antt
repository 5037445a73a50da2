use Rattle.std.proofs.Common.{◌≡◌, map, ap, ◌∙◌, arith, rules}
use Rattle.std.specs.List.Sorted.{IsNonDecreasingBy}
use Rattle.std.proofs.lemmas.List.{take_all}
use Rattle.std.proofs.lemmas.List.Sorted.{IsNonDecreasingBy-from_sort_by_key}
use Rattle.actor_table.specs.Kinds.{rank_of, listed_as}
use Rattle.actor_table.proofs.FilledLists.{lists_sorted, sorted_index}
use Rattle.actor_table.proofs.kind_index.KindIndex.filled.Goals as goal

pub invariant_of-result : goal.invariant_of-result
invariant_of-result c =
    let pushed = c.loop-actor.invariant in
    let all : c.loop-actor.entries.items ≡ map listed_as c.args.actors.now = c.loop-actor.invariant.0 ∙ ap (map listed_as) (take_all c.loop-actor.actor-index c.args.actors.now (omega (arith, c.loop-actor-test.false))) in
    let ranks : IsNonDecreasingBy rank_of c.sort_unstable_by_key.new.self.items = IsNonDecreasingBy-from_sort_by_key rank_of _ c.sort_unstable_by_key.ensures.sorted (λ a r q k. search rules) in
    sorted_index _ c.args.actors.now c.loop-actor.entries.items _ all pushed.1 c.requires.count (omega (arith, pushed.2, c.sort_unstable_by_key.ensures.capacity)) c.sort_unstable_by_key.ensures.permutation ranks

pub returns : goal.returns
returns c =
    let all : c.loop-actor.entries.items ≡ map listed_as c.args.actors.now = c.loop-actor.invariant.0 ∙ ap (map listed_as) (take_all c.loop-actor.actor-index c.args.actors.now (omega (arith, c.loop-actor-test.false))) in
    let ranks : IsNonDecreasingBy rank_of c.sort_unstable_by_key.new.self.items = IsNonDecreasingBy-from_sort_by_key rank_of _ c.sort_unstable_by_key.ensures.sorted (λ a r q k. search rules) in
    lists_sorted c.args.actors.now _ c.requires.rise (rw all at c.sort_unstable_by_key.ensures.permutation) ranks
