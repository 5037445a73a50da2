use Rattle.std.proofs.Common.{◌<◌, ltb, length, arith, rules}
use Rattle.std.proofs.lemmas.List.Sorted.{IsPartitionPoint-from_clause, IsPartitionedBy-ltb}
use Rattle.game_model.specs.declared.limits.TheConstants.{MAX_ACTORS}
use Rattle.actor_table.specs.Kinds.{rank_of, IsEntry}
use Rattle.actor_table.specs.declared.listed.Listed.{Listed}
use Rattle.actor_table.proofs.KindLists.{ids_after_insert}
use Rattle.actor_table.proofs.KindCalls.{EndsAt, ends_from_point, gap_from_ends, sorted_after_insert}
use Rattle.actor_table.proofs.kind_index.KindIndex.insert.Goals as goal

pub invariant_of-self : goal.invariant_of-self
invariant_of-self c =
    let held = c.self.inside.entries in
    let entry : Listed = record { owner = c.args.owner; kind = c.args.kind; id = c.args.id } in
    let rank = c.rank-rank.result in
    let at = c.partition_point-at.result in
    let parted = IsPartitionedBy-ltb rank_of c.deref.result.now rank (rw c.deref.ensures.value c.self.invariant.sorted) in
    let point = IsPartitionPoint-from_clause (λ (e : Listed). ltb (rank_of e) rank) c.deref.result.now at c.partition_point-at.ensures.partitioned parted (λ a r q k. search rules) in
    let ends : EndsAt (rank_of entry) held.items at = rw (c.deref.ensures.value, c.rank-rank.ensures) at (ends_from_point rank c.deref.result.now at point) in
    let fits : IsEntry entry = record { kind = omega arith; id = omega arith } in
    let below : length held.items < MAX_ACTORS = rw (← c.self.view_is) at c.requires in
    rw c.in-Ok.ensures.items (sorted_after_insert _ _ held.items at entry c.self.invariant c.in-Ok.ensures.capacity (rw c.deref.ensures.value at c.partition_point-at.ensures.bound) ends fits below)

pub returns-clause-ids : goal.returns-clause-ids
returns-clause-ids c =
    let held = c.self.inside.entries in
    let entry : Listed = record { owner = c.args.owner; kind = c.args.kind; id = c.args.id } in
    let rank = c.rank-rank.result in
    let at = c.partition_point-at.result in
    let parted = IsPartitionedBy-ltb rank_of c.deref.result.now rank (rw c.deref.ensures.value c.self.invariant.sorted) in
    let point = IsPartitionPoint-from_clause (λ (e : Listed). ltb (rank_of e) rank) c.deref.result.now at c.partition_point-at.ensures.partitioned parted (λ a r q k. search rules) in
    let ends : EndsAt (rank_of entry) held.items at = rw (c.deref.ensures.value, c.rank-rank.ensures) at (ends_from_point rank c.deref.result.now at point) in
    rw (c.in-Ok.ensures.items, ← c.self.view_is) (λ o k. ids_after_insert o k entry held.items at (gap_from_ends entry held.items at ends))
