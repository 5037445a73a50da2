use Rattle.std.proofs.Common.{◌≡◌, ◌+◌, ◌-◌, ltb, subst, arith, rules}
use Rattle.std.proofs.lemmas.List.Elements.{recursion_from_All}
use Rattle.std.proofs.lemmas.List.Sorted.{IsPartitionPoint-from_clause, IsPartitionedBy-ltb}
use Rattle.actor_table.specs.Kinds.{rank_of, IsEntry}
use Rattle.actor_table.specs.declared.listed.Listed.{Listed}
use Rattle.actor_table.proofs.KindCalls.{EndsAt, ends_from_point, first_rank, listed_part, places_in_order}
use Rattle.actor_table.proofs.kind_index.KindIndex.of.Goals as goal

pub part-requires-clause-ordered : goal.part-requires-clause-ordered
part-requires-clause-ordered c =
    let held = c.self.inside.entries in
    let first = c.rank-first.result in
    let parted = IsPartitionedBy-ltb rank_of c.deref.result.now first (rw c.deref.ensures.value c.self.invariant.sorted) in
    let point = IsPartitionPoint-from_clause (λ (e : Listed). ltb (rank_of e) first) c.deref.result.now c.partition_point-from.result c.partition_point-from.ensures.partitioned parted (λ a r q k. search rules) in
    let low : EndsAt first held.items c.partition_point-from.result = rw c.deref.ensures.value at (ends_from_point first c.deref.result.now _ point) in
    let parted-2 = IsPartitionedBy-ltb rank_of c.deref-2.result.now (first + 4294967296) (rw c.deref-2.ensures.value c.self.invariant.sorted) in
    let point-2 = IsPartitionPoint-from_clause (λ (e : Listed). ltb (rank_of e) (first + 4294967296)) c.deref-2.result.now c.partition_point-to.result c.partition_point-to.ensures.partitioned parted-2 (λ a r q k. search rules) in
    let high : EndsAt (first + 4294967296) held.items c.partition_point-to.result = rw c.deref-2.ensures.value at (ends_from_point (first + 4294967296) c.deref-2.result.now _ point-2) in
    places_in_order first (first + 4294967296) held.items _ _ (record { owner = 0; kind = 0; id = 0 }) (omega arith) (rw c.deref.ensures.value at c.partition_point-from.ensures.bound) low high

pub returns : goal.returns
returns c =
    let held = c.self.inside.entries in
    let first = c.rank-first.result in
    let from = c.partition_point-from.result in
    let to = c.partition_point-to.result in
    let parted = IsPartitionedBy-ltb rank_of c.deref.result.now first (rw c.deref.ensures.value c.self.invariant.sorted) in
    let point = IsPartitionPoint-from_clause (λ (e : Listed). ltb (rank_of e) first) c.deref.result.now c.partition_point-from.result c.partition_point-from.ensures.partitioned parted (λ a r q k. search rules) in
    let low : EndsAt first held.items from = rw c.deref.ensures.value at (ends_from_point first c.deref.result.now _ point) in
    let parted-2 = IsPartitionedBy-ltb rank_of c.deref-2.result.now (first + 4294967296) (rw c.deref-2.ensures.value c.self.invariant.sorted) in
    let point-2 = IsPartitionPoint-from_clause (λ (e : Listed). ltb (rank_of e) (first + 4294967296)) c.deref-2.result.now c.partition_point-to.result c.partition_point-to.ensures.partitioned parted-2 (λ a r q k. search rules) in
    let high : EndsAt (first + 4294967296) held.items to = rw c.deref-2.ensures.value at (ends_from_point (first + 4294967296) c.deref-2.result.now _ point-2) in
    let ordered = places_in_order first (first + 4294967296) held.items from to (record { owner = 0; kind = 0; id = 0 }) (omega arith) (rw c.deref.ensures.value at c.partition_point-from.ensures.bound) low high in
    let together : to ≡ from + (to - from) = omega (arith, ordered) in
    let is_first : first ≡ first_rank c.args.owner c.args.kind = c.rank-first.ensures in
    let low' : EndsAt (first_rank c.args.owner c.args.kind) held.items from = subst (λ n. EndsAt n held.items from) is_first low in
    let high' : EndsAt (first_rank c.args.owner c.args.kind + 4294967296) held.items (from + (to - from)) = subst (λ n. EndsAt (n + 4294967296) held.items (from + (to - from))) is_first (subst (EndsAt (first + 4294967296) held.items) together high) in
    rw (c.part.ensures, c.deref-3.ensures.value, ← c.self.view_is) (listed_part c.args.owner c.args.kind held.items from (to - from) (omega arith) (recursion_from_All IsEntry held.items c.self.invariant.fit) low' high')
