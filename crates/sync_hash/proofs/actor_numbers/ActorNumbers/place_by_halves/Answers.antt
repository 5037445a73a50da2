use Rattle.std.proofs.Common.{rules, arith, nat_lt, subst, sym}
use Rattle.std.proofs.lemmas.List.Sorted.{IsPartitionPoint-from_clause, IsPartitionedBy-ltb}
use Rattle.sync_hash.specs.declared.actor_number.ActorNumber.{ActorNumber}
use Rattle.sync_hash.specs.Kept.{RiseFrom}
use Rattle.sync_hash.proofs.NumbersLemmas.{ids_rise, place_is}
use Rattle.sync_hash.proofs.actor_numbers.ActorNumbers.place_by_halves.Goals as goal

pub returns-clause-value : goal.returns-clause-value
returns-clause-value c =
    let l = c.as_slice.result.now in
    let id = c.args.id in
    let rise = ids_rise 0 l (subst (RiseFrom 0) (sym c.as_slice.ensures.value) c.self.invariant.0) in
    let parted = IsPartitionedBy-ltb (λ (a : ActorNumber). a.id) l id rise in
    let point = IsPartitionPoint-from_clause (λ (a : ActorNumber). nat_lt a.id id) l c.partition_point.result c.partition_point.ensures.partitioned parted (λ a r q k. search rules) in
    let d : ActorNumber = record { id = 0; number = 0 } in
    rw (← c.self.view_is, ← c.as_slice.ensures.value)
    (place_is l id c.partition_point.result d c.partition_point.ensures.bound (λ k before. point.0 k d (omega arith) before) (λ there. point.1 c.partition_point.result d (omega arith) there))
