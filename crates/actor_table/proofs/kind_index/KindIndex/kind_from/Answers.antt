use Rattle.std.proofs.Common.{◌≡◌, ◌+◌, ◌*◌, ltb, get_or, sym, ap, ◌∙◌, rules, arith}
use Rattle.std.proofs.lemmas.List.Sorted.{IsPartitionPoint-from_clause, IsPartitionedBy-ltb}
use Rattle.actor_table.specs.Kinds.{rank_of}
use Rattle.actor_table.specs.declared.listed.Listed.{Listed}
use Rattle.actor_table.proofs.KindCalls.{ends_from_point}
use Rattle.actor_table.proofs.NextKinds.{EndsFrom, at_place, next_found, next_passed, next_ended}
use Rattle.actor_table.proofs.kind_index.KindIndex.kind_from.Goals as goal
use Rattle.actor_table.proofs.kind_index.KindIndex.kind_from.Goals.{else-at-len-via-then-at-len+else-index-owner, else-at-len-via-else-at-len}

pub returns-then-index-owner : goal.returns-then-index-owner
returns-then-index-owner c =
    let held = c.self.inside.entries in
    let first = (c.args.owner * 65536 + c.args.from) * 4294967296 in
    let parted = IsPartitionedBy-ltb rank_of c.deref.result.now first (rw c.deref.ensures.value c.self.invariant.sorted) in
    let point = IsPartitionPoint-from_clause (λ (e : Listed). ltb (rank_of e) first) c.deref.result.now c.partition_point-at.result c.partition_point-at.ensures.partitioned parted (λ a r q k. search rules) in
    let ends : EndsFrom c.args.owner c.args.from held.items c.partition_point-at.result = rw c.deref.ensures.value at (ends_from_point first c.deref.result.now _ point) in
    let again : c.index.result.now ≡ get_or held.items c.partition_point-at.result c.index-then-index-owner.result.now = sym (at_place held.items c.partition_point-at.result c.index.result.now c.index-then-index-owner.result.now (omega (arith, c.if-at-len.true, held.ok.0)) c.index.ensures) in
    let owned : c.index-then-index-owner.result.now.owner ≡ c.args.owner = ap (λ (e : Listed). e.owner) (c.index-then-index-owner.ensures ∙ sym again) ∙ c.if-index-owner.true in
    rw (← c.self.view_is) (next_found _ held.items c.args.owner c.args.from c.partition_point-at.result c.index-then-index-owner.result.now c.self.invariant ends (omega (arith, c.if-at-len.true, held.ok.0)) c.index-then-index-owner.ensures owned)

pub returns-else-at-len : goal.returns-else-at-len
returns-else-at-len c =
    let held = c.self.inside.entries in
    let first = (c.args.owner * 65536 + c.args.from) * 4294967296 in
    let parted = IsPartitionedBy-ltb rank_of c.deref.result.now first (rw c.deref.ensures.value c.self.invariant.sorted) in
    let point = IsPartitionPoint-from_clause (λ (e : Listed). ltb (rank_of e) first) c.deref.result.now c.partition_point-at.result c.partition_point-at.ensures.partitioned parted (λ a r q k. search rules) in
    let ends : EndsFrom c.args.owner c.args.from held.items c.partition_point-at.result = rw c.deref.ensures.value at (ends_from_point first c.deref.result.now _ point) in
    elim c.else-at-len.branch [
      | else-at-len-via-then-at-len+else-index-owner w ↦ rw (← c.self.view_is) (next_passed _ held.items c.args.owner c.args.from c.partition_point-at.result w.index.result.now c.self.invariant ends (omega (arith, w.if-at-len.true, held.ok.0)) w.index.ensures w.if-index-owner.false)
      | else-at-len-via-else-at-len w ↦ rw (← c.self.view_is) (next_ended held.items c.args.owner c.args.from c.partition_point-at.result ends (omega (arith, w.if-at-len.false, held.ok.0)))
    ]
