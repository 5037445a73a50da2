use Rattle.std.proofs.Common.{◌≡◌, ℕ, ◌<◌, ◌≤◌, ◌∙◌, List, length, length-set, sym, ap, subst, arith}
use Rattle.std.proofs.lemmas.List.Edits.{length-insert}
use Rattle.std.specs.List.{insert}
use Rattle.game_model.specs.declared.limits.TheConstants.{MAX_ACTORS}
use Rattle.sync_hash.specs.declared.actor_number.ActorNumber.{ActorNumber}
use Rattle.sync_hash.specs.Kept.{RiseFrom, number_in, with_number}
use Rattle.sync_hash.proofs.NumbersLemmas.{Absent, Present, absent_at, present_at, has_room, rise_with, sum_with}
use Rattle.sync_hash.proofs.actor_numbers.ActorNumbers.set.Goals as goal

-- What an insert at the place of an id that isn't there makes of the numbers.
record Inserted (l new : List ActorNumber) (id number : ℕ) : Type 0 where
  after : new ≡ with_number l id number
  before : number_in l id ≡ 0
  room : length new ≤ MAX_ACTORS

inserted_at :
    (l new : List ActorNumber) (id number place : ℕ) → Absent l id number place →
    new ≡ insert l place (record { id = id; number = number }) → place ≤ length l → length l < MAX_ACTORS →
    Inserted l new id number
inserted_at l new id number place h made within room =
    record {
      after = made ∙ sym h.inserted;
      before = h.before;
      room = rw made (omega (arith, room, length-insert l place (record { id = id; number = number }) within));
    }

inserted : (c : goal.After-insert-room) → Inserted c.self.inside.held.items c.insert-room.new.self.items c.args.id c.args.number
inserted c =
    let l = c.self.inside.held.items in
    let place = c.place_for-place.result in
    let h = absent_at l c.args.id c.args.number place c.self.invariant.0 (rw (← c.self.view_is) at c.place_for-place.ensures.value) (sym (rw (← c.self.view_is) at c.is_at.ensures) ∙ c.if-not-is_at.true) in
    let room : length l < MAX_ACTORS = has_room l c.args.id h.none (rw (← c.self.view_is) at c.requires) in
    let fits = c.insert-room.ensures.succeeds (omega (arith, room, c.self.inside.held.ok.0, c.self.invariant.2)) in
    inserted_at l c.insert-room.new.self.items c.args.id c.args.number place h (rw fits at c.insert-room.ensures.items) (rw (← c.self.view_is) at c.place_for-place.ensures.limit) room

pub invariant_of-self : goal.invariant_of-self
invariant_of-self c =
    let all = inserted c in
    (subst (RiseFrom 0) (sym all.after) (rise_with 0 c.self.inside.held.items c.args.id c.args.number c.self.invariant.0 (omega arith)), all.room, omega (arith, c.insert-room.ensures.capacity, c.self.invariant.2))

pub returns-then-not-is_at-clause-after : goal.returns-then-not-is_at-clause-after
returns-then-not-is_at-clause-after c = (inserted c).after ∙ ap (λ l. with_number l c.args.id c.args.number) c.self.view_is

pub returns-then-not-is_at-clause-before : goal.returns-then-not-is_at-clause-before
returns-then-not-is_at-clause-before c = sym (inserted c).before ∙ ap (λ l. number_in l c.args.id) c.self.view_is

pub returns-then-not-is_at-clause-sum : goal.returns-then-not-is_at-clause-sum
returns-then-not-is_at-clause-sum c =
    let all = inserted c in
    let sums = sum_with 0 c.self.inside.held.items c.args.id c.args.number c.self.invariant.0 in
    rw (all.after, ← c.self.view_is) (omega (arith, sums, all.before))

-- The id is there, at its place.
found :
    (c : goal.After-index-arg-1) (d : ActorNumber) →
    Present c.self.inside.held.items c.args.id c.args.number c.place_for-place.result d
found c d =
    present_at c.self.inside.held.items c.args.id c.args.number c.place_for-place.result d c.self.invariant.0 (rw (← c.self.view_is) at c.place_for-place.ensures.value) (sym (rw (← c.self.view_is) at c.is_at.ensures) ∙ c.if-not-is_at.false)

pub index-requires : goal.index-requires
index-requires c =
    let h = found c (record { id = 0; number = 0 }) in
    omega (arith, h.there, c.self.inside.held.ok.0)

pub index_mut-requires : goal.index_mut-requires
index_mut-requires c =
    let l = c.self.inside.held.items in
    let h = present_at l c.args.id c.args.number c.place_for-place.result c.index.result.now c.self.invariant.0 (rw (← c.self.view_is) at c.place_for-place.ensures.value) (sym (rw (← c.self.view_is) at c.is_at.ensures) ∙ c.if-not-is_at.false) in
    omega (arith, h.there, c.self.inside.held.ok.0)

replaced :
    (c : goal.After-self-1) →
    Present c.self.inside.held.items c.args.id c.args.number c.place_for-place.result c.index.result.now
replaced c =
    present_at c.self.inside.held.items c.args.id c.args.number c.place_for-place.result c.index.result.now c.self.invariant.0 (rw (← c.self.view_is) at c.place_for-place.ensures.value) (sym (rw (← c.self.view_is) at c.is_at.ensures) ∙ c.if-not-is_at.false)

pub invariant_of-self-2 : goal.invariant_of-self-2
invariant_of-self-2 c =
    let h = replaced c in
    (subst (RiseFrom 0) h.set_there (rise_with 0 c.self.inside.held.items c.args.id c.args.number c.self.invariant.0 (omega arith)), rw length-set c.self.invariant.1, c.self.invariant.2)

pub returns-clause-after : goal.returns-clause-after
returns-clause-after c = sym (replaced c).set_there ∙ ap (λ l. with_number l c.args.id c.args.number) c.self.view_is

pub returns-clause-before : goal.returns-clause-before
returns-clause-before c =
    ap (λ (a : ActorNumber). a.number) c.index.ensures ∙ sym (replaced c).before
    ∙ ap (λ l. number_in l c.args.id) c.self.view_is

pub returns-clause-sum : goal.returns-clause-sum
returns-clause-sum c =
    let h = replaced c in
    let sums = sum_with 0 c.self.inside.held.items c.args.id c.args.number c.self.invariant.0 in
    let kept : c.index.result.now.number ≡ number_in c.self.inside.held.items c.args.id =
    ap (λ (a : ActorNumber). a.number) c.index.ensures ∙ sym h.before in
    rw (← h.set_there, ← c.self.view_is, kept) sums
