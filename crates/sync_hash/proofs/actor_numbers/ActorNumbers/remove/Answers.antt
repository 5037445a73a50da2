use Rattle.std.proofs.Common.{◌≡◌, ◌∙◌, sym, ap, subst, arith}
use Rattle.std.proofs.lemmas.List.Edits.{length-remove}
use Rattle.sync_hash.specs.declared.actor_number.ActorNumber.{ActorNumber}
use Rattle.sync_hash.specs.Kept.{RiseFrom, number_in}
use Rattle.sync_hash.proofs.NumbersLemmas.{Absent, Present, absent_at, present_at, rise_without, sum_without}
use Rattle.sync_hash.proofs.actor_numbers.ActorNumbers.remove.Goals as goal

-- The id isn't there.
absent : (c : goal.Then-not-is_at) → Absent c.self.inside.held.items c.args.id 0 c.place_for-place.result
absent c =
    absent_at c.self.inside.held.items c.args.id 0 c.place_for-place.result c.self.invariant.0 (rw (← c.self.view_is) at c.place_for-place.ensures.value) (sym (rw (← c.self.view_is) at c.is_at.ensures) ∙ c.if-not-is_at.true)

pub returns-then-not-is_at-clause-after : goal.returns-then-not-is_at-clause-after
returns-then-not-is_at-clause-after c = rw (← c.self.view_is) (sym (absent c).without)

pub returns-then-not-is_at-clause-before : goal.returns-then-not-is_at-clause-before
returns-then-not-is_at-clause-before c = rw (← c.self.view_is) (sym (absent c).before)

pub remove-requires : goal.remove-requires
remove-requires c =
    let h = present_at c.self.inside.held.items c.args.id 0 c.place_for-place.result (record { id = 0; number = 0 }) c.self.invariant.0 (rw (← c.self.view_is) at c.place_for-place.ensures.value) (sym (rw (← c.self.view_is) at c.is_at.ensures) ∙ c.if-not-is_at.false) in
    omega (arith, h.there, c.self.inside.held.ok.0)

removed : (c : goal.After-remove) → Present c.self.inside.held.items c.args.id 0 c.place_for-place.result c.remove.result
removed c =
    present_at c.self.inside.held.items c.args.id 0 c.place_for-place.result c.remove.result c.self.invariant.0 (rw (← c.self.view_is) at c.place_for-place.ensures.value) (sym (rw (← c.self.view_is) at c.is_at.ensures) ∙ c.if-not-is_at.false)

pub invariant_of-self : goal.invariant_of-self
invariant_of-self c =
    let h = removed c in
    let l = c.self.inside.held.items in
    let less = length-remove l c.place_for-place.result h.there in
    (subst (RiseFrom 0) (h.removed ∙ sym c.remove.ensures.items) (rise_without 0 l c.args.id c.self.invariant.0), rw c.remove.ensures.items (omega (arith, less, c.self.invariant.1)), rw c.remove.ensures.capacity c.self.invariant.2)

pub returns-clause-after : goal.returns-clause-after
returns-clause-after c = rw (← c.self.view_is) (c.remove.ensures.items ∙ sym (removed c).removed)

pub returns-clause-before : goal.returns-clause-before
returns-clause-before c =
    rw (← c.self.view_is)
    (ap (λ (a : ActorNumber). a.number) c.remove.ensures.value ∙ sym (removed c).before)

pub returns-clause-sum : goal.returns-clause-sum
returns-clause-sum c =
    let h = removed c in
    let l = c.self.inside.held.items in
    let number : c.remove.result.number ≡ number_in l c.args.id =
    ap (λ (a : ActorNumber). a.number) c.remove.ensures.value ∙ sym h.before in
    rw (c.remove.ensures.items, ← h.removed, number, ← c.self.view_is) (sum_without 0 l c.args.id c.self.invariant.0)
