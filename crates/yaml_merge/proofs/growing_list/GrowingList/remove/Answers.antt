use Rattle.std.proofs.Common.{◌+◌, ◌-◌, set, ◌∙◌, ap, sym, refl, arith, Some, false}
use Rattle.yaml_merge.specs.declared.growing_list.Slot.{Slot}
use Rattle.yaml_merge.specs.Merging.{count}
use Rattle.yaml_merge.proofs.PlaceLaws.{without_none}
use Rattle.yaml_merge.proofs.GrowingSteps.{is_at, at_within, below_less}
use Rattle.yaml_merge.proofs.GrowingSteps.{lacks_list}
use Rattle.yaml_merge.proofs.GrowingSteps.{IsDropped, gone_whole, gone_list}
use Rattle.yaml_merge.proofs.growing_list.GrowingList.remove.Goals.{in-Some-1, in-None-1}
use Rattle.yaml_merge.proofs.growing_list.GrowingList.remove.Goals as goal

pub index_mut-slot-requires : goal.index_mut-slot-requires
index_mut-slot-requires c =
    let held = c.self.inside in
    let within = at_within c.args.key.now c.in-Some.at held.slots.items c.as_slice.result.now c.as_slice.ensures.value (c.in-Some.ensures {u = tt}) in
    omega (arith, within, held.slots.ok.0)

pub overflow_add-self : goal.overflow_add-self
overflow_add-self c =
    let held = c.self.inside in
    let slots = held.slots.items in
    let at = c.in-Some.at in
    let slot = c.index_mut-slot.result.now in
    let i = is_at c.args.key.now at slots c.as_slice.result.now slot c.as_slice.ensures.value (c.in-Some.ensures {u = tt}) c.index_mut-slot.ensures.value in
    let less = below_less c.args.key.now at slots slot held.total i c.self.invariant.1 in
    omega (arith, less, c.total.ensures, ap count c.replace-children.ensures.value)

pub overflow_sub-self : goal.overflow_sub-self
overflow_sub-self c =
    let held = c.self.inside in
    let slots = held.slots.items in
    let at = c.in-Some.at in
    let slot = c.index_mut-slot.result.now in
    let i = is_at c.args.key.now at slots c.as_slice.result.now slot c.as_slice.ensures.value (c.in-Some.ensures {u = tt}) c.index_mut-slot.ensures.value in
    let less = below_less c.args.key.now at slots slot held.total i c.self.invariant.1 in
    omega (arith, less, c.total.ensures, ap count c.replace-children.ensures.value)

pub invariant_of-self : goal.invariant_of-self
invariant_of-self c =
    let held = c.self.inside in
    let slots = held.slots.items in
    let at = c.in-Some.at in
    let slot = c.index_mut-slot.result.now in
    let i = is_at c.args.key.now at slots c.as_slice.result.now slot c.as_slice.ensures.value (c.in-Some.ensures {u = tt}) c.index_mut-slot.ensures.value in
    let dead : Slot = record { key = slot.key; value = slot.value; place = slot.place; children = c.replace-children.new.dest; live = false } in
    let dropped : IsDropped (held.total - (1 + c.total.result)) (set slots at dead) c.drop_dead.new.slots.items c.remove.new.self c.drop_dead.new.index =
    record { empty = c.drop_dead.ensures.none; same = c.drop_dead.ensures.some } in
    gone_whole c.args.key.now at slots c.drop_dead.new.slots.items slot held.total c.total.result held.index c.remove.new.self c.drop_dead.new.index dead i c.self.invariant refl
    (c.replace-children.ensures.after ∙ c.new.ensures) (c.total.ensures ∙ ap count c.replace-children.ensures.value) c.remove.ensures dropped

pub invariant_of-self-in-Some-2 : goal.invariant_of-self-in-Some-2
invariant_of-self-in-Some-2 c =
    let held = c.self.inside in
    let slots = held.slots.items in
    let at = c.in-Some.at in
    let slot = c.index_mut-slot.result.now in
    let i = is_at c.args.key.now at slots c.as_slice.result.now slot c.as_slice.ensures.value (c.in-Some.ensures {u = tt}) c.index_mut-slot.ensures.value in
    let dead : Slot = record { key = slot.key; value = slot.value; place = slot.place; children = c.replace-children.new.dest; live = false } in
    let dropped : IsDropped (held.total - (1 + c.total.result)) (set slots at dead) c.drop_dead.new.slots.items c.remove.new.self c.drop_dead.new.index =
    record { empty = c.drop_dead.ensures.none; same = c.drop_dead.ensures.some } in
    gone_whole c.args.key.now at slots c.drop_dead.new.slots.items slot held.total c.total.result held.index c.remove.new.self c.drop_dead.new.index dead i c.self.invariant refl
    (c.replace-children.ensures.after ∙ c.new.ensures) (c.total.ensures ∙ ap count c.replace-children.ensures.value) c.remove.ensures dropped

pub returns-in-Some : goal.returns-in-Some
returns-in-Some c =
    let held = c.self.inside in
    let slots = held.slots.items in
    let at = c.in-Some.at in
    let slot = c.index_mut-slot.result.now in
    let i = is_at c.args.key.now at slots c.as_slice.result.now slot c.as_slice.ensures.value (c.in-Some.ensures {u = tt}) c.index_mut-slot.ensures.value in
    let dead : Slot = record { key = slot.key; value = slot.value; place = slot.place; children = c.replace-children.new.dest; live = false } in
    let dropped : IsDropped (held.total - (1 + c.total.result)) (set slots at dead) c.drop_dead.new.slots.items c.remove.new.self c.drop_dead.new.index =
    record { empty = c.drop_dead.ensures.none; same = c.drop_dead.ensures.some } in
    let left =
    gone_list c.args.key.now at slots c.drop_dead.new.slots.items slot held.total c.total.result held.index c.remove.new.self c.drop_dead.new.index dead c.args.self.now i c.self.invariant refl
    (c.replace-children.ensures.after ∙ c.new.ensures) (c.total.ensures ∙ ap count c.replace-children.ensures.value) c.remove.ensures dropped c.self.view_is in
    elim c.match-children.branch [
      | in-Some-1 w ↦ left ∙ ap Some (sym w.self-is)
      | in-None-1 w ↦ left ∙ ap Some (sym w.self-is)
    ]

pub returns-in-None : goal.returns-in-None
returns-in-None c =
    without_none c.args.key.now c.args.self.now
    (lacks_list c.args.key.now c.self.inside.slots.items c.as_slice.result.now c.args.self.now c.as_slice.ensures.value c.self.view_is (c.in-None.ensures {u = tt}))
