use Rattle.std.proofs.Common.{◌∙◌, ap, arith}
use Rattle.yaml_merge.specs.Merging.{count}
use Rattle.yaml_merge.proofs.PlaceLaws.{lacks_children, emptied_lacks}
use Rattle.yaml_merge.proofs.GrowingSteps.{is_at, at_within, below_less, taken_whole, taken_children}
use Rattle.yaml_merge.proofs.GrowingSteps.{taken_left, lacks_list}
use Rattle.yaml_merge.proofs.growing_list.GrowingList.take.Goals as goal

pub index_mut-slot-requires : goal.index_mut-slot-requires
index_mut-slot-requires c =
    let held = c.self.inside in
    let within = at_within c.args.key.now c.in-Some.at held.slots.items c.as_slice.result.now c.as_slice.ensures.value (c.in-Some.ensures {u = tt}) in
    omega (arith, within, held.slots.ok.0)

pub overflow_sub-self : goal.overflow_sub-self
overflow_sub-self c =
    let held = c.self.inside in
    let slots = held.slots.items in
    let at = c.in-Some.at in
    let slot = c.index_mut-slot.result.now in
    let i = is_at c.args.key.now at slots c.as_slice.result.now slot c.as_slice.ensures.value (c.in-Some.ensures {u = tt}) c.index_mut-slot.ensures.value in
    let less = below_less c.args.key.now at slots slot held.total i c.self.invariant.1 in
    omega (arith, less, c.total.ensures, ap count c.replace-children.ensures.value)

pub invariant_of-self : goal.invariant_of-self
invariant_of-self c =
    let held = c.self.inside in
    let slots = held.slots.items in
    let at = c.in-Some.at in
    let slot = c.index_mut-slot.result.now in
    let i = is_at c.args.key.now at slots c.as_slice.result.now slot c.as_slice.ensures.value (c.in-Some.ensures {u = tt}) c.index_mut-slot.ensures.value in
    taken_whole c.args.key.now at slots slot held.total c.total.result held.index c.replace-children.new.dest i c.self.invariant (c.replace-children.ensures.after ∙ c.new.ensures)
    (c.total.ensures ∙ ap count c.replace-children.ensures.value)

pub returns-in-Some-clause-children : goal.returns-in-Some-clause-children
returns-in-Some-clause-children c =
    let held = c.self.inside in
    let slots = held.slots.items in
    let at = c.in-Some.at in
    let slot = c.index_mut-slot.result.now in
    let i = is_at c.args.key.now at slots c.as_slice.result.now slot c.as_slice.ensures.value (c.in-Some.ensures {u = tt}) c.index_mut-slot.ensures.value in
    c.replace-children.ensures.value ∙ taken_children c.args.key.now at slots slot c.args.self.now i c.self.view_is

pub returns-in-Some-clause-left : goal.returns-in-Some-clause-left
returns-in-Some-clause-left c =
    let held = c.self.inside in
    let slots = held.slots.items in
    let at = c.in-Some.at in
    let slot = c.index_mut-slot.result.now in
    let i = is_at c.args.key.now at slots c.as_slice.result.now slot c.as_slice.ensures.value (c.in-Some.ensures {u = tt}) c.index_mut-slot.ensures.value in
    taken_left c.args.key.now at slots slot c.replace-children.new.dest c.args.self.now i (c.replace-children.ensures.after ∙ c.new.ensures) c.self.view_is

pub returns-in-None-clause-children : goal.returns-in-None-clause-children
returns-in-None-clause-children c =
    c.new-in-None.ensures
    ∙ lacks_children c.args.key.now c.args.self.now
    (lacks_list c.args.key.now c.self.inside.slots.items c.as_slice.result.now c.args.self.now c.as_slice.ensures.value c.self.view_is (c.in-None.ensures {u = tt}))

pub returns-in-None-clause-left : goal.returns-in-None-clause-left
returns-in-None-clause-left c =
    emptied_lacks c.args.key.now c.args.self.now
    (lacks_list c.args.key.now c.self.inside.slots.items c.as_slice.result.now c.args.self.now c.as_slice.ensures.value c.self.view_is (c.in-None.ensures {u = tt}))
