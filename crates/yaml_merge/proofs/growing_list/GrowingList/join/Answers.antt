use Rattle.std.proofs.Common.{◌≡◌, ◌++◌, ◌∷◌, [], ◌∙◌, ap, sym, subst, refl, arith, true}
use Rattle.yaml_merge.specs.declared.growing_list.Slot.{Slot}
use Rattle.yaml_merge.specs.Merging.{newer_value}
use Rattle.yaml_merge.specs.Slots.{LacksKey, Finds}
use Rattle.yaml_merge.proofs.GrowingSteps.{is_at, at_within, below_less}
use Rattle.yaml_merge.proofs.GrowingSteps.{filled_whole, filled_joined}
use Rattle.yaml_merge.proofs.GrowingSteps.{added_whole, added_list}
use Rattle.yaml_merge.proofs.growing_list.GrowingList.join.Goals as goal

pub index_mut-slot-requires : goal.index_mut-slot-requires
index_mut-slot-requires c =
    let held = c.self.inside in
    let within = at_within c.args.key.now c.in-Some.at held.slots.items c.as_slice.result.now c.as_slice.ensures.value (c.in-Some.ensures {u = tt}) in
    omega (arith, within, held.slots.ok.0)

pub overflow_sub-others : goal.overflow_sub-others
overflow_sub-others c =
    let held = c.self.inside in
    let slots = held.slots.items in
    let at = c.in-Some.at in
    let slot = c.index_mut-slot.result.now in
    let i = is_at c.args.key.now at slots c.as_slice.result.now slot c.as_slice.ensures.value (c.in-Some.ensures {u = tt}) c.index_mut-slot.ensures.value in
    let less = below_less c.args.key.now at slots slot held.total i c.self.invariant.1 in
    omega (arith, less, c.total.ensures)

pub invariant_of-self-in-Some : goal.invariant_of-self-in-Some
invariant_of-self-in-Some c =
    let held = c.self.inside in
    let slots = held.slots.items in
    let at = c.in-Some.at in
    let slot = c.index_mut-slot.result.now in
    let i = is_at c.args.key.now at slots c.as_slice.result.now slot c.as_slice.ensures.value (c.in-Some.ensures {u = tt}) c.index_mut-slot.ensures.value in
    let less = below_less c.args.key.now at slots slot held.total i c.self.invariant.1 in
    filled_whole c.args.key.now at slots slot held.total c.in-Some-checked_add.total held.index c.renew.new.old c.in_ok-value.value c.args.place c.args.children i c.self.invariant c.renew.ensures
    (omega (arith, less, c.total.ensures, c.total-in-Some.ensures, c.in-Some-checked_add.ensures))

pub returns-in-Some-checked_add : goal.returns-in-Some-checked_add
returns-in-Some-checked_add c =
    let held = c.self.inside in
    let slots = held.slots.items in
    let at = c.in-Some.at in
    let slot = c.index_mut-slot.result.now in
    let i = is_at c.args.key.now at slots c.as_slice.result.now slot c.as_slice.ensures.value (c.in-Some.ensures {u = tt}) c.index_mut-slot.ensures.value in
    filled_joined c.args.key.now at slots slot c.renew.new.old c.args.value.now c.args.place c.args.children c.args.self.now i
    (c.renew.ensures ∙ ap (newer_value slot.value) (c.in_ok-value.ensures {u = tt})) c.self.view_is

pub invariant_of-self-in-None : goal.invariant_of-self-in-None
invariant_of-self-in-None c =
    let held = c.self.inside in
    let slots = held.slots.items in
    let slot : Slot = record { key = c.in_ok-key-in-None.key; value = c.in_ok-value.value; place = c.args.place; children = c.args.children; live = true } in
    let key = c.in_ok-key-in-None.ensures {u = tt} in
    let lacks = subst (λ s. LacksKey c.args.key.now s) c.as_slice.ensures.value (c.in-None.ensures {u = tt}) in
    let pushed : c.push_reserved.new.self.items ≡ slots ++ slot ∷ [] = c.push_reserved.ensures.items ∙ ap (λ l. l ++ slot ∷ []) c.reserve.ensures.items in
    let finds = (c.in_ok-add-in-None.ensures {u = tt}).added slot refl refl in
    added_whole slots c.push_reserved.new.self.items slot held.total c.in-Some-checked_add-3.total c.add.new.self pushed refl (subst (λ k. LacksKey k slots) (sym key) lacks) c.self.invariant.0 c.self.invariant.1
    (omega (arith, c.in-Some-checked_add-2.ensures, c.in-Some-checked_add-3.ensures, c.total-in-None.ensures))
    (subst (λ s. Finds c.add.new.self (s ++ slot ∷ [])) (c.as_slice-in-None.ensures.value ∙ c.reserve.ensures.items) finds)

pub returns-in_ok-add-in-None : goal.returns-in_ok-add-in-None
returns-in_ok-add-in-None c =
    let held = c.self.inside in
    let slots = held.slots.items in
    let slot : Slot = record { key = c.in_ok-key-in-None.key; value = c.in_ok-value.value; place = c.args.place; children = c.args.children; live = true } in
    let key = c.in_ok-key-in-None.ensures {u = tt} in
    let lacks = subst (λ s. LacksKey c.args.key.now s) c.as_slice.ensures.value (c.in-None.ensures {u = tt}) in
    let pushed : c.push_reserved.new.self.items ≡ slots ++ slot ∷ [] = c.push_reserved.ensures.items ∙ ap (λ l. l ++ slot ∷ []) c.reserve.ensures.items in
    added_list c.args.key.now c.args.value.now slots c.push_reserved.new.self.items slot c.args.self.now pushed refl lacks key (c.in_ok-value.ensures {u = tt}) c.self.view_is
