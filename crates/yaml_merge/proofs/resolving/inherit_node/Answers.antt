use Rattle.std.proofs.Common.{◌≡◌, ◌∙◌, ap, sym, subst, false, arith, Some}
use Rattle.yaml_lines.specs.declared.forest.Forest.TheViews.{out-Node}
use Rattle.base.specs.Steps.{IsFault}
use Rattle.yaml_lines.specs.Trees.{trees_of}
use Rattle.yaml_merge.specs.declared.fault.MergeFault.TheVariants.{NoMemory}
use Rattle.yaml_merge.specs.Places.{Stands, children_from}
use Rattle.yaml_merge.specs.Resolving.{in_path, parent_of}
use Rattle.yaml_merge.proofs.PlaceLaws.{stands_within}
use Rattle.yaml_merge.proofs.KeptSteps.{stands_key, clear_less, kept_serves, parent_stops}
use Rattle.yaml_merge.proofs.resolving.inherit_node.Goals as goal

pub returns-in-None-clause-stop : goal.returns-in-None-clause-stop
returns-in-None-clause-stop c =
    let scene = c.args.scene.now in
    let tops = trees_of scene.tops.now.forest in
    let value = (out-Node c.args.node.now).value in
    let at = c.in-Some.at in
    let found = c.in-Some.ensures {u = tt} in
    let stands : Stands value at tops = found.stands in
    let parent : parent_of value tops ≡ Some (children_from at tops) = found.parent in
    let absent : in_path value scene.path.now ≡ false =
    sym (c.in_path.ensures ∙ ap (λ n. in_path n scene.path.now) (c.as_bytes.ensures.value ∙ c.as_str-name.ensures)) ∙ c.if-in_path.false in (
      stands_within value at tops stands,
      omega arith,
      c.in-None.ensures {u = tt},
      λ fault e. parent_stops tops at value (out-Node c.args.node.now).place scene.free c.args.room scene.path.now c.args.list fault parent (stands_key value at tops stands) absent (omega arith) e,
    )

pub returns-in-Ok-clause-taken : goal.returns-in-Ok-clause-taken
returns-in-Ok-clause-taken c = λ free path h clear.
    let scene = c.args.scene.now in
    let tops = trees_of scene.tops.now.forest in
    let value = (out-Node c.args.node.now).value in
    let at = c.in-Some.at in
    let found = c.in-Some.ensures {u = tt} in
    let stands : Stands value at tops = found.stands in
    let parent : parent_of value tops ≡ Some (children_from at tops) = found.parent in
    let held = c.in-Some-served.ensures {u = tt} in
    kept_serves tops scene.kept.now at c.in-Some-served.parent.now value _ free c.args.room path c.args.list c.requires.are_kept held.0 parent (stands_key value at tops stands)
    (omega (arith, h, c.max.ensures)) (clear_less tops scene.kept.now _ _ path (omega (arith, c.max.ensures)) clear)
    ∙ (c.in-Ok.ensures {u = tt}).taken

pub returns-in-Err-clause-stop : goal.returns-in-Err-clause-stop
returns-in-Err-clause-stop c =
    let scene = c.args.scene.now in
    let tops = trees_of scene.tops.now.forest in
    let value = (out-Node c.args.node.now).value in
    let at = c.in-Some.at in
    let found = c.in-Some.ensures {u = tt} in
    let stands : Stands value at tops = found.stands in
    let parent : parent_of value tops ≡ Some (children_from at tops) = found.parent in
    let held = c.in-Some-served.ensures {u = tt} in
    subst (IsFault NoMemory c.in-Err.fault)
    (sym (kept_serves tops scene.kept.now at c.in-Some-served.parent.now value _ scene.free c.args.room scene.path.now c.args.list c.requires.are_kept held.0 parent (stands_key value at tops stands)
    held.1 (clear_less tops scene.kept.now _ _ scene.path.now held.1 scene.is_clear)))
    (c.in-Err.ensures {u = tt}).fault
