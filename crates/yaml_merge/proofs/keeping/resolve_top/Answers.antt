use Rattle.std.proofs.Common.{◌≡◌, ◌≤◌, ◌∙◌, ◌-◌, ap, sym, Ok, arith}
use Rattle.yaml_lines.specs.declared.forest.Forest.TheViews.{out-Node}
use Rattle.yaml_lines.specs.declared.TheConstants.{MAX_LEVELS}
use Rattle.yaml_lines.specs.Trees.{trees_of}
use Rattle.yaml_merge.specs.declared.TheConstants.{MAX_LIST_NODES}
use Rattle.yaml_merge.specs.Laws.{IsPlain}
use Rattle.yaml_merge.specs.Merging.{count}
use Rattle.yaml_merge.specs.Resolving.{resolved_list}
use Rattle.yaml_merge.proofs.KeptSteps.{clear_less}
use Rattle.yaml_merge.proofs.PlainSteps.{plain_gives, some_given}
use Rattle.yaml_merge.proofs.keeping.resolve_top.Goals as goal

pub returns-in-Some-clause-done : goal.returns-in-Some-clause-done
returns-in-Some-clause-done c =
    let scene = c.args.scene.now in
    let list = trees_of (out-Node c.args.node.now).children in
    let told = c.in_ok-made.ensures {u = tt} in
    plain_gives (trees_of scene.tops.now.forest) scene.kept.now c.in-Some.made.height list (trees_of c.in-Some.made.children) c.requires.distinct
    (some_given (λ made. IsPlain list) c.in_ok-made.field-0 c.in-Some.made c.in-Some.is told.plain)
    (some_given (λ made. count list ≤ MAX_LIST_NODES) c.in_ok-made.field-0 c.in-Some.made c.in-Some.is told.small)
    (some_given (λ made. trees_of made.children ≡ list) c.in_ok-made.field-0 c.in-Some.made c.in-Some.is told.same)

pub returns-clause-done : goal.returns-clause-done
returns-clause-done c = λ free path h clear.
    let scene = c.args.scene.now in
    let tops = trees_of scene.tops.now.forest in
    let made = c.in_ok-resolved_of.ensures {u = tt} in
    let level = c.in_ok-list.ensures {u = tt} in
    ap (λ s. resolved_list free (trees_of (out-Node c.args.node.now).children) (MAX_LEVELS - 1) tops path s) (sym c.new-start.ensures)
    ∙ level.done free path (omega (arith, h, made.height)) (clear_less tops scene.kept.now _ _ path (omega (arith, made.height)) clear)
    ∙ ap Ok (sym made.children)
