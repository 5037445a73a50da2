use Rattle.std.proofs.Common.{cond, ap, sym, ◌∙◌, ◌≡◌, Some, true, false}
use Rattle.std.specs.HashMap.{get}
use Rattle.std.specs.Prelude.{is_some}
use Rattle.std.specs.Str.{bytes_eq}
use Rattle.yaml_lines.specs.declared.forest.Forest.TheViews.{out-Node}
use Rattle.yaml_merge.proofs.NodeSteps.{names_new, names_old}
use Rattle.yaml_merge.proofs.keyed_list.names_of.Goals as goal

pub loop-at-preserved : goal.loop-at-preserved
loop-at-preserved c =
    let nodes = c.args.nodes.now in
    let at = c.loop-at.at in
    let node = c.index-nodes-at.result in
    let old = get bytes_eq c.loop-at.names in
    let absent : is_some (old (out-Node node).key) ≡ false = sym c.contains_key.ensures ∙ c.if-contains_key.false in
    names_new nodes at node old (get bytes_eq c.insert.new.self) c.loop-at-test.true c.index-nodes-at.is absent
    (λ name. (c.in_ok-insert.ensures {u = tt}).updates.0 name ∙ ap (λ k. cond (bytes_eq k name) (Some at) (old name)) (c.in_ok-copy.ensures {u = tt}))
    c.loop-at.invariant

pub loop-at-preserved-then-contains_key : goal.loop-at-preserved-then-contains_key
loop-at-preserved-then-contains_key c =
    let nodes = c.args.nodes.now in
    let node = c.index-nodes-at.result in
    let old = get bytes_eq c.loop-at.names in
    let there : is_some (old (out-Node node).key) ≡ true = sym c.contains_key.ensures ∙ c.if-contains_key.true in
    names_old nodes c.loop-at.at node old c.loop-at-test.true c.index-nodes-at.is there c.loop-at.invariant
