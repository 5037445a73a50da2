use Rattle.std.proofs.Common.{◌≡◌, ◌∙◌, sym, ap, false, true}
use Rattle.std.specs.Str.{bytes_eq}
use Rattle.yaml_lines.specs.declared.forest.Forest.TheViews.{out-Node}
use Rattle.yaml_lines.specs.Trees.{trees_of_nodes}
use Rattle.rule_traits.specs.Typed.{has_field}
use Rattle.rule_traits.proofs.EachLemmas.{field_here, field_next, field_out}
use Rattle.rule_traits.proofs.typing.has_field.Goals as goal

pub loop-node-init : goal.loop-node-init
loop-node-init c = ap (λ nodes. has_field c.args.name.now (trees_of_nodes nodes)) c.deref-node-items.ensures.value ∙ sym (field_out c.args.name.now c.args.fields.now)

pub returns-then-eq : goal.returns-then-eq
returns-then-eq c =
    let name = c.args.name.now in
    let is = sym (c.eq.ensures ∙ ap (λ key. bytes_eq key name) (c.as_str.ensures ∙ ap (λ node. (out-Node node).key) c.node-item.is)) ∙ c.if-eq.true in
    sym (field_here name c.deref-node-items.result.now c.loop-node.node-index c.node-item.result c.loop-node-test.true is) ∙ c.loop-node.invariant

pub loop-node-preserved : goal.loop-node-preserved
loop-node-preserved c =
    let name = c.args.name.now in
    let is = sym (c.eq.ensures ∙ ap (λ key. bytes_eq key name) (c.as_str.ensures ∙ ap (λ node. (out-Node node).key) c.node-item.is)) ∙ c.if-eq.false in
    sym (field_next name c.deref-node-items.result.now c.loop-node.node-index c.node-item.result c.loop-node-test.true is) ∙ c.loop-node.invariant
