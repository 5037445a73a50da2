use Rattle.std.proofs.Common.{◌≡◌, ◌+◌, ◌-◌, ◌++◌, ◌∷◌, [], length, ap, sym, refl, ◌∙◌, arith, drop}
use Rattle.std.proofs.Common.{take, vec_len}
use Rattle.std.proofs.lemmas.List.{drop_more, length_push, take_at}
use Rattle.yaml_lines.specs.declared.forest.Forest.TheViews.{out-Node}
use Rattle.yaml_lines.specs.Printed.{printed, printed_text}
use Rattle.yaml_lines.specs.Trees.{flat, trees_of_nodes}
use Rattle.yaml_lines.proofs.PrintSteps.{print_step}
use Rattle.yaml_lines.proofs.printing.+write_forest.Goals as goal

pub loop-node-preserved : goal.loop-node-preserved
loop-node-preserved t c =
    let told = c.loop-node.invariant in
    let node = c.node-item.result in
    let nodes = c.deref-node-items.result.now in
    let at = c.loop-node.node-index in
    let level = length c.args.indent.now.items in
    let lined = c.in_ok-write_line.ensures {u = tt} in
    let pushed = c.in_ok-push.ensures {u = tt} in
    let below = c.in_ok-write_forest.ensures {u = tt} in
    let key : c.as_bytes.result.now ≡ (out-Node node).key = c.as_bytes.ensures.value ∙ c.as_str.ensures in
    let value : c.as_bytes-in-loop-node.result.now ≡ (out-Node node).value = c.as_bytes-in-loop-node.ensures.value ∙ c.as_str-in-loop-node.ensures in
    let indent : c.as_slice.result.now ≡ c.args.indent.now.items = c.as_slice.ensures.value ∙ told.indent in
    let deeper : c.push.new.self.items ≡ c.args.indent.now.items ++ 9 ∷ [] = pushed.items ∙ ap (λ l. l ++ 9 ∷ []) told.indent in
    let kept : c.write_forest.new.indent.items ≡ c.args.indent.now.items ++ 9 ∷ [] = below.indent ∙ deeper in
    let long : vec_len c.write_forest.new.indent - 1 ≡ level = omega (arith, c.write_forest.new.indent.ok.0, ap length kept ∙ length_push c.args.indent.now.items 9) in
    record {
      indent = c.pop.ensures.rest ∙ ap (λ i. take i c.write_forest.new.indent.items) long ∙ ap (take level) kept ∙ take_at c.args.indent.now.items (9 ∷ []) level refl;
      written =
          print_step level (length c.push.new.self.items) c.args.indent.now.items node (drop (at + 1) nodes) c.loop-node.out.items c.write_line.new.out.items c.write_forest.new.out.items _
          c.requires (ap length deeper ∙ length_push c.args.indent.now.items 9)
          (lined
          ∙ ap (λ l. c.loop-node.out.items ++ ((l ++ printed_text c.as_bytes.result.now c.as_bytes-in-loop-node.result.now) ++ 10 ∷ [])) indent
          ∙ ap (λ l. c.loop-node.out.items ++ ((c.args.indent.now.items ++ printed_text l c.as_bytes-in-loop-node.result.now) ++ 10 ∷ [])) key
          ∙ ap (λ l. c.loop-node.out.items ++ ((c.args.indent.now.items ++ printed_text (out-Node node).key l) ++ 10 ∷ [])) value)
          below.written
          (ap (λ l. c.loop-node.out.items ++ printed (flat level (trees_of_nodes l))) (sym (drop_more nodes at node (omega arith) ∙ ap (λ n. n ∷ drop (at + 1) nodes) (sym c.node-item.is))) ∙ told.written);
    }
