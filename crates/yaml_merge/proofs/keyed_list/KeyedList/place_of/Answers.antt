use Rattle.std.proofs.Common.{◌≡◌, ◌∙◌, false, ap, sym}
use Rattle.yaml_lines.specs.Trees.{trees_of}
use Rattle.yaml_merge.specs.Resolving.{removes}
use Rattle.yaml_merge.proofs.TopSteps.{parent_none, place_done, place_stands}
use Rattle.yaml_merge.proofs.keyed_list.KeyedList.place_of.Goals as goal

pub returns-then-removes-clause-parent : goal.returns-then-removes-clause-parent
returns-then-removes-clause-parent c =
    parent_none c.args.name.now (trees_of c.args.self.now.forest) (sym (c.removes.ensures ∙ ap removes (c.as_bytes.ensures.value ∙ c.as_str.ensures)) ∙ c.if-removes.true)

pub returns-clause-parent : goal.returns-clause-parent
returns-clause-parent c =
    let other : removes c.args.name.now ≡ false = sym (c.removes.ensures ∙ ap removes (c.as_bytes.ensures.value ∙ c.as_str.ensures)) ∙ c.if-removes.false in
    place_done c.args.name.now (trees_of c.args.self.now.forest) c.find.result other c.find.ensures

pub returns-clause-stands : goal.returns-clause-stands
returns-clause-stands c = place_stands c.args.name.now (trees_of c.args.self.now.forest) c.find.result c.find.ensures
