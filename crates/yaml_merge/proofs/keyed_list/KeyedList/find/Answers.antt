use Rattle.std.proofs.Common.{◌∙◌, sym, subst}
use Rattle.yaml_lines.specs.Trees.{trees_of}
use Rattle.yaml_merge.proofs.NodeSteps.{IsNamed, is_named}
use Rattle.yaml_merge.proofs.keyed_list.KeyedList.find.Goals as goal

pub returns : goal.returns
returns c =
    let list = c.args.self.now in
    let key = c.args.key.now in
    let found = c.copied.ensures ∙ c.get.ensures.value ∙ list.named key in
    subst (IsNamed key (trees_of list.forest)) (sym found) (is_named key (trees_of list.forest))
