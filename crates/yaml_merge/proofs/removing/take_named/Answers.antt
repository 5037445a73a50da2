use Rattle.yaml_lines.specs.Trees.{trees_of}
use Rattle.yaml_merge.proofs.RemoveSteps.{named_taken, named_lacked}
use Rattle.yaml_merge.proofs.removing.take_named.Goals as goal

pub returns-in-Some : goal.returns-in-Some
returns-in-Some c =
    let list = trees_of c.args.list.now.forest in
    named_taken c.args.key.now c.in-Some.at c.args.flags.now c.take_flag.new.flags list c.take_flag.result (c.in-Some.ensures {u = tt}) c.requires.once c.take_flag.ensures

pub returns-in-None : goal.returns-in-None
returns-in-None c = named_lacked c.args.key.now c.args.flags.now (trees_of c.args.list.now.forest) (c.in-None.ensures {u = tt})
