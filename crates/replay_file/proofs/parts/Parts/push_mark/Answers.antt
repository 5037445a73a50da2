use Rattle.std.proofs.Common.{arith}
use Rattle.replay_file.specs.declared.part.Part.TheVariants.{Mark}
use Rattle.replay_file.proofs.StoreLemmas.{mark_counted, parts_after}
use Rattle.replay_file.proofs.parts.Parts.push_mark.Goals as goal

pub invariant_of-self : goal.invariant_of-self
invariant_of-self c =
    mark_counted c.self.inside.bytes.items c.store_mark.new.out.items c.args.hash
    c.self.inside.frames c.store_mark.result c.self.invariant (omega arith) c.store_mark.ensures.ok
    c.store_mark.ensures.err

pub returns-clause-ok : goal.returns-clause-ok
returns-clause-ok c =
    rw (← c.self.view_is)
    (parts_after c.self.inside.bytes.items c.store_mark.new.out.items (Mark c.args.hash) c.store_mark.result
    c.self.invariant.store (omega arith) tt c.store_mark.ensures.ok)
