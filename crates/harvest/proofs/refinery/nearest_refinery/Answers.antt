use Rattle.std.proofs.Common.{◌+◌, arith}
use Rattle.std.specs.Option.{option_copied}
use Rattle.actor_table.specs.Kinds.{next_number}
use Rattle.harvest.proofs.RefineryLaw.{kind_turn, kinds_end, nearest_in_words, none_below}
use Rattle.harvest.proofs.refinery.nearest_refinery.Goals as goal

pub loop-kind-init : goal.loop-kind-init
loop-kind-init c = none_below c.args.rules.now c.args.t.now.actors c.args.a.now

pub loop-kind-preserved : goal.loop-kind-preserved
loop-kind-preserved c =
    rw c.best_of_kind-best.ensures
    (kind_turn c.args.rules.now c.args.t.now.actors c.args.a.now (option_copied c.loop-kind.best) (next_number c.loop-kind.last) c.in-Some.kind (c.in-Some.kind + 1) (omega arith) c.len-ids_rise.ensures.list.rise c.in-Some.ensures c.loop-kind.invariant)

pub returns-clause-value : goal.returns-clause-value
returns-clause-value c =
    kinds_end c.args.rules.now c.args.t.now.actors c.args.a.now (option_copied c.loop-kind.best) (next_number c.loop-kind.last) c.len-ids_rise.ensures.list.rise c.in_default.ensures c.loop-kind.invariant

pub returns-clause-nearest : goal.returns-clause-nearest
returns-clause-nearest c =
    nearest_in_words c.args.rules.now c.args.t.now.actors c.args.a.now (option_copied c.loop-kind.best) (next_number c.loop-kind.last) c.in_default.ensures c.loop-kind.invariant
