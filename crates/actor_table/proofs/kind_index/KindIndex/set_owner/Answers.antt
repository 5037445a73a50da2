use Rattle.std.proofs.Common.{◌≡◌, ◌≤◌, ◌+◌, eqb, false, ◌&&◌, cond, length, ap, ◌∙◌, arith}
use Rattle.std.proofs.lemmas.Bool.Decides.{nat_tests}
use Rattle.actor_table.specs.Kinds.{id_inserted}
use Rattle.actor_table.proofs.KindLists.{fewer, ids_after_remove}
use Rattle.actor_table.proofs.kind_index.KindIndex.set_owner.Goals as goal

pub insert-requires : goal.insert-requires
insert-requires c =
    let gone = fewer c.args.id c.args.self.now c.requires in
    rw c.remove.ensures.rest (omega (arith, gone, c.remove.ensures.limit))

pub returns-then-from-to-clause-count : goal.returns-then-from-to-clause-count
returns-then-from-to-clause-count c =
    let gone : length c.remove.new.self + 1 ≤ length c.args.self.now = rw c.remove.ensures.rest (fewer c.args.id c.args.self.now c.requires) in
    omega (arith, gone, c.insert.ensures.count)

pub returns-then-from-to-clause-ids : goal.returns-then-from-to-clause-ids
returns-then-from-to-clause-ids c =
    let differ : eqb c.args.from c.args.to ≡ false = grind (arith, nat_tests, c.if-from-to.true) in
    rw differ (λ o k. c.insert.ensures.ids o k ∙ ap (λ ids. cond ((eqb c.args.to o) && (eqb c.args.kind k)) (id_inserted c.args.id ids) ids) (rw c.remove.ensures.rest (ids_after_remove o k c.args.id c.args.self.now)))
