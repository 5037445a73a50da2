use Rattle.std.proofs.Common.{refl, arith}
use Rattle.actor_table.proofs.TableCalls.{indexed_push}
use Rattle.actor_table.proofs.KindLists.{lists_push}
use Rattle.actor_table.proofs.IdleCalls.{idle_push}
use Rattle.actor_table.proofs.table.ActorTable.insert.Goals as goal

pub insert-requires : goal.insert-requires
insert-requires c =
    let asked = rw (← c.self.view_is) at c.requires in
    omega (arith, asked.room, c.self.invariant.listed.count)

pub invariant_of-self : goal.invariant_of-self
invariant_of-self c =
    let held = c.self.inside in
    let asked = rw (← c.self.view_is) at c.requires in
    rw (c.set.ensures, c.push.ensures, c.set-2.ensures, c.len.ensures.value) (record {
      indexed = indexed_push held.cells held.roster c.args.a c.self.invariant.indexed (record { column = asked.column; row = asked.row }) asked.free;
      listed = lists_push held.kinds c.insert.new.self held.roster c.args.a c.self.invariant.listed asked.above c.insert.ensures.count c.insert.ensures.ids;
      marked = idle_push held.idle held.roster c.args.a c.is_idle.result c.self.invariant.marked
          (c.is_idle.ensures c.args.a refl);
    })
