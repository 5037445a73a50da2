use Rattle.actor_table.proofs.TableCalls.{indexed_body}
use Rattle.actor_table.proofs.KindLists.{lists_body, is_in_index, is_read}
use Rattle.game_model.specs.World.{actor_of}
use Rattle.actor_table.proofs.IdleCalls.{idle_body}
use Rattle.actor_table.proofs.table.ActorTable.swap_body.Goals as goal

pub set_owner-requires : goal.set_owner-requires
set_owner-requires c =
    let held = c.self.inside in
    let read = c.owner_and_kind-owner in
    let a = is_read (actor_of held.roster c.args.id) read.result.0 read.result.1 read.ensures.value in
    is_in_index held.kinds held.roster c.args.id a.0 c.self.invariant.listed a.1

pub invariant_of-self : goal.invariant_of-self
invariant_of-self c =
    let held = c.self.inside in
    let read = c.owner_and_kind-owner in
    rw (c.swap_body.ensures.given, c.set.ensures) (record {
      indexed = indexed_body held.cells held.roster c.args.id c.args.body.now c.self.invariant.indexed;
      listed = lists_body held.kinds c.set_owner.new.self held.roster c.args.id c.args.body.now read.result.0 read.result.1 c.self.invariant.listed read.ensures.rises read.ensures.value c.set_owner.ensures.count c.set_owner.ensures.ids;
      marked = idle_body 0 held.idle held.roster c.args.id c.args.body.now c.place_of-place.result c.is_idle.result
          read.ensures.rises c.place_of-place.ensures c.self.invariant.marked c.is_idle.ensures;
    })
