use Rattle.std.proofs.Common.{refl}
use Rattle.actor_table.specs.Parts.{with_load}
use Rattle.actor_table.proofs.PartCalls.{tied_part}
use Rattle.actor_table.proofs.table.ActorTable.set_load.Goals as goal

pub invariant_of-self : goal.invariant_of-self
invariant_of-self c =
    let held = c.self.inside in
    let asked = rw (← c.self.view_is) at c.requires in
    rw (c.set.ensures, c.set_load.ensures.value) (tied_part held.cells held.kinds held.idle held.roster c.args.id
    c.place_of-place.result (with_load c.args.load) c.self.invariant c.set_load.ensures.rises c.place_of-place.ensures asked
    (record { body = λ a. refl; owner = λ a. refl }))
