use Rattle.std.proofs.Common.{refl}
use Rattle.actor_table.specs.Parts.{with_health}
use Rattle.actor_table.proofs.PartCalls.{tied_part}
use Rattle.actor_table.proofs.table.ActorTable.set_health.Goals as goal

pub invariant_of-self : goal.invariant_of-self
invariant_of-self c =
    let held = c.self.inside in
    let asked = rw (← c.self.view_is) at c.requires in
    rw (c.set.ensures, c.set_health.ensures.value) (tied_part held.cells held.kinds held.idle held.roster c.args.id
    c.place_of-place.result (with_health c.args.health) c.self.invariant c.set_health.ensures.rises c.place_of-place.ensures asked
    (record { body = λ a. refl; owner = λ a. refl }))
