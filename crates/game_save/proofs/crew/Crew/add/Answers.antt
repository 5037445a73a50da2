use Rattle.std.proofs.Common.{◌<◌}
use Rattle.game_save.proofs.CrewLemmas.{marked}
use Rattle.game_save.proofs.crew.Crew.add.Goals as goal

pub invariant_of-self-2 : goal.invariant_of-self-2
invariant_of-self-2 c =
    let column : c.args.actor.cell.x < c.self.inside.taken.width = rw (← c.self.view_is) at c.requires.column in
    let row : c.args.actor.cell.y < c.self.inside.taken.height = rw (← c.self.view_is) at c.requires.row in
    rw (c.set.ensures, c.in_ok-push.ensures.items) (marked c.self.inside.actors.items c.args.actor c.self.inside.taken c.self.invariant column row)
