use Rattle.std.proofs.Common.{◌<◌}
use Rattle.map_grid.proofs.CrowdLemmas.{marked}
use Rattle.map_grid.proofs.crowd.Crowd.add.Goals as goal

pub invariant_of-self-2 : goal.invariant_of-self-2
invariant_of-self-2 c =
    let column : c.args.start.cell.x < c.self.inside.taken.width = rw (← c.self.view_is) at c.requires.column in
    let row : c.args.start.cell.y < c.self.inside.taken.height = rw (← c.self.view_is) at c.requires.row in
    rw (c.set.ensures, c.in_ok-push.ensures.items) (marked c.self.inside.starts.items c.args.start c.self.inside.taken c.self.invariant column row)
