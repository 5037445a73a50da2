use Rattle.actor_table.proofs.Places.{absent_is_none}
use Rattle.actor_table.proofs.roster.Roster.place_of.Goals as goal

pub unreachable-requires : goal.unreachable-requires
unreachable-requires c =
    let none = absent_is_none c.args.self.now c.args.id c.in-Err.ensures.absent in
    let there = rw none at c.requires in
    absurd (cc)
