use Rattle.std.proofs.Common.{sym}
use Rattle.game_save.specs.ReadSave.{setup_with}
use Rattle.game_save.proofs.JoinLemmas.{may_join}
use Rattle.game_save.proofs.actor_reading.read_actor.Goals as goal

pub returns-clause-valid : goal.returns-clause-valid
returns-clause-valid c =
    may_join (setup_with c.args.rules.now c.args.map.now) c.args.clients c.args.next_id
    c.args.crew.now.actors c.args.least c.in_ok-id.id c.in_ok-number.number c.in-Some.kind.now
    c.in_ok-cell.cell c.in_ok-cell.body c.requires.least (sym c.in-Some.ensures)
    c.in_ok-id.ensures.within c.in_ok-cell.ensures.valid
