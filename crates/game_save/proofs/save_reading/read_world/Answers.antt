use Rattle.game_save.specs.ReadSave.{setup_with}
use Rattle.game_save.proofs.JoinLemmas.{valid_world}
use Rattle.game_save.proofs.save_reading.read_world.Goals as goal

pub returns-clause-valid : goal.returns-clause-valid
returns-clause-valid c =
    rw c.world_with.ensures
    (valid_world (setup_with c.args.rules.now c.args.map.now) c.args.frames c.in_ok-head.head
    c.in_ok-actors.actors c.in_ok-ore.ore c.in_ok-head.ensures.valid c.in_ok-actors.ensures.valid
    c.in_ok-actors.ensures.count c.in_ok-ore.ensures.valid)
