use Rattle.tick_core.specs.Game.{GameState, game_clients}
use Rattle.c_worlds.proofs.SightLemmas.{writes_sight}
use Rattle.c_worlds.proofs.sights.write_sight.Goals as goal

pub returns-clause-written : goal.returns-clause-written
returns-clause-written c =
    let game : GameState = c.args.game.now in
    writes_sight c.args.client game.setup.rules game.world.actors game.setup.map.width game.setup.map.height
    (game_clients game) c.in_ok-shroud.shroud c.args.out.now c.write_flags.new.out c.requires.client c.in_ok-shroud.ensures
    c.requires.room c.write_flags.ensures
