-- The match of a drill over rules and a map.
use Rattle.drill.specs.Drilled.{match_of}
use Rattle.drill_words.specs.Drill.{DrillPlain}
use Rattle.frame_core.specs.Match.{Match}
use Rattle.game_model.specs.Setup.{Setup}
use Rattle.tick_core.specs.Game.{GameState, game_after, game_hash, game_start, game_summary}

-- The match stands on these rules and this map, and each of its worlds begins as the opening game
-- of the drill's seed and clients.
abbrev pub game_match : Setup → DrillPlain → Match GameState
game_match setup drill =
    match_of game_after game_hash game_summary (game_start setup) drill.seed drill.clients
    drill.lag
