-- The made drill of a number: a match of four clients over a network that loses, repeats and
-- delays.
use Rattle.std.specs.Prelude.{ℕ}
use Rattle.drill_words.specs.Drill.{DrillPlain}
use Rattle.drill.specs.Draft.{fresh_draft}
use Rattle.drill.specs.MadeRound.{rising, with_round}
use Rattle.drill.specs.declared.made_limits.TheConstants.{MADE_CLIENTS, MADE_LAG, MADE_ROUNDS}

-- The number is the seed of the draws and of the match.
unfoldable pub made_drill_of : ℕ → DrillPlain
made_drill_of seed =
    record {
      clients = MADE_CLIENTS;
      lag = MADE_LAG;
      seed = seed;
      events = (rising with_round MADE_ROUNDS (fresh_draft seed)).events;
    }
