-- A match by its worlds.
use Rattle.std.specs.Prelude.{ℕ, List}
use Rattle.frame_core.specs.declared.summary.Summary.{Summary}
use Rattle.frame_core.specs.Match.{Match}
use Rattle.game_orders.specs.declared.entry.Entry.{Entry}

-- A match whose worlds begin so and are stepped and seen so. They ask no lag.
abbrev pub match_from :
    {W : Type 0} → (after : W → List Entry → W) → (hash : W → ℕ) → (summary : W → Summary) →
    (start : W) → (clients : ℕ) → Match W
match_from after hash summary start clients =
    record {
      start = start;
      after = after;
      hash = hash;
      summary = summary;
      clients = clients;
      lag = 0;
    }
