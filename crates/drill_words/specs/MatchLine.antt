-- The first kept line of a drill.
use Rattle.std.specs.Prelude.{ℕ, ◌-◌, ◌^◌, List, Result, codes}
use Rattle.base.specs.Steps.{◌>>=◌}
use Rattle.game_orders.specs.declared.limits.TheConstants.{MAX_CLIENTS, MAX_LAG}
use Rattle.drill_words.specs.declared.word_fault.WordFault.{WordFault}
use Rattle.drill_words.specs.declared.match_line.MatchLine.{MatchLine}
use Rattle.drill_words.specs.Read.{after_word, number_at, at_end}

-- `match CLIENTS LAG SEED`
unfoldable pub match_line_of : List (List ℕ) → Result MatchLine WordFault
match_line_of words = do
  rest ← after_word (codes "match") words
  clients ← number_at 1 MAX_CLIENTS rest
  lag ← number_at 1 MAX_LAG clients.1
  seed ← number_at 0 (2 ^ 32 - 1) lag.1
  at_end (record { clients = clients.0; lag = lag.0; seed = seed.0 }) seed.1
