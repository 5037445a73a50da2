-- The lines of a script.
use Rattle.std.specs.Prelude.{ℕ, ◌-◌, ◌^◌, Bool, if◌then◌else◌, List, Result, codes}
use Rattle.base.specs.Steps.{◌>>=◌}
use Rattle.game_orders.specs.declared.limits.TheConstants.{MAX_CLIENTS}
use Rattle.drill_words.specs.declared.word_fault.WordFault.{WordFault}
use Rattle.drill_words.specs.declared.script_words.ScriptHead.{ScriptHead}
use Rattle.drill_words.specs.declared.script_words.ScriptPlay.{ScriptPlay}
use Rattle.drill_words.specs.Read.{after_word, number_at, client_at, at_end}
use Rattle.drill_words.specs.OrderList.{orders_at}

-- The most clients of a script. A solo script has one.
abbrev pub most_clients : Bool → ℕ
most_clients solo = if solo then 1 else MAX_CLIENTS

-- `script CLIENTS SEED`
unfoldable pub script_head_of : Bool → List (List ℕ) → Result ScriptHead WordFault
script_head_of solo words = do
  rest ← after_word (codes "script") words
  clients ← number_at 1 (most_clients solo) rest
  seed ← number_at 0 (2 ^ 32 - 1) clients.1
  at_end (record { clients = clients.0; seed = seed.0 }) seed.1

-- `C ORDERS`: the next play of client C.
unfoldable pub script_play_of : ℕ → List (List ℕ) → Result ScriptPlay WordFault
script_play_of clients words = do
  client ← client_at clients words
  orders ← orders_at client.1
  at_end (record { client = client.0; orders = orders.0 }) orders.1
