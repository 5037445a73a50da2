-- The scripts of a file's bytes, or its first fault: the earliest line decides, and in it the first
-- word from the left.
use Rattle.std.specs.Prelude.{ℕ, zero, suc, ◌+◌, ◌==◌, Bool, if◌then◌else◌, List, [], ◌∷◌}
use Rattle.std.specs.Prelude.{Result, Ok, Err, nat_lt, nat_le, ◌&&◌, length}
use Rattle.std.specs.List.{list_all}
use Rattle.base.specs.Steps.{◌>>=◌}
use Rattle.game_orders.specs.declared.order.Order.{Order}
use Rattle.game_orders.specs.declared.limits.TheConstants.{MAX_ORDERS}
use Rattle.drill_words.specs.declared.limits.TheConstants.{MAX_EVENTS}
use Rattle.drill_words.specs.declared.drill_fault.DrillFault.{DrillFault}
use Rattle.drill_words.specs.declared.drill_fault.DrillFault.TheVariants.{BadWord, TooManyEvents}
use Rattle.drill_words.specs.declared.script_words.ScriptPlay.{ScriptPlay}
use Rattle.drill_words.specs.Event.{order_in_range}
use Rattle.drill_words.specs.KeptLine.{KeptLine, kept_lines}
use Rattle.drill_words.specs.DrillFault.{on_line}
use Rattle.drill_words.specs.ScriptLine.{script_head_of, script_play_of}

-- The play of a line that follows so many others. One too many is found before its words.
unfoldable pub play_on : ℕ → ℕ → KeptLine → Result ScriptPlay DrillFault
play_on clients before line =
    if before == MAX_EVENTS then Err (TooManyEvents line.number)
    else on_line line.number (script_play_of clients line.words)

-- The plays of the lines that follow so many others.
unfoldable pub plays_from : ℕ → ℕ → List KeptLine → Result (List ScriptPlay) DrillFault
plays_from clients before [] = Ok []
plays_from clients before (line ∷ lines) = do
  play ← play_on clients before line
  plays ← plays_from clients (before + 1) lines
  Ok (play ∷ plays)

-- What client c plays: the orders of its lines, from the first.
abbrev pub orders_by : ℕ → List ScriptPlay → List (List Order)
orders_by c [] = []
orders_by c (play ∷ plays) =
    if play.client == c then play.orders ∷ orders_by c plays else orders_by c plays

-- What each of so many clients plays, from client c on.
abbrev pub scripts_from : ℕ → ℕ → List ScriptPlay → List (List (List Order))
scripts_from c zero plays = []
scripts_from c (suc clients) plays = orders_by c plays ∷ scripts_from (c + 1) clients plays

-- What each client plays.
abbrev pub scripts_of : ℕ → List ScriptPlay → List (List (List Order))
scripts_of clients plays = scripts_from 0 clients plays

-- What the lines after the first write.
abbrev pub scripts_on : ℕ → List KeptLine → Result (List (List (List Order))) DrillFault
scripts_on clients lines = do
  plays ← plays_from clients 0 lines
  Ok (scripts_of clients plays)

-- A seed, and what each client plays.
pub record ScriptPlain : Type 0 where
  pub seed : ℕ
  pub scripts : List (List (List Order))

abbrev pub script_plain : ℕ × List (List (List Order)) → ScriptPlain
script_plain read = record { seed = read.0; scripts = read.1 }

-- The first kept line has the clients and the seed, and each further one is a play.
unfoldable pub script_of : Bool → List KeptLine → Result ScriptPlain DrillFault
script_of solo [] = Err (BadWord 0)
script_of solo (line ∷ lines) = do
  head ← on_line line.number (script_head_of solo line.words)
  scripts ← scripts_on head.clients lines
  Ok (record { seed = head.seed; scripts = scripts })

-- The script of a file's bytes, or its first fault.
unfoldable pub read_script_of : Bool → List ℕ → Result ScriptPlain DrillFault
read_script_of solo bytes = script_of solo (kept_lines bytes)

-- A play of a client of the match, with at most as many orders as a client may have, each within
-- its
-- range.
abbrev pub play_fits : ℕ → ScriptPlay → Bool
play_fits clients play =
    nat_lt play.client clients
    && (nat_le (length play.orders) MAX_ORDERS && list_all order_in_range play.orders)
