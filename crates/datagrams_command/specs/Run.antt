-- A script that is run line by line by an exchange.
use Rattle.std.specs.Prelude.{ℕ, ◌+◌, List, [], ◌∷◌, ◌++◌, Result, Ok}
use Rattle.base.specs.Steps.{◌>>=◌}
use Rattle.datagram_link.specs.Sender.{offered_count}
use Rattle.datagram_schedule.specs.Exchange.{ExchangeState, exchange_outcome, after_exchange}
use Rattle.drill_words.specs.declared.drill_fault.DrillFault.{DrillFault}
use Rattle.drill_words.specs.KeptLine.{KeptLine}
use Rattle.datagrams_command.specs.Script.{event_on}
use Rattle.datagrams_command.specs.Text.{outcome_line, got_lines, last_lines}

-- The exchange after a line, which follows so many others, and the text after its line.
unfoldable pub run_one :
    ℕ → ExchangeState → List ℕ → KeptLine → Result (ExchangeState × List ℕ) DrillFault
run_one before x text line = do
  event ← event_on before line
  Ok (after_exchange x event, text ++ outcome_line before (exchange_outcome x event))

-- The same of all these lines.
abbrev pub run_from :
    ℕ → ExchangeState → List ℕ → List KeptLine → Result (ExchangeState × List ℕ) DrillFault
run_from before x text [] = Ok (x, text)
run_from before x text (line ∷ lines) =
    run_one before x text line >>= λ run. run_from (before + 1) run.0 run.1 lines

-- The lines after those of the events.
abbrev pub exchange_closing : ExchangeState → List ℕ
exchange_closing x =
    got_lines x.receiver.ready
    ++ last_lines (offered_count x.sender) x.receiver.next x.sender.acknowledged

-- The text with the lines after those of the events.
abbrev pub closed : Result (ExchangeState × List ℕ) DrillFault → Result (List ℕ) DrillFault
closed run = run >>= λ ran. Ok (ran.1 ++ exchange_closing ran.0)
