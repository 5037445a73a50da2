-- The drill of a file's bytes, or its first fault: the earliest line decides, and in it the first
-- word from the left.
use Rattle.std.specs.Prelude.{◌≡◌, ℕ, ◌+◌, ◌^◌, ◌<◌, ◌≤◌, ◌==◌, true, if◌then◌else◌}
use Rattle.std.specs.Prelude.{List, [], ◌∷◌, length, Result, Ok, Err}
use Rattle.std.specs.List.{list_all}
use Rattle.base.specs.Steps.{◌>>=◌, IsFault}
use Rattle.game_orders.specs.declared.limits.TheConstants.{MAX_CLIENTS, MAX_LAG}
use Rattle.drill_words.specs.declared.limits.TheConstants.{MAX_EVENTS}
use Rattle.drill_words.specs.declared.event.Event.{Event}
use Rattle.drill_words.specs.declared.drill.Drill.{Drill}
use Rattle.drill_words.specs.declared.drill_fault.DrillFault.{DrillFault}
use Rattle.drill_words.specs.declared.drill_fault.DrillFault.TheVariants.{BadWord, TooManyEvents}
use Rattle.drill_words.specs.declared.drill_fault.DrillFault.TheVariants.{NoMemory}
use Rattle.drill_words.specs.KeptLine.{KeptLine, kept_lines}
use Rattle.drill_words.specs.DrillFault.{on_line}
use Rattle.drill_words.specs.MatchLine.{match_line_of}
use Rattle.drill_words.specs.EventLine.{event_of}
use Rattle.drill_words.specs.Event.{event_fits, event_in_range}

-- The event of a line that follows so many others. One too many is found before its words.
unfoldable pub event_on : ℕ → ℕ → KeptLine → Result Event DrillFault
event_on clients before line =
    if before == MAX_EVENTS then Err (TooManyEvents line.number)
    else on_line line.number (event_of clients line.words)

-- The events of the lines that follow so many others.
unfoldable pub events_from : ℕ → ℕ → List KeptLine → Result (List Event) DrillFault
events_from clients before [] = Ok []
events_from clients before (line ∷ lines) = do
  event ← event_on clients before line
  events ← events_from clients (before + 1) lines
  Ok (event ∷ events)

-- A drill as plain values.
pub record DrillPlain : Type 0 where
  pub clients : ℕ
  pub lag : ℕ
  pub seed : ℕ
  pub events : List Event

abbrev pub plain_of : Drill → DrillPlain
plain_of drill =
    record { clients = drill.clients; lag = drill.lag; seed = drill.seed; events = drill.events }

-- The first kept line is the match, and each further one is an event.
unfoldable pub drill_of : List KeptLine → Result DrillPlain DrillFault
drill_of [] = Err (BadWord 0)
drill_of (line ∷ lines) = do
  head ← on_line line.number (match_line_of line.words)
  events ← events_from head.clients 0 lines
  Ok (record { clients = head.clients; lag = head.lag; seed = head.seed; events = events })

-- The drill of a file's bytes, or its first fault.
unfoldable pub read_of : List ℕ → Result DrillPlain DrillFault
read_of bytes = drill_of (kept_lines bytes)

-- A reader returns what is read, seen by view. Out of memory alone may take the place of any
-- answer.
abbrev pub ReturnsRead :
    {A B : Type 0} → (A → B) → Result A DrillFault → Result B DrillFault → Type 0
ReturnsRead view (Ok value) read = read ≡ Ok (view value)
ReturnsRead view (Err fault) read = IsFault NoMemory fault read

-- A drill within its limits.
pub record IsDrill (drill : DrillPlain) : Type 0 where
  pub least_clients : 1 ≤ drill.clients
  pub most_clients : drill.clients ≤ MAX_CLIENTS
  pub least_lag : 1 ≤ drill.lag
  pub most_lag : drill.lag ≤ MAX_LAG
  pub seed : drill.seed < 2 ^ 32
  pub most_events : length drill.events ≤ MAX_EVENTS
  pub fit : list_all (event_fits drill.clients) drill.events ≡ true
  pub range : list_all event_in_range drill.events ≡ true
