-- The script of a schedule: the event of each kept line, or the first fault. There is no first line
-- of another kind, and a file without events is accepted.
use Rattle.std.specs.Prelude.{ℕ, ◌+◌, ◌-◌, ◌^◌, ◌==◌, nat_lt, nat_le, ◌&&◌, if◌then◌else◌, codes}
use Rattle.std.specs.Prelude.{List, [], ◌∷◌, length, Option, Some, None, Result, Ok, Err}
use Rattle.std.specs.Str.{bytes_eq}
use Rattle.base.specs.Steps.{◌>>=◌}
use Rattle.datagram_link.specs.declared.limits.TheConstants.{MAX_PAYLOAD}
use Rattle.datagram_schedule.specs.declared.event.Event.{Event}
use Rattle.datagram_schedule.specs.declared.event.Event.TheVariants.{Offer, Send, Acknowledge, Arrive}
use Rattle.drill_words.specs.declared.limits.TheConstants.{MAX_EVENTS}
use Rattle.drill_words.specs.declared.word_fault.WordFault.{WordFault}
use Rattle.drill_words.specs.declared.word_fault.WordFault.TheVariants.{BadWord}
use Rattle.drill_words.specs.declared.drill_fault.DrillFault.{DrillFault}
use Rattle.drill_words.specs.declared.drill_fault.DrillFault.TheVariants.{TooManyEvents}
use Rattle.drill_words.specs.DrillFault.{on_line}
use Rattle.drill_words.specs.KeptLine.{KeptLine, kept_lines}
use Rattle.drill_words.specs.Read.{Read, word_at, number_at, known, at_end}
use Rattle.datagrams_command.specs.declared.event_word.EventWord.{EventWord}
use Rattle.datagrams_command.specs.declared.event_word.EventWord.TheVariants as word_of

-- The event that a word begins.
unfoldable pub event_word : List ℕ → Option EventWord
event_word word =
    if bytes_eq word (codes "offer") then Some word_of.Offer
    else (if bytes_eq word (codes "send") then Some word_of.Send
    else (if bytes_eq word (codes "ack") then Some word_of.Ack
    else (if bytes_eq word (codes "arrive") then Some word_of.Arrive
    else None)))

unfoldable pub event_word_at : List (List ℕ) → Read EventWord
event_word_at = word_at λ word. known (event_word word)

-- A payload is a word, of as many bytes as a payload may have.
abbrev pub payload_of_word : List ℕ → Result (List ℕ) WordFault
payload_of_word word =
    if nat_lt 0 (length word) && nat_le (length word) MAX_PAYLOAD then Ok word else Err BadWord

unfoldable pub payload_at : List (List ℕ) → Read (List ℕ)
payload_at = word_at payload_of_word

-- What follows the first word of an event.
unfoldable pub event_at : EventWord → List (List ℕ) → Read Event
event_at word_of.Offer words = do
  payload ← payload_at words
  Ok (Offer payload.0, payload.1)
event_at word_of.Send words = do
  place ← number_at 0 (2 ^ 32 - 1) words
  Ok (Send place.0, place.1)
event_at word_of.Ack words = Ok (Acknowledge, words)
event_at word_of.Arrive words = do
  gram ← number_at 0 (2 ^ 32 - 1) words
  Ok (Arrive gram.0, gram.1)

-- The event that the words of a line write.
unfoldable pub event_of : List (List ℕ) → Result Event WordFault
event_of words = do
  word ← event_word_at words
  event ← event_at word.0 word.1
  at_end event.0 event.1

-- The event of a line that follows so many others. One too many is found before its words.
unfoldable pub event_on : ℕ → KeptLine → Result Event DrillFault
event_on before line =
    if before == MAX_EVENTS then Err (TooManyEvents line.number)
    else on_line line.number (event_of line.words)

-- The events of the lines that follow so many others.
abbrev pub events_from : ℕ → List KeptLine → Result (List Event) DrillFault
events_from before [] = Ok []
events_from before (line ∷ lines) = do
  event ← event_on before line
  events ← events_from (before + 1) lines
  Ok (event ∷ events)

-- The schedule of a file's bytes, or its first fault.
abbrev pub schedule_of : List ℕ → Result (List Event) DrillFault
schedule_of bytes = events_from 0 (kept_lines bytes)
