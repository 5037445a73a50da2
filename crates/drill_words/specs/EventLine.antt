-- The line of an event.
use Rattle.std.specs.Prelude.{ℕ, ◌-◌, ◌^◌, if◌then◌else◌, List, Option, Some, None, Result, Ok}
use Rattle.std.specs.Prelude.{codes}
use Rattle.std.specs.Str.{bytes_eq}
use Rattle.base.specs.Steps.{◌>>=◌}
use Rattle.drill_words.specs.declared.word_fault.WordFault.{WordFault}
use Rattle.drill_words.specs.declared.event_word.EventWord.{EventWord}
use Rattle.drill_words.specs.declared.event_word.EventWord.TheVariants as word_of
use Rattle.drill_words.specs.declared.event.Event.{Event}
use Rattle.drill_words.specs.declared.event.Event.TheVariants.{Seal, Up, Down, Tick, TickServer}
use Rattle.drill_words.specs.declared.event.Event.TheVariants.{DropClient, Report, Forge, Bye}
use Rattle.drill_words.specs.Read.{Read, word_at, number_at, client_of, client_at, known, hash_at}
use Rattle.drill_words.specs.Read.{at_end}
use Rattle.drill_words.specs.OrderList.{orders_at}

-- The event that a word begins.
unfoldable pub event_word : List ℕ → Option EventWord
event_word word =
    if bytes_eq word (codes "seal") then Some word_of.Seal
    else (if bytes_eq word (codes "up") then Some word_of.Up
    else (if bytes_eq word (codes "down") then Some word_of.Down
    else (if bytes_eq word (codes "tick") then Some word_of.Tick
    else (if bytes_eq word (codes "drop") then Some word_of.Drop
    else (if bytes_eq word (codes "report") then Some word_of.Report
    else (if bytes_eq word (codes "forge") then Some word_of.Forge
    else (if bytes_eq word (codes "bye") then Some word_of.Bye
    else None)))))))

unfoldable pub event_word_at : List (List ℕ) → Read EventWord
event_word_at = word_at λ word. known (event_word word)

-- A peer that ticks, or the server.
abbrev pub ticker_of : ℕ → List ℕ → Result Event WordFault
ticker_of clients word =
    if bytes_eq word (codes "server") then Ok TickServer
    else (client_of clients word >>= λ peer. Ok (Tick peer))

unfoldable pub ticker_at : ℕ → List (List ℕ) → Read Event
ticker_at clients = word_at (ticker_of clients)

-- What follows the first word of an event.
unfoldable pub event_at : ℕ → EventWord → List (List ℕ) → Read Event
event_at clients word_of.Seal words = do
  peer ← client_at clients words
  orders ← orders_at peer.1
  Ok (Seal peer.0 orders.0, orders.1)
event_at clients word_of.Up words = do
  packet ← number_at 0 (2 ^ 32 - 1) words
  Ok (Up packet.0, packet.1)
event_at clients word_of.Down words = do
  peer ← client_at clients words
  client ← client_at clients peer.1
  frame ← number_at 0 (2 ^ 32 - 1) client.1
  Ok (Down peer.0 client.0 frame.0, frame.1)
event_at clients word_of.Tick words = ticker_at clients words
event_at clients word_of.Drop words = do
  client ← client_at clients words
  Ok (DropClient client.0, client.1)
event_at clients word_of.Report words = do
  peer ← client_at clients words
  Ok (Report peer.0, peer.1)
event_at clients word_of.Forge words = do
  client ← client_at clients words
  frame ← number_at 0 (2 ^ 32 - 1) client.1
  hash ← hash_at frame.1
  Ok (Forge client.0 frame.0 hash.0, hash.1)
event_at clients word_of.Bye words = do
  peer ← client_at clients words
  Ok (Bye peer.0, peer.1)

-- `seal P ORDERS`, `up K`, `down P C N`, `tick P`, `tick server`, `drop C`, `report P`, `forge C N
-- HASH` or `bye P`, and nothing else on the line.
unfoldable pub event_of : ℕ → List (List ℕ) → Result Event WordFault
event_of clients words = do
  word ← event_word_at words
  event ← event_at clients word.0 word.1
  at_end event.0 event.1
