-- What is printed of a schedule: a line for each event, a line for each payload that was delivered,
-- and how many were offered, delivered and acknowledged.
use Rattle.std.specs.Prelude.{ℕ, ◌+◌, List, [], ◌∷◌, ◌++◌, length, codes}
use Rattle.std.specs.Fmt.{decimal}
use Rattle.datagram_schedule.specs.declared.event.Event.{Event}
use Rattle.datagram_schedule.specs.declared.outcome.Outcome.{Outcome}
use Rattle.datagram_schedule.specs.declared.outcome.Outcome.TheVariants.{Offered, WindowFull, Sent}
use Rattle.datagram_schedule.specs.declared.outcome.Outcome.TheVariants.{NoneDue, Acknowledged}
use Rattle.datagram_schedule.specs.declared.outcome.Outcome.TheVariants.{Delivered, Kept, Repeat}
use Rattle.datagram_schedule.specs.declared.outcome.Outcome.TheVariants.{Freed, Old, NoDatagram}
use Rattle.datagram_schedule.specs.Schedule.{Schedule, nothing_scheduled, in_order, delivered}
use Rattle.datagram_schedule.specs.Schedule.{outcome_of, after_event, scheduled}

abbrev pub outcome_text : Outcome → List ℕ
outcome_text (Offered number) = codes "offered " ++ decimal number
outcome_text WindowFull = codes "window full"
outcome_text (Sent gram) = codes "sent " ++ decimal gram
outcome_text NoneDue = codes "none due"
outcome_text (Acknowledged gram next) =
    codes "ack " ++ decimal gram ++ codes " next " ++ decimal next
outcome_text (Delivered count) = codes "delivered " ++ decimal count
outcome_text (Kept number) = codes "kept " ++ decimal number
outcome_text (Repeat number) = codes "repeat " ++ decimal number
outcome_text (Freed count) = codes "freed " ++ decimal count
outcome_text Old = codes "old"
outcome_text NoDatagram = codes "no datagram"

-- The line of the event of this number.
unfoldable pub outcome_line : ℕ → Outcome → List ℕ
outcome_line number outcome = decimal number ++ codes " " ++ outcome_text outcome ++ codes "\n"

-- The lines of events, of which the first has this number.
abbrev pub event_lines : ℕ → Schedule → List Event → List ℕ
event_lines number s [] = []
event_lines number s (event ∷ events) =
    outcome_line number (outcome_of s event)
    ++ event_lines (number + 1) (after_event s event) events

-- The line of a payload that was delivered.
unfoldable pub got_line : List ℕ → List ℕ
got_line payload = codes "got " ++ payload ++ codes "\n"

abbrev pub got_lines : List (List ℕ) → List ℕ
got_lines [] = []
got_lines (payload ∷ payloads) = got_line payload ++ got_lines payloads

-- The last lines: how many payloads were offered, delivered and acknowledged.
unfoldable pub last_lines : (offered delivered acked : ℕ) → List ℕ
last_lines offered delivered acked =
    codes "offered " ++ decimal offered ++ codes " delivered " ++ decimal delivered
    ++ codes " acked " ++ decimal acked ++ codes "\nend\n"

-- The lines after those of the events.
abbrev pub closing_lines : Schedule → List ℕ
closing_lines s =
    got_lines (delivered s) ++ last_lines (length s.offered) (in_order s) s.acked

-- What is printed of a schedule.
abbrev pub schedule_text : List Event → List ℕ
schedule_text events =
    event_lines 0 nothing_scheduled events ++ closing_lines (scheduled events nothing_scheduled)
