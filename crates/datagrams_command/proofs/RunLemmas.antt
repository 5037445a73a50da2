-- A script that is run line by line has the text of its schedule.
use Rattle.std.proofs.Common.{◌≡◌, ℕ, ◌+◌, List, [], ◌∷◌, ◌++◌, Result, Ok, Err, refl, sym, ap}
use Rattle.std.proofs.Common.{◌∙◌, append_assoc, inl, inr}
use Rattle.base.specs.Steps.{◌>>=◌, IsFault}
use Rattle.datagram_schedule.specs.declared.event.Event.{Event}
use Rattle.datagram_schedule.specs.declared.outcome.Outcome.{Outcome}
use Rattle.datagram_schedule.specs.Exchange.{ExchangeState, nothing_exchanged, exchange_outcome}
use Rattle.datagram_schedule.specs.Exchange.{after_exchange}
use Rattle.datagram_schedule.specs.Schedule.{Schedule, nothing_scheduled, outcome_of, after_event}
use Rattle.datagram_schedule.specs.Schedule.{scheduled}
use Rattle.datagram_schedule.specs.Follows.{Follows}
use Rattle.datagram_schedule.proofs.NumberLemmas.{order_is}
use Rattle.datagram_schedule.proofs.SendingLemmas.{counts, follows_start}
use Rattle.datagram_schedule.proofs.FollowsLemmas.{follows_event, ready_is}
use Rattle.drill_words.specs.declared.drill_fault.DrillFault.{DrillFault}
use Rattle.drill_words.specs.declared.drill_fault.DrillFault.TheVariants.{NoMemory}
use Rattle.drill_words.specs.KeptLine.{KeptLine, kept_lines}
use Rattle.datagrams_command.specs.Script.{event_on, events_from, schedule_of}
use Rattle.datagrams_command.specs.Text.{outcome_line, event_lines}
use Rattle.datagrams_command.specs.Text.{closing_lines, schedule_text}
use Rattle.datagrams_command.specs.Run.{run_one, run_from, exchange_closing, closed}
use Rattle.datagrams_command.specs.Datagrams.{script_text}

-- ---- the loop

-- One line more.
pub run_more :
    (before : ℕ) (x after : ExchangeState) (text next : List ℕ) (line : KeptLine)
    (all lines : List KeptLine) → all ≡ line ∷ lines →
    run_one before x text line ≡ Ok (after, next) →
    run_from (before + 1) after next lines ≡ run_from before x text all
run_more before x after text next line all lines first one =
    sym (ap (run_from before x text) first
    ∙ ap (λ (run : Result (ExchangeState × List ℕ) DrillFault).
    run >>= λ ran. run_from (before + 1) ran.0 ran.1 lines) one)

-- A line with a fault.
pub run_fault :
    (before : ℕ) (x : ExchangeState) (text : List ℕ) (fault : DrillFault) (line : KeptLine)
    (all lines : List KeptLine) → all ≡ line ∷ lines → run_one before x text line ≡ Err fault →
    run_from before x text all ≡ Err fault
run_fault before x text fault line all lines first one =
    ap (run_from before x text) first
    ∙ ap (λ (run : Result (ExchangeState × List ℕ) DrillFault).
    run >>= λ ran. run_from (before + 1) ran.0 ran.1 lines) one

-- No line is left.
pub run_none :
    (before : ℕ) (x : ExchangeState) (text : List ℕ) (all : List KeptLine) → all ≡ [] →
    run_from before x text all ≡ Ok (x, text)
run_none before x text all none = ap (run_from before x text) none

-- ---- the text

-- What is printed of events after this text.
abbrev told :
    ℕ → Schedule → List ℕ → Result (List Event) DrillFault → Result (List ℕ) DrillFault
told before s text read =
    read >>= λ events. Ok (text ++ (event_lines before s events ++ closing_lines (scheduled events s)))

closing_is : (s : Schedule) (x : ExchangeState) → Follows s x → exchange_closing x ≡ closing_lines s
closing_is s x follows =
    rw (
      ready_is s x follows,
      (counts s x follows).0,
      order_is s.offered s.arrived x.receiver.next follows.order,
      follows.acknowledged,
    ) refl

told_more :
    (before : ℕ) (s : Schedule) (text : List ℕ) (event : Event) (outcome : Outcome)
    (read : Result (List Event) DrillFault) → outcome ≡ outcome_of s event →
    told (before + 1) (after_event s event) (text ++ outcome_line before outcome) read
    ≡ told before s text (read >>= λ events. Ok (event ∷ events))
told_more before s text event outcome (Ok events) same =
    let here = outcome_line before outcome in
    let later = event_lines (before + 1) (after_event s event) events in
    let last = closing_lines (scheduled events (after_event s event)) in
    ap Ok
    (append_assoc text here (later ++ last)
    ∙ ap (λ (rest : List ℕ). text ++ rest) (sym (append_assoc here later last))
    ∙ ap (λ (o : Outcome). text ++ ((outcome_line before o ++ later) ++ last)) same)
told_more before s text event outcome (Err fault) same = refl

run_step :
    (before : ℕ) (s : Schedule) (x : ExchangeState) (text : List ℕ) (line : KeptLine)
    (lines : List KeptLine) (read : Result Event DrillFault) → Follows s x →
    event_on before line ≡ read →
    ((t : Schedule) (y : ExchangeState) (next : List ℕ) → Follows t y →
    closed (run_from (before + 1) y next lines) ≡ told (before + 1) t next (events_from (before + 1) lines)) →
    closed (run_from before x text (line ∷ lines)) ≡ told before s text (events_from before (line ∷ lines))
unfolding run_one
run_step before s x text line lines (Ok event) follows is more =
    let step = follows_event s x event follows in
    rw is (more (after_event s event) (after_exchange x event)
    (text ++ outcome_line before (exchange_outcome x event)) step.after
    ∙ told_more before s text event (exchange_outcome x event) (events_from (before + 1) lines) step.same)
run_step before s x text line lines (Err fault) follows is more = rw is refl

run_is :
    (lines : List KeptLine) (before : ℕ) (s : Schedule) (x : ExchangeState) (text : List ℕ) →
    Follows s x →
    closed (run_from before x text lines) ≡ told before s text (events_from before lines)
run_is [] before s x text follows = ap (λ (last : List ℕ). Ok (text ++ last)) (closing_is s x follows)
run_is (line ∷ lines) before s x text follows =
    run_step before s x text line lines (event_on before line) follows refl (run_is lines (before + 1))

told_all : (read : Result (List Event) DrillFault) →
    told 0 nothing_scheduled [] read ≡ (read >>= λ events. Ok (schedule_text events))
told_all (Ok events) = refl
told_all (Err fault) = refl

-- From the first line on.
pub run_all :
    (bytes : List ℕ) →
    closed (run_from 0 nothing_exchanged [] (kept_lines bytes)) ≡ script_text bytes
run_all bytes =
    run_is (kept_lines bytes) 0 nothing_scheduled nothing_exchanged [] follows_start
    ∙ told_all (schedule_of bytes)

-- A run that came to its end has the text.
pub run_text :
    (bytes text all : List ℕ) (x : ExchangeState) →
    run_from 0 nothing_exchanged [] (kept_lines bytes) ≡ Ok (x, text) →
    all ≡ text ++ exchange_closing x → script_text bytes ≡ Ok all
run_text bytes text all x ran is = sym (run_all bytes) ∙ ap closed ran ∙ ap Ok (sym is)

-- A run that came to a fault has it.
pub run_failed :
    (bytes : List ℕ) (fault : DrillFault) →
    run_from 0 nothing_exchanged [] (kept_lines bytes) ≡ Err fault → script_text bytes ≡ Err fault
run_failed bytes fault ran = sym (run_all bytes) ∙ ap closed ran

-- ---- a run from what is nothing yet

start_is :
    (bytes text : List ℕ) (x : ExchangeState) (lines : List KeptLine) → x ≡ nothing_exchanged →
    text ≡ [] → lines ≡ kept_lines bytes →
    run_from 0 x text lines ≡ run_from 0 nothing_exchanged [] (kept_lines bytes)
start_is bytes text x lines none empty all = rw (none, empty, all) refl

-- It came to its end.
pub run_done :
    (bytes text : List ℕ) (x : ExchangeState) (lines : List KeptLine) (after : ExchangeState)
    (next all : List ℕ) → x ≡ nothing_exchanged → text ≡ [] → lines ≡ kept_lines bytes →
    run_from 0 x text lines ≡ Ok (after, next) → all ≡ next ++ exchange_closing after →
    script_text bytes ≡ Ok all
run_done bytes text x lines after next all none empty kept ran is =
    run_text bytes next all after (sym (start_is bytes text x lines none empty kept) ∙ ran) is

-- It came to a fault.
pub run_stopped :
    (bytes text : List ℕ) (x : ExchangeState) (lines : List KeptLine) (fault : DrillFault) →
    x ≡ nothing_exchanged → text ≡ [] → lines ≡ kept_lines bytes →
    IsFault NoMemory fault (run_from 0 x text lines) → IsFault NoMemory fault (script_text bytes)
run_stopped bytes text x lines fault none empty kept (inl memory) = inl memory
run_stopped bytes text x lines fault none empty kept (inr ran) =
    inr (run_failed bytes fault (sym (start_is bytes text x lines none empty kept) ∙ ran))
