-- The events of several lines, read from the first.
use Rattle.std.proofs.Common.{◌≡◌, ℕ, ◌+◌, ◌≤◌, Bool, true, false, List, [], ◌∷◌, ◌++◌, length}
use Rattle.std.proofs.Common.{Result, Ok, Err, refl, ap, ap₂, sym, arith, ◌∙◌, append_assoc}
use Rattle.std.proofs.Common.{append-nil}
use Rattle.std.specs.Prelude.{◌&&◌}
use Rattle.std.specs.List.{list_all}
use Rattle.std.proofs.lemmas.List.{length_push}
use Rattle.base.specs.Steps.{◌>>=◌}
use Rattle.drill_words.specs.declared.event.Event.{Event}
use Rattle.drill_words.specs.declared.drill_fault.DrillFault.{DrillFault}
use Rattle.drill_words.specs.KeptLine.{KeptLine}
use Rattle.drill_words.specs.Drill.{event_on, events_from}

-- What is read after some events, with these before it.
abbrev pub after_events : List Event → Result (List Event) DrillFault → Result (List Event) DrillFault
after_events prefix read = read >>= λ events. Ok (prefix ++ events)

after_events-push :
    (prefix : List Event) (event : Event) (read : Result (List Event) DrillFault) →
    after_events prefix (read >>= λ events. Ok (event ∷ events)) ≡ after_events (prefix ++ event ∷ []) read
after_events-push prefix event (Ok events) = ap Ok (sym (append_assoc prefix (event ∷ []) events))
after_events-push prefix event (Err fault) = refl

-- One more event.
pub events_from-more :
    (clients : ℕ) (prefix : List Event) (event : Event) (line : KeptLine) (all lines : List KeptLine) →
    all ≡ line ∷ lines → event_on clients (length prefix) line ≡ Ok event →
    after_events (prefix ++ event ∷ []) (events_from clients (length (prefix ++ event ∷ [])) lines)
    ≡ after_events prefix (events_from clients (length prefix) all)
unfolding events_from
events_from-more clients prefix event line all lines first read =
    let rest = λ (n : ℕ). events_from clients n lines in
    sym (ap (λ ls. after_events prefix (events_from clients (length prefix) ls)) first
    ∙ ap (λ (r : Result Event DrillFault). after_events prefix (r >>= λ e. rest (length prefix + 1) >>= λ events. Ok (e ∷ events))) read
    ∙ after_events-push prefix event (rest (length prefix + 1))
    ∙ ap (λ n. after_events (prefix ++ event ∷ []) (rest n)) (sym (length_push prefix event)))

-- A line with a fault.
pub events_from-fault :
    (clients : ℕ) (prefix : List Event) (fault : DrillFault) (line : KeptLine) (all lines : List KeptLine) →
    all ≡ line ∷ lines → event_on clients (length prefix) line ≡ Err fault →
    after_events prefix (events_from clients (length prefix) all) ≡ Err fault
unfolding events_from
events_from-fault clients prefix fault line all lines first read =
    ap (λ ls. after_events prefix (events_from clients (length prefix) ls)) first
    ∙ ap (λ (r : Result Event DrillFault). after_events prefix (r >>= λ e. events_from clients (length prefix + 1) lines >>= λ events. Ok (e ∷ events))) read

-- No line is left.
pub events_from-none :
    (clients : ℕ) (prefix : List Event) (all : List KeptLine) → all ≡ [] →
    after_events prefix (events_from clients (length prefix) all) ≡ Ok prefix
unfolding events_from
events_from-none clients prefix all none =
    ap (λ ls. after_events prefix (events_from clients (length prefix) ls)) none ∙ ap Ok (append-nil prefix)

both_true : (a b : Bool) → (a && b) ≡ true → (a ≡ true) × (b ≡ true)
both_true true b both = (refl, both)
both_true false b both = absurd cc

-- There is room for one more where the list isn't full.
pub few_push : (prefix : List Event) (event : Event) (most : ℕ) → length prefix ≤ most → (length prefix ≡ most → ⊥) → length (prefix ++ event ∷ []) ≤ most
few_push prefix event most few room = omega (arith, few, room, length_push prefix event)

-- What passes, and one more that passes.
pub list_all_push :
    (test : Event → Bool) (prefix : List Event) (event : Event) → list_all test prefix ≡ true → test event ≡ true →
    list_all test (prefix ++ event ∷ []) ≡ true
list_all_push test [] event all here = ap (λ b. b && true) here
list_all_push test (first ∷ prefix) event all here =
    let parts : (test first ≡ true) × (list_all test prefix ≡ true) = both_true (test first) (list_all test prefix) all in
    ap₂ (λ a b. a && b) parts.0 (list_all_push test prefix event parts.1 here)

pub ruleset event_steps = (events_from-more, events_from-fault, events_from-none)
