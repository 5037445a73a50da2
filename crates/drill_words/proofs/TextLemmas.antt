-- The canonical text of a drill is read back as this drill.
use Rattle.std.proofs.Common.{◌≡◌, ℕ, ◌+◌, ◌<◌, ◌≤◌, ◌^◌, true, List, [], ◌∷◌, length, map}
use Rattle.std.proofs.Common.{cond, Ok, Err}
use Rattle.std.proofs.Common.{refl, ap, ap₂, ◌∙◌, arith}
use Rattle.std.specs.Prelude.{Result}
use Rattle.std.specs.List.{list_all}
use Rattle.std.proofs.lemmas.Bool.{and_parts, ne_eqb}
use Rattle.base.specs.Lines.{lines_of}
use Rattle.base.specs.Steps.{◌>>=◌}
use Rattle.game_orders.specs.declared.limits.TheConstants.{MAX_CLIENTS, MAX_LAG}
use Rattle.drill_words.specs.declared.limits.TheConstants.{MAX_EVENTS}
use Rattle.drill_words.specs.declared.match_line.MatchLine.{MatchLine}
use Rattle.drill_words.specs.declared.event.Event.{Event}
use Rattle.drill_words.specs.declared.drill_fault.DrillFault.{DrillFault}
use Rattle.drill_words.specs.declared.drill_fault.DrillFault.TheVariants.{TooManyEvents}
use Rattle.drill_words.specs.Words.{words_of}
use Rattle.drill_words.specs.KeptLine.{KeptLine, kept_from}
use Rattle.drill_words.specs.DrillFault.{on_line}
use Rattle.drill_words.specs.MatchLine.{match_line_of}
use Rattle.drill_words.specs.EventLine.{event_of}
use Rattle.drill_words.specs.Event.{event_fits, event_in_range}
use Rattle.drill_words.specs.Drill.{event_on, events_from, DrillPlain, IsDrill, drill_of, read_of}
use Rattle.drill_words.specs.Text.{event_words, event_line, match_line, match_words, text_of}
use Rattle.drill_words.specs.Text.{drill_text}
use Rattle.drill_words.proofs.SpacedLemmas.{words_of-spaced, kept_line, kept_spaced}
use Rattle.drill_words.proofs.EventLineLemmas.{event_back, event_words-are, event_words-kept}
use Rattle.drill_words.proofs.EventLineLemmas.{match_back, match_words-are}

-- The line of an event.
pub event_line-back :
    (clients : ℕ) (event : Event) → clients ≤ MAX_CLIENTS → event_fits clients event
    ≡ true → event_in_range event ≡ true →
    event_of clients (words_of (event_line event)) ≡ Ok event
event_line-back clients event few fits range =
    ap (event_of clients)
    (words_of-spaced (event_words event) (event_words-are clients event few fits range))
    ∙ event_back clients event few fits range

-- The first line of a match.
pub match_line-back :
    (clients lag seed : ℕ) → 1 ≤ clients → clients ≤ MAX_CLIENTS → 1 ≤ lag → lag ≤ MAX_LAG →
    seed < 2 ^ 32 →
    match_line_of (words_of (match_line clients lag seed))
    ≡ Ok (record { clients = clients; lag = lag; seed = seed })
match_line-back clients lag seed some few least most fits =
    ap match_line_of
    (words_of-spaced (match_words clients lag seed)
    (match_words-are clients lag seed few most fits))
    ∙ match_back clients lag seed some few least most fits

event_on-back :
    (clients before number : ℕ) (words : List (List ℕ)) (event : Event) → before < MAX_EVENTS →
    event_of clients words ≡ Ok event → event_on clients before (kept_line number words) ≡ Ok event
unfolding event_on
event_on-back clients before number words event room read =
    ap (λ b. cond b (Err (TooManyEvents number)) (on_line number (event_of clients words)))
    (ne_eqb before MAX_EVENTS (λ is. omega (arith, room, is)))
    ∙ ap (on_line number) read

abbrev with_events : Result (List Event) DrillFault → Result Event DrillFault →
    Result (List Event) DrillFault
with_events others read = read >>= λ event. others >>= λ events. Ok (event ∷ events)

events_back :
    (clients number before : ℕ) (events : List Event) → clients ≤ MAX_CLIENTS →
    before + length events ≤ MAX_EVENTS →
    list_all (event_fits clients) events ≡ true → list_all event_in_range events ≡ true →
    events_from clients before (kept_from number (lines_of (text_of (map event_line events))))
    ≡ Ok events
unfolding events_from
events_back clients number before [] few room fits range = refl
events_back clients number before (event ∷ events) few room fits range =
    let fit = and_parts (event_fits clients event) (list_all (event_fits clients) events) fits in
    let in_range = and_parts (event_in_range event) (list_all event_in_range events) range in
    ap (events_from clients before)
    (kept_spaced number (event_words event) (text_of (map event_line events))
    (event_words-are clients event few fit.0 in_range.0) (event_words-kept event))
    ∙ ap₂ with_events
    (events_back clients (number + 1) (before + 1) events few (omega (arith, room))
    fit.1 in_range.1)
    (event_on-back clients before number (event_words event) event (omega (arith, room))
    (event_back clients event few fit.0 in_range.0))

abbrev drill_from : MatchLine → Result (List Event) DrillFault → Result DrillPlain DrillFault
drill_from head read =
    read >>= λ events. Ok
    (record { clients = head.clients; lag = head.lag; seed = head.seed; events = events })

abbrev drill_after : List KeptLine → Result MatchLine DrillFault → Result DrillPlain DrillFault
drill_after lines read = read >>= λ head. drill_from head (events_from head.clients 0 lines)

-- The text of a drill.
pub drill_text-back : (drill : DrillPlain) → IsDrill drill → read_of (drill_text drill) ≡ Ok drill
unfolding read_of drill_of
drill_text-back drill is =
    let rest : List ℕ = text_of (map event_line drill.events) in
    ap drill_of
    (kept_spaced 1 (match_words drill.clients drill.lag drill.seed) rest
    (match_words-are drill.clients drill.lag drill.seed is.most_clients is.most_lag is.seed) refl)
    ∙ ap (λ r. drill_after (kept_from 2 (lines_of rest)) (on_line 1 r))
    (match_back drill.clients drill.lag drill.seed is.least_clients is.most_clients is.least_lag
    is.most_lag is.seed)
    ∙ ap (drill_from (record { clients = drill.clients; lag = drill.lag; seed = drill.seed }))
    (events_back drill.clients 2 0 drill.events is.most_clients (omega (arith, is.most_events))
    is.fit is.range)
