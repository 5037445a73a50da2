-- Offers, and what is put into the air: the exchange still follows the schedule.
use Rattle.std.proofs.Common.{◌≡◌, ℕ, ◌+◌, ◌-◌, ◌<◌, ◌≤◌, Bool, true, false, cond, ◌&&◌, List, []}
use Rattle.std.proofs.Common.{◌∷◌, ◌++◌, length, Option, Some, None, refl, sym, ap}
use Rattle.std.proofs.Common.{◌∙◌, ◌⊎◌, ⊎_elim, inl, inr, arith, eqb, ltb, length-drop, append-nil, le_refl}
use Rattle.std.specs.Prelude.{slice_get, slice_index_or}
use Rattle.std.specs.Option.{option_map}
use Rattle.std.proofs.lemmas.Bool.{cases_lt, cases_eq, eq-eqb, ne_eqb, lt-ltb, le-ltb}
use Rattle.std.proofs.lemmas.List.{drop-append-le, take-append-le, length_push, length-replicate}
use Rattle.std.proofs.lemmas.Option.{slice_get-get_or, slice_get_past}
use Rattle.datagram_link.specs.declared.limits.TheConstants.{WINDOW, MAX_PAYLOADS}
use Rattle.datagram_link.specs.declared.offered.Offered.{Offered as OfferAnswer}
use Rattle.datagram_link.specs.declared.offered.Offered.TheVariants as answer
use Rattle.datagram_link.specs.declared.datagram.Datagram.{Datagram}
use Rattle.datagram_link.specs.declared.datagram.Datagram.TheVariants.{Data, Ack, Call, Here}
use Rattle.datagram_link.specs.Sender.{SenderState, offer_answer, offer_leaves, due_of}
use Rattle.datagram_link.proofs.WindowLemmas.{get_empty}
use Rattle.datagram_schedule.specs.declared.event.Event.{Event}
use Rattle.datagram_schedule.specs.declared.event.Event.TheVariants.{Offer, Send, Acknowledge}
use Rattle.datagram_schedule.specs.declared.outcome.Outcome.TheVariants as outcome
use Rattle.datagram_schedule.specs.Exchange.{ExchangeState, nothing_exchanged, offer_outcome}
use Rattle.datagram_schedule.specs.Exchange.{exchange_outcome, after_exchange, send_outcome, sent_by}
use Rattle.datagram_schedule.specs.Schedule.{Schedule, nothing_scheduled, has, has_room, is_due}
use Rattle.datagram_schedule.specs.Schedule.{outcome_of, after_event, payload_of, in_order}
use Rattle.datagram_schedule.specs.Follows.{Follows, IsSound}
use Rattle.datagram_schedule.proofs.NumberLemmas.{get_kept, get_drop, all_weaker, all_push}
use Rattle.datagram_schedule.proofs.NumberLemmas.{order_within, order_is, place_offered}

-- Outcome and state after an event follow the schedule.
pub record FollowsOn (s : Schedule) (x : ExchangeState) (event : Event) : Type 0 where
  pub same : exchange_outcome x event ≡ outcome_of s event
  pub after : Follows (after_event s event) (after_exchange x event)

-- Before the first event.
pub follows_start : Follows nothing_scheduled nothing_exchanged
follows_start =
    record {
      air = refl;
      acknowledged = refl;
      waiting = refl;
      order = record {
        gapless = λ number below. absurd (omega arith);
        gap = refl;
        known = λ number there. absurd cc;
      };
      ready = refl;
      window = record {
        places = length-replicate {A = Option (List ℕ)} WINDOW None;
        each = λ i within. get_empty {A = List ℕ} WINDOW i;
      };
      acked = omega arith;
      few = omega arith;
      most = omega arith;
      grams = tt;
    }

-- ---- a payload is offered

-- The sender's answer, by the numbers of the schedule.
abbrev OfferIs : SenderState → Schedule → Type 0
OfferIs sender s =
    ((offer_answer sender ≡ answer.Taken (length s.offered)) × (has_room s ≡ true)
    × (length s.offered < s.acked + WINDOW) × (length s.offered < MAX_PAYLOADS))
    ⊎ (((offer_answer sender ≡ answer.WindowFull) ⊎ (offer_answer sender ≡ answer.Spent))
    × (has_room s ≡ false))

answer_spent :
    (count waiting : ℕ) → count ≡ MAX_PAYLOADS →
    cond (eqb count MAX_PAYLOADS) answer.Spent
    (cond (eqb waiting WINDOW) answer.WindowFull (answer.Taken count)) ≡ answer.Spent
answer_spent count waiting spent = rw (eq-eqb count MAX_PAYLOADS spent) refl

answer_full :
    (count waiting : ℕ) → (count ≡ MAX_PAYLOADS → ⊥) → waiting ≡ WINDOW →
    cond (eqb count MAX_PAYLOADS) answer.Spent
    (cond (eqb waiting WINDOW) answer.WindowFull (answer.Taken count)) ≡ answer.WindowFull
answer_full count waiting more full =
    rw (ne_eqb count MAX_PAYLOADS more, eq-eqb waiting WINDOW full) refl

answer_taken :
    (count waiting : ℕ) → (count ≡ MAX_PAYLOADS → ⊥) → (waiting ≡ WINDOW → ⊥) →
    cond (eqb count MAX_PAYLOADS) answer.Spent
    (cond (eqb waiting WINDOW) answer.WindowFull (answer.Taken count)) ≡ answer.Taken count
answer_taken count waiting more room =
    rw (ne_eqb count MAX_PAYLOADS more, ne_eqb waiting WINDOW room) refl

room_there :
    (offered acked : ℕ) → offered < acked + WINDOW → offered < MAX_PAYLOADS →
    (ltb offered (acked + WINDOW) && ltb offered MAX_PAYLOADS) ≡ true
room_there offered acked near some =
    rw (lt-ltb offered (acked + WINDOW) near, lt-ltb offered MAX_PAYLOADS some) refl

room_full :
    (offered acked : ℕ) → acked + WINDOW ≤ offered →
    (ltb offered (acked + WINDOW) && ltb offered MAX_PAYLOADS) ≡ false
room_full offered acked full = rw (le-ltb offered (acked + WINDOW) full) refl

and_false : (b : Bool) → (b && false) ≡ false
and_false true = refl
and_false false = refl

room_spent :
    (offered acked : ℕ) → MAX_PAYLOADS ≤ offered →
    (ltb offered (acked + WINDOW) && ltb offered MAX_PAYLOADS) ≡ false
room_spent offered acked spent =
    ap (λ b. ltb offered (acked + WINDOW) && b) (le-ltb offered MAX_PAYLOADS spent)
    ∙ and_false (ltb offered (acked + WINDOW))

-- What is offered is what was acknowledged and what waits.
pub counts :
    (s : Schedule) (x : ExchangeState) → Follows s x →
    (x.sender.acknowledged + length x.sender.waiting ≡ length s.offered)
    × (length x.sender.waiting + s.acked ≡ length s.offered)
counts s x follows =
    let within = order_within s.offered s.arrived x.receiver.next follows.order in
    let waiting : length x.sender.waiting ≡ length s.offered - s.acked =
    ap length follows.waiting ∙ length-drop s.acked s.offered in
    let known = follows.acked in
    let acknowledged = follows.acknowledged in
    (omega arith, omega arith)

offer_is :
    (s : Schedule) (x : ExchangeState) → Follows s x → OfferIs x.sender s
offer_is s x follows =
    let count = x.sender.acknowledged + length x.sender.waiting in
    let waiting = length x.sender.waiting in
    let both = counts s x follows in
    let first : count ≡ length s.offered = both.0 in
    let second : waiting + s.acked ≡ length s.offered = both.1 in
    let few = follows.few in
    let most = follows.most in
    ⊎_elim
    (λ (spent : count ≡ MAX_PAYLOADS).
    inr (inr (answer_spent count waiting spent), room_spent (length s.offered) s.acked (omega arith)))
    (λ (more : count ≡ MAX_PAYLOADS → ⊥).
    ⊎_elim
    (λ (full : waiting ≡ WINDOW).
    inr (inl (answer_full count waiting more full), room_full (length s.offered) s.acked (omega arith)))
    (λ (room : waiting ≡ WINDOW → ⊥).
    inl (
      answer_taken count waiting more room ∙ ap answer.Taken first,
      room_there (length s.offered) s.acked (omega arith) (omega arith),
      omega arith,
      omega arith,
    ))
    (cases_eq waiting WINDOW))
    (cases_eq count MAX_PAYLOADS)

sound_offered :
    (offered : List (List ℕ)) (payload : List ℕ) (next : ℕ) (datagram : Datagram) →
    IsSound offered next datagram → IsSound (offered ++ payload ∷ []) next datagram
sound_offered offered payload next (Data number other) sound =
    get_kept offered (payload ∷ []) number other sound
sound_offered offered payload next (Ack count) sound = sound
sound_offered offered payload next Call sound = sound
sound_offered offered payload next (Here port) sound = sound

-- The payload is taken.
offer_taken :
    (s : Schedule) (x : ExchangeState) (payload : List ℕ) → Follows s x →
    length s.offered < s.acked + WINDOW → length s.offered < MAX_PAYLOADS →
    Follows (record s { offered = s.offered ++ payload ∷ [] })
    (record x { sender = record x.sender { waiting = x.sender.waiting ++ payload ∷ [] } })
offer_taken s x payload follows near some =
    let next = x.receiver.next in
    let within = order_within s.offered s.arrived next follows.order in
    let known = follows.acked in
    let len = length_push s.offered payload in
    record {
      air = follows.air;
      acknowledged = follows.acknowledged;
      waiting =
          ap (λ waiting. waiting ++ payload ∷ []) follows.waiting
          ∙ sym (drop-append-le s.acked s.offered (payload ∷ []) (omega arith));
      order = record {
        gapless = follows.order.gapless;
        gap = follows.order.gap;
        known = λ number there. omega (arith, follows.order.known number there);
      };
      ready = follows.ready ∙ sym (take-append-le next s.offered (payload ∷ []) within);
      window = record {
        places = follows.window.places;
        each = λ i near.
            follows.window.each i near
            ∙ sym (place_offered s.offered s.arrived payload (next + i) (follows.order.known (next + i)));
      };
      acked = follows.acked;
      few = omega arith;
      most = omega arith;
      grams =
          all_weaker (IsSound s.offered next) (IsSound (s.offered ++ payload ∷ []) next)
          (sound_offered s.offered payload next) s.air follows.grams;
    }

-- What an offer does, by the sender's answer and whether there is room.
offer_on :
    (s : Schedule) (x : ExchangeState) (payload : List ℕ) (answer : OfferAnswer) (room : Bool) →
    offer_answer x.sender ≡ answer → has_room s ≡ room →
    offer_outcome answer ≡ cond room (outcome.Offered (length s.offered)) outcome.WindowFull →
    Follows (cond room (record s { offered = s.offered ++ payload ∷ [] }) s)
    (record x { sender = offer_leaves answer x.sender payload }) →
    FollowsOn s x (Offer payload)
offer_on s x payload answer room is has same after =
    record {
      same = rw (is, has) same;
      after = rw (is, has) after;
    }

offer_by :
    (s : Schedule) (x : ExchangeState) (payload : List ℕ) → Follows s x → OfferIs x.sender s →
    FollowsOn s x (Offer payload)
offer_by s x payload follows (inl taken) =
    offer_on s x payload (answer.Taken (length s.offered)) true taken.0 taken.1 refl
    (offer_taken s x payload follows taken.2 taken.3)
offer_by s x payload follows (inr (inl full, none)) =
    offer_on s x payload answer.WindowFull false full none refl follows
offer_by s x payload follows (inr (inr spent, none)) =
    offer_on s x payload answer.Spent false spent none refl follows

pub follows_offer :
    (s : Schedule) (x : ExchangeState) (payload : List ℕ) → Follows s x →
    FollowsOn s x (Offer payload)
follows_offer s x payload follows =
    offer_by s x payload follows (offer_is s x follows)

-- ---- a payload is put into the air

-- The same with a datagram more in the air.
air_more :
    (s : Schedule) (x : ExchangeState) (datagram : Datagram) → Follows s x →
    IsSound s.offered x.receiver.next datagram →
    Follows (record s { air = s.air ++ datagram ∷ [] }) (record x { air = x.air ++ datagram ∷ [] })
air_more s x datagram follows sound =
    record {
      air = ap (λ air. air ++ datagram ∷ []) follows.air;
      acknowledged = follows.acknowledged;
      waiting = follows.waiting;
      order = follows.order;
      ready = follows.ready;
      window = follows.window;
      acked = follows.acked;
      few = follows.few;
      most = follows.most;
      grams = all_push (IsSound s.offered x.receiver.next) s.air datagram follows.grams sound;
    }

-- The same with nothing more in the air.
air_same :
    (s : Schedule) (x : ExchangeState) → Follows s x → Follows s (record x { air = x.air ++ [] })
air_same s x follows =
    record {
      air = append-nil x.air ∙ follows.air;
      acknowledged = follows.acknowledged;
      waiting = follows.waiting;
      order = follows.order;
      ready = follows.ready;
      window = follows.window;
      acked = follows.acked;
      few = follows.few;
      most = follows.most;
      grams = follows.grams;
    }

-- What a send does, by what is due and whether there is such a place.
send_on :
    (s : Schedule) (x : ExchangeState) (place : ℕ) (due : Option (ℕ × List ℕ)) (there : Bool) →
    due_of x.sender place ≡ due → is_due s place ≡ there →
    send_outcome (length x.air) due
    ≡ cond there (outcome.Sent (length s.air)) outcome.NoneDue →
    Follows
    (cond there
    (record s { air = s.air ++ Data (s.acked + place) (payload_of s (s.acked + place)) ∷ [] }) s)
    (record x { air = x.air ++ sent_by due }) →
    FollowsOn s x (Send place)
send_on s x place due there is has same after =
    record {
      same = rw (is, has) same;
      after = rw (is, has) after;
    }

-- What stands at a place among those that wait.
due_is :
    (s : Schedule) (x : ExchangeState) (place : ℕ) → Follows s x →
    due_of x.sender place
    ≡ option_map (λ payload. (s.acked + place, payload)) (slice_get s.offered (s.acked + place))
due_is s x place follows =
    let at : slice_get x.sender.waiting place ≡ slice_get s.offered (s.acked + place) =
    ap (λ waiting. slice_get waiting place) follows.waiting ∙ get_drop s.acked place s.offered in
    ap (λ number. option_map (λ (payload : List ℕ). (number + place, payload)) (slice_get x.sender.waiting place))
    follows.acknowledged
    ∙ ap (option_map (λ (payload : List ℕ). (s.acked + place, payload))) at

pub follows_send :
    (s : Schedule) (x : ExchangeState) (place : ℕ) → Follows s x → FollowsOn s x (Send place)
follows_send s x place follows =
    let number = s.acked + place in
    let payload = slice_index_or s.offered number [] in
    ⊎_elim
    (λ (below : number < length s.offered).
    let at : slice_get s.offered number ≡ Some payload = slice_get-get_or s.offered number [] below in
    send_on s x place (Some (number, payload)) true
    (due_is s x place follows
    ∙ ap (option_map (λ (payload : List ℕ). (number, payload))) at)
    (lt-ltb number (length s.offered) below)
    (ap (λ (air : List Datagram). outcome.Sent (length air)) follows.air)
    (air_more s x (Data number payload) follows at))
    (λ (above : length s.offered ≤ number).
    send_on s x place None false
    (due_is s x place follows
    ∙ ap (option_map (λ (payload : List ℕ). (number, payload))) (slice_get_past s.offered number above))
    (le-ltb number (length s.offered) above)
    refl
    (air_same s x follows))
    (cases_lt number (length s.offered))

-- ---- an acknowledgement is put into the air

pub follows_acknowledge :
    (s : Schedule) (x : ExchangeState) → Follows s x → FollowsOn s x Acknowledge
follows_acknowledge s x follows =
    let next = x.receiver.next in
    let order : in_order s ≡ next = order_is s.offered s.arrived next follows.order in
    record {
      same =
          ap (λ (air : List Datagram). outcome.Acknowledged (length air) next) follows.air
          ∙ ap (outcome.Acknowledged (length s.air)) (sym order);
      after = rw order (air_more s x (Ack next) follows (le_refl next));
    }
