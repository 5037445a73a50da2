-- Every event, and so every schedule: the exchange follows.
use Rattle.std.proofs.Common.{◌≡◌, ◌≢◌, ℕ, ◌+◌, ◌-◌, ◌<◌, ◌≤◌, Bool, true, false, cond, max, List, []}
use Rattle.std.proofs.Common.{◌∷◌, ◌++◌, length, take, drop, Option, Some, None, refl, sym, ap}
use Rattle.std.proofs.Common.{◌∙◌, ⊎_elim, arith, drop-drop, length-take-le, take-append-drop, le_refl, leb}
use Rattle.std.specs.Prelude.{◌==◌, slice_get}
use Rattle.std.proofs.lemmas.Bool.{cases_lt, cases_eq, cases_Bool, le-ltb, le-leb, lt-leb, eq-eqb, ne_eqb}
use Rattle.datagram_link.specs.declared.acked.Acked.TheVariants as acked
use Rattle.datagram_link.specs.declared.arrived.Arrived.{Arrived}
use Rattle.datagram_link.specs.declared.arrived.Arrived.TheVariants as answer
use Rattle.datagram_link.specs.declared.datagram.Datagram.{Datagram}
use Rattle.datagram_link.specs.declared.datagram.Datagram.TheVariants.{Data, Ack, Call, Here}
use Rattle.datagram_link.specs.Window.{run_of}
use Rattle.datagram_link.specs.Sender.{acked_answer, after_acked}
use Rattle.datagram_link.specs.Receiver.{ReceiverState, filled, arrival_answer, arrival_leaves}
use Rattle.datagram_link.specs.Receiver.{after_arrival}
use Rattle.datagram_schedule.specs.declared.event.Event.{Event}
use Rattle.datagram_schedule.specs.declared.event.Event.TheVariants.{Offer, Send, Acknowledge, Arrive}
use Rattle.datagram_schedule.specs.declared.outcome.Outcome.TheVariants as outcome
use Rattle.datagram_schedule.specs.Exchange.{ExchangeState, nothing_exchanged, exchanged}
use Rattle.datagram_schedule.specs.Exchange.{after_exchange, arrival_outcome}
use Rattle.datagram_schedule.specs.Exchange.{acked_outcome, arrive_outcome, after_arriving}
use Rattle.datagram_schedule.specs.Schedule.{Schedule, nothing_scheduled, has, in_order, delivered}
use Rattle.datagram_schedule.specs.Schedule.{with_arrived, number_outcome, gram_outcome, after_gram}
use Rattle.datagram_schedule.specs.Schedule.{after_event, scheduled}
use Rattle.datagram_schedule.specs.Follows.{Follows, IsSound}
use Rattle.datagram_schedule.proofs.NumberLemmas.{get_holds, all_weaker, order_within, order_is}
use Rattle.datagram_schedule.proofs.SendingLemmas.{FollowsOn, follows_start, follows_offer}
use Rattle.datagram_schedule.proofs.SendingLemmas.{follows_send, follows_acknowledge, counts}
use Rattle.datagram_schedule.proofs.ArrivalLemmas.{HasArrivals, Arrives, arrives_again, arrives_next}
use Rattle.datagram_schedule.proofs.ArrivalLemmas.{arrives_early}

-- ---- a payload arrives

-- What the receiver has.
receives :
    (s : Schedule) (x : ExchangeState) → Follows s x → HasArrivals s.offered s.arrived x.receiver
receives s x follows =
    let acked = follows.acked in
    let few = follows.few in
    record {
      order = follows.order;
      ready = follows.ready;
      window = follows.window;
      few = omega arith;
      most = follows.most;
    }

sound_later :
    (offered : List (List ℕ)) (next later : ℕ) → next ≤ later → (datagram : Datagram) →
    IsSound offered next datagram → IsSound offered later datagram
sound_later offered next later le (Data number payload) sound = sound
sound_later offered next later le (Ack count) sound = omega arith
sound_later offered next later le Call sound = sound
sound_later offered next later le (Here port) sound = sound

-- Another receiver, to which no less came into order.
with_receiver :
    (s : Schedule) (x : ExchangeState) (numbers : List ℕ) (r : ReceiverState) → Follows s x →
    HasArrivals s.offered numbers r → x.receiver.next ≤ r.next →
    Follows (record s { arrived = numbers }) (record x { receiver = r })
with_receiver s x numbers r follows holds later =
    let acked = follows.acked in
    record {
      air = follows.air;
      acknowledged = follows.acknowledged;
      waiting = follows.waiting;
      order = holds.order;
      ready = holds.ready;
      window = holds.window;
      acked = omega arith;
      few = follows.few;
      most = follows.most;
      grams =
          all_weaker (IsSound s.offered x.receiver.next) (IsSound s.offered r.next)
          (sound_later s.offered x.receiver.next r.next later) s.air follows.grams;
    }

-- What a payload in the air does when it arrives.
pub record NumberArrives (s : Schedule) (x : ExchangeState) (number : ℕ) (payload : List ℕ)
    : Type 0 where
  pub same :
      arrival_outcome number (arrival_answer x.receiver number payload) ≡ number_outcome s number
  pub after :
      Follows (with_arrived s number)
      (record x { receiver = after_arrival x.receiver number payload })
  pub near : arrival_answer x.receiver number payload ≢ answer.TooFar

number_on :
    (s : Schedule) (x : ExchangeState) (number : ℕ) (payload : List ℕ) (there : Bool)
    (arrived : Arrived) (numbers : List ℕ) → has s.arrived number ≡ there →
    Arrives s.offered s.arrived x.receiver number payload arrived numbers →
    arrival_outcome number arrived
    ≡ cond there (outcome.Repeat number)
    (cond (number == in_order s)
    (outcome.Delivered (in_order (with_arrived s number) - in_order s)) (outcome.Kept number)) →
    Follows (cond there s (record s { arrived = number ∷ s.arrived }))
    (record x { receiver = arrival_leaves arrived x.receiver number payload }) →
    (arrived ≢ answer.TooFar) →
    NumberArrives s x number payload
number_on s x number payload there arrived numbers has arrives same after near =
    record {
      same = ap (arrival_outcome number) arrives.answer_is ∙ same ∙ rw has refl;
      after = rw (arrives.answer_is, has) after;
      near = λ far. near (sym arrives.answer_is ∙ far);
    }

number_again :
    (s : Schedule) (x : ExchangeState) (number : ℕ) (payload : List ℕ) → Follows s x →
    slice_get s.offered number ≡ Some payload → has s.arrived number ≡ true →
    NumberArrives s x number payload
number_again s x number payload follows at there =
    number_on s x number payload true answer.Repeat s.arrived there
    (arrives_again s.offered s.arrived x.receiver (receives s x follows) number payload at there)
    refl follows (λ far. cc)

-- The schedule with this number more.
with_number :
    (s : Schedule) (number : ℕ) → has s.arrived number ≡ false →
    with_arrived s number ≡ record s { arrived = number ∷ s.arrived }
with_number s number none = rw none refl

number_next :
    (s : Schedule) (x : ExchangeState) (number : ℕ) (payload : List ℕ) → Follows s x →
    slice_get s.offered number ≡ Some payload → has s.arrived number ≡ false →
    number ≡ x.receiver.next → NumberArrives s x number payload
number_next s x number payload follows at none is =
    let r = x.receiver in
    let count = length (run_of (filled r number payload)) in
    let holds = receives s x follows in
    let arrives = arrives_next s.offered s.arrived r holds number payload at none is in
    let order : in_order s ≡ r.next = order_is s.offered s.arrived r.next follows.order in
    let then : in_order (with_arrived s number) ≡ r.next + count =
    ap in_order (with_number s number none)
    ∙ order_is s.offered (number ∷ s.arrived) (r.next + count) arrives.after.order in
    number_on s x number payload false (answer.Delivered count) (number ∷ s.arrived) none arrives
    (rw (eq-eqb number (in_order s) (is ∙ sym order)) (ap outcome.Delivered (omega arith)))
    (with_receiver s x (number ∷ s.arrived)
    (arrival_leaves (answer.Delivered count) r number payload) follows arrives.after (omega arith))
    (λ far. cc)

number_early :
    (s : Schedule) (x : ExchangeState) (number : ℕ) (payload : List ℕ) → Follows s x →
    slice_get s.offered number ≡ Some payload → has s.arrived number ≡ false →
    (number ≡ x.receiver.next → ⊥) → NumberArrives s x number payload
number_early s x number payload follows at none other =
    let r = x.receiver in
    let holds = receives s x follows in
    let arrives = arrives_early s.offered s.arrived r holds number payload at none other in
    let order : in_order s ≡ r.next = order_is s.offered s.arrived r.next follows.order in
    number_on s x number payload false answer.Kept (number ∷ s.arrived) none arrives
    (rw (ne_eqb number (in_order s) (λ same. other (same ∙ order))) refl)
    (with_receiver s x (number ∷ s.arrived) (arrival_leaves answer.Kept r number payload)
    follows arrives.after (le_refl r.next))
    (λ far. cc)

pub number_arrives :
    (s : Schedule) (x : ExchangeState) (number : ℕ) (payload : List ℕ) → Follows s x →
    slice_get s.offered number ≡ Some payload → NumberArrives s x number payload
number_arrives s x number payload follows at =
    ⊎_elim (λ (there : has s.arrived number ≡ true). number_again s x number payload follows at there)
    (λ (none : has s.arrived number ≡ false).
    ⊎_elim
    (λ (is : number ≡ x.receiver.next). number_next s x number payload follows at none is)
    (λ (other : number ≡ x.receiver.next → ⊥).
    number_early s x number payload follows at none other)
    (cases_eq number x.receiver.next))
    (cases_Bool (has s.arrived number))

-- ---- an acknowledgement arrives

pub record AckArrives (s : Schedule) (x : ExchangeState) (next : ℕ) : Type 0 where
  pub same :
      acked_outcome (acked_answer x.sender next)
      ≡ cond (leb next s.acked) outcome.Old (outcome.Freed (next - s.acked))
  pub after :
      Follows (record s { acked = max s.acked next })
      (record x { sender = after_acked x.sender next })
  pub sent : acked_answer x.sender next ≢ acked.Unsent

ack_old :
    (s : Schedule) (x : ExchangeState) (next : ℕ) → Follows s x → next ≤ x.receiver.next →
    next ≤ s.acked → AckArrives s x next
ack_old s x next follows below old =
    let acknowledged = follows.acknowledged in
    let both = counts s x follows in
    let first = both.0 in
    let within = order_within s.offered s.arrived x.receiver.next follows.order in
    let count = x.sender.acknowledged + length x.sender.waiting in
    let is : acked_answer x.sender next ≡ acked.Old =
    rw (le-ltb count next (omega arith), le-leb next x.sender.acknowledged (omega arith)) refl in
    let top : max s.acked next ≡ s.acked = omega arith in
    record {
      same = rw (is, le-leb next s.acked old) refl;
      after = rw (is, top) follows;
      sent = λ unsent. cc;
    }

ack_new :
    (s : Schedule) (x : ExchangeState) (next : ℕ) → Follows s x → next ≤ x.receiver.next →
    s.acked < next → AckArrives s x next
ack_new s x next follows below above =
    let acknowledged = follows.acknowledged in
    let both = counts s x follows in
    let first = both.0 in
    let within = order_within s.offered s.arrived x.receiver.next follows.order in
    let few = follows.few in
    let count = x.sender.acknowledged + length x.sender.waiting in
    let more = next - x.sender.acknowledged in
    let is : acked_answer x.sender next ≡ acked.Freed more =
    rw (le-ltb count next (omega arith), lt-leb next x.sender.acknowledged (omega arith)) refl in
    let top : max s.acked next ≡ next = omega arith in
    let same : more ≡ next - s.acked = omega arith in
    record {
      same = rw (is, lt-leb next s.acked above) (ap outcome.Freed same);
      after =
          rw (is, top) (record {
            air = follows.air;
            acknowledged = omega arith;
            waiting =
                ap (drop more) follows.waiting ∙ drop-drop more s.acked s.offered
                ∙ ap (λ n. drop n s.offered) (omega arith);
            order = follows.order;
            ready = follows.ready;
            window = follows.window;
            acked = below;
            few = omega arith;
            most = follows.most;
            grams = follows.grams;
          });
      sent = λ unsent. cc;
    }

pub ack_arrives :
    (s : Schedule) (x : ExchangeState) (next : ℕ) → Follows s x → next ≤ x.receiver.next →
    AckArrives s x next
ack_arrives s x next follows below =
    ⊎_elim (λ (above : s.acked < next). ack_new s x next follows below above)
    (λ (old : next ≤ s.acked). ack_old s x next follows below old)
    (cases_lt s.acked next)

-- ---- any event

-- What a datagram in the air, if there is one, does when it arrives.
pub record GramArrives (s : Schedule) (x : ExchangeState) (gram : Option Datagram) : Type 0 where
  pub same : arrive_outcome x gram ≡ gram_outcome s gram
  pub after : Follows (after_gram s gram) (after_arriving x gram)

gram_arrives :
    (s : Schedule) (x : ExchangeState) → Follows s x → (datagram : Datagram) →
    IsSound s.offered x.receiver.next datagram → GramArrives s x (Some datagram)
gram_arrives s x follows (Data number payload) sound =
    let arrives = number_arrives s x number payload follows sound in
    record { same = arrives.same; after = arrives.after }
gram_arrives s x follows (Ack next) sound =
    let arrives = ack_arrives s x next follows sound in
    record { same = arrives.same; after = arrives.after }
gram_arrives s x follows Call sound = absurd sound
gram_arrives s x follows (Here port) sound = absurd sound

arrive_by :
    (s : Schedule) (x : ExchangeState) (gram : ℕ) (found : Option Datagram) → Follows s x →
    slice_get s.air gram ≡ found → GramArrives s x found
arrive_by s x gram None follows is = record { same = refl; after = follows }
arrive_by s x gram (Some datagram) follows is =
    gram_arrives s x follows datagram
    (get_holds (IsSound s.offered x.receiver.next) s.air gram datagram follows.grams is)

follows_arrive :
    (s : Schedule) (x : ExchangeState) (gram : ℕ) → Follows s x → FollowsOn s x (Arrive gram)
follows_arrive s x gram follows =
    let arrives = arrive_by s x gram (slice_get s.air gram) follows refl in
    let at : slice_get x.air gram ≡ slice_get s.air gram = ap (λ air. slice_get air gram) follows.air in
    record {
      same = rw at arrives.same;
      after = rw at arrives.after;
    }

-- The exchange follows the schedule at every event.
pub follows_event :
    (s : Schedule) (x : ExchangeState) (event : Event) → Follows s x → FollowsOn s x event
follows_event s x (Offer payload) follows = follows_offer s x payload follows
follows_event s x (Send place) follows = follows_send s x place follows
follows_event s x Acknowledge follows = follows_acknowledge s x follows
follows_event s x (Arrive gram) follows = follows_arrive s x gram follows

-- So it does at every schedule.
pub follows_events :
    (events : List Event) (s : Schedule) (x : ExchangeState) → Follows s x →
    Follows (scheduled events s) (exchanged events x)
follows_events [] s x follows = follows
follows_events (event ∷ events) s x follows =
    follows_events events (after_event s event) (after_exchange x event)
    (follows_event s x event follows).after

-- From the first event on.
pub follows_all :
    (events : List Event) →
    Follows (scheduled events nothing_scheduled) (exchanged events nothing_exchanged)
follows_all events = follows_events events nothing_scheduled nothing_exchanged follows_start

-- ---- what this says of the receiver and the sender

pub ready_is :
    (s : Schedule) (x : ExchangeState) → Follows s x → x.receiver.ready ≡ delivered s
ready_is s x follows =
    follows.ready
    ∙ ap (λ n. take n s.offered) (sym (order_is s.offered s.arrived x.receiver.next follows.order))

pub ready_begins :
    (s : Schedule) (x : ExchangeState) → Follows s x →
    (rest : List (List ℕ)) × (x.receiver.ready ++ rest ≡ s.offered)
ready_begins s x follows = (
  drop x.receiver.next s.offered,
  ap (λ (ready : List (List ℕ)). ready ++ drop x.receiver.next s.offered) follows.ready
      ∙ take-append-drop x.receiver.next s.offered,
)

pub acknowledged_below :
    (s : Schedule) (x : ExchangeState) → Follows s x →
    x.sender.acknowledged ≤ length x.receiver.ready
acknowledged_below s x follows =
    let within = order_within s.offered s.arrived x.receiver.next follows.order in
    let long : length x.receiver.ready ≡ x.receiver.next =
    ap length follows.ready ∙ length-take-le x.receiver.next s.offered within in
    let acked = follows.acked in
    let acknowledged = follows.acknowledged in
    omega arith

pub never_far :
    (s : Schedule) (x : ExchangeState) → Follows s x → (gram number : ℕ) (payload : List ℕ) →
    slice_get x.air gram ≡ Some (Data number payload) →
    arrival_answer x.receiver number payload ≢ answer.TooFar
never_far s x follows gram number payload at =
    let sound =
    get_holds (IsSound s.offered x.receiver.next) s.air gram (Data number payload) follows.grams
    (ap (λ air. slice_get air gram) (sym follows.air) ∙ at) in
    (number_arrives s x number payload follows sound).near

pub never_unsent :
    (s : Schedule) (x : ExchangeState) → Follows s x → (gram next : ℕ) →
    slice_get x.air gram ≡ Some (Ack next) → acked_answer x.sender next ≢ acked.Unsent
never_unsent s x follows gram next at =
    let sound =
    get_holds (IsSound s.offered x.receiver.next) s.air gram (Ack next) follows.grams
    (ap (λ air. slice_get air gram) (sym follows.air) ∙ at) in
    (ack_arrives s x next follows sound).sent
