-- An exchange: a sender and a receiver, and the datagrams between them. It does what each event says
-- by the calls of both.
use Rattle.std.specs.Prelude.{ℕ, List, [], ◌∷◌, ◌++◌, length, slice_get, Option, None, Some}
use Rattle.datagram_link.specs.declared.datagram.Datagram.{Datagram}
use Rattle.datagram_link.specs.declared.datagram.Datagram.TheVariants.{Data, Ack, Call, Here}
use Rattle.datagram_link.specs.declared.offered.Offered.{Offered as OfferAnswer}
use Rattle.datagram_link.specs.declared.offered.Offered.TheVariants.{Taken, WindowFull, Spent}
use Rattle.datagram_link.specs.declared.arrived.Arrived.{Arrived}
use Rattle.datagram_link.specs.declared.arrived.Arrived.TheVariants as arrived
use Rattle.datagram_link.specs.declared.acked.Acked.{Acked}
use Rattle.datagram_link.specs.declared.acked.Acked.TheVariants as acked
use Rattle.datagram_link.specs.Grams.{IsPayload}
use Rattle.datagram_link.specs.Sender.{SenderState, nothing_offered, offer_answer, after_offer}
use Rattle.datagram_link.specs.Sender.{due_of, acked_answer, after_acked}
use Rattle.datagram_link.specs.Receiver.{ReceiverState, nothing_arrived, arrival_answer}
use Rattle.datagram_link.specs.Receiver.{after_arrival}
use Rattle.datagram_schedule.specs.declared.event.Event.{Event}
use Rattle.datagram_schedule.specs.declared.event.Event.TheVariants.{Offer, Send, Acknowledge, Arrive}
use Rattle.datagram_schedule.specs.declared.outcome.Outcome.{Outcome}
use Rattle.datagram_schedule.specs.declared.outcome.Outcome.TheVariants as outcome

-- Both halves, and the datagrams that were put into the air, in order.
pub record ExchangeState : Type 0 where
  pub sender : SenderState
  pub receiver : ReceiverState
  pub air : List Datagram

-- Before the first event.
abbrev pub nothing_exchanged : ExchangeState
nothing_exchanged =
    record { sender = nothing_offered; receiver = nothing_arrived; air = [] }

-- The payload of an event, if it has one, has a length that a payload may have.
abbrev pub FitsEvent : Event → Type 0
FitsEvent (Offer payload) = IsPayload payload
FitsEvent (Send place) = Unit {0}
FitsEvent Acknowledge = Unit {0}
FitsEvent (Arrive gram) = Unit {0}

-- The outcomes of the calls. The two last of each never come: see the laws of schedules.
abbrev pub offer_outcome : OfferAnswer → Outcome
offer_outcome (Taken number) = outcome.Offered number
offer_outcome WindowFull = outcome.WindowFull
offer_outcome Spent = outcome.WindowFull

abbrev pub arrival_outcome : ℕ → Arrived → Outcome
arrival_outcome number (arrived.Delivered count) = outcome.Delivered count
arrival_outcome number arrived.Kept = outcome.Kept number
arrival_outcome number arrived.Repeat = outcome.Repeat number
arrival_outcome number arrived.TooFar = outcome.Kept number

abbrev pub acked_outcome : Acked → Outcome
acked_outcome (acked.Freed count) = outcome.Freed count
acked_outcome acked.Old = outcome.Old
acked_outcome acked.Unsent = outcome.Old

abbrev pub send_outcome : ℕ → Option (ℕ × List ℕ) → Outcome
send_outcome gram None = outcome.NoneDue
send_outcome gram (Some due) = outcome.Sent gram

-- The datagrams that are sent.
abbrev pub sent_by : Option (ℕ × List ℕ) → List Datagram
sent_by None = []
sent_by (Some due) = Data due.0 due.1 ∷ []

-- The outcome of a datagram that comes to its half, and what it leaves of both.
abbrev pub come_outcome : SenderState → ReceiverState → Datagram → Outcome
come_outcome sender receiver (Data number payload) =
    arrival_outcome number (arrival_answer receiver number payload)
come_outcome sender receiver (Ack next) = acked_outcome (acked_answer sender next)
come_outcome sender receiver Call = outcome.NoDatagram
come_outcome sender receiver (Here port) = outcome.NoDatagram

abbrev pub sender_after : SenderState → Datagram → SenderState
sender_after sender (Data number payload) = sender
sender_after sender (Ack next) = after_acked sender next
sender_after sender Call = sender
sender_after sender (Here port) = sender

abbrev pub receiver_after : ReceiverState → Datagram → ReceiverState
receiver_after receiver (Data number payload) = after_arrival receiver number payload
receiver_after receiver (Ack next) = receiver
receiver_after receiver Call = receiver
receiver_after receiver (Here port) = receiver

-- The same of a datagram in the air, if there is one with this number.
abbrev pub arrive_outcome : ExchangeState → Option Datagram → Outcome
arrive_outcome x None = outcome.NoDatagram
arrive_outcome x (Some datagram) = come_outcome x.sender x.receiver datagram

abbrev pub after_arriving : ExchangeState → Option Datagram → ExchangeState
after_arriving x None = x
after_arriving x (Some datagram) =
    record {
      sender = sender_after x.sender datagram;
      receiver = receiver_after x.receiver datagram;
      air = x.air;
    }

-- The outcome of an event at an exchange, and what it leaves.
abbrev pub exchange_outcome : ExchangeState → Event → Outcome
exchange_outcome x (Offer payload) = offer_outcome (offer_answer x.sender)
exchange_outcome x (Send place) = send_outcome (length x.air) (due_of x.sender place)
exchange_outcome x Acknowledge = outcome.Acknowledged (length x.air) x.receiver.next
exchange_outcome x (Arrive gram) = arrive_outcome x (slice_get x.air gram)

abbrev pub after_exchange : ExchangeState → Event → ExchangeState
after_exchange x (Offer payload) = record x { sender = after_offer x.sender payload }
after_exchange x (Send place) = record x { air = x.air ++ sent_by (due_of x.sender place) }
after_exchange x Acknowledge = record x { air = x.air ++ Ack x.receiver.next ∷ [] }
after_exchange x (Arrive gram) = after_arriving x (slice_get x.air gram)

-- What a schedule leaves of an exchange.
abbrev pub exchanged : List Event → ExchangeState → ExchangeState
exchanged [] x = x
exchanged (event ∷ events) x = exchanged events (after_exchange x event)
