-- A turn of an end: it receives once, takes what came, and sends.
use Rattle.std.specs.Prelude.{◌≡◌, ℕ, ◌⊎◌, List, [], ◌∷◌, Option, Some, None}
use Rattle.std.specs.Prelude.{Result, Ok, Err}
use Rattle.std.specs.Option.{option_map}
use Rattle.base.specs.Cause.{Increased}
use Rattle.datagram_link.specs.declared.datagram.Datagram.{Datagram}
use Rattle.datagram_link.specs.declared.datagram.Datagram.TheVariants.{Data, Ack, Call, Here}
use Rattle.datagram_link.specs.declared.gram_fault.GramFault.{GramFault}
use Rattle.datagram_link.specs.declared.turn.Turn.{Turn}
use Rattle.datagram_link.specs.declared.turn.Turn.TheVariants as turn
use Rattle.datagram_link.specs.declared.turn_fault.TurnFault.{TurnFault}
use Rattle.datagram_link.specs.declared.turn_fault.TurnFault.TheVariants.{Failed, NoMemory}
use Rattle.datagram_link.specs.declared.end.End.{End}
use Rattle.datagram_link.specs.Grams.{ack_bytes, data_grams}
use Rattle.datagram_link.specs.Reading.{gram_of}
use Rattle.datagram_link.specs.Sender.{after_acked}
use Rattle.datagram_link.specs.Receiver.{after_arrival}
use Rattle.datagram_link.specs.PostState.{PostState, IsGot, SentPrefix}
use Rattle.datagram_link.specs.PostState.{without_first, with_sent}

-- What a turn answers, the end after it, and what it sends.
pub record Turned : Type 0 where
  pub turn : Turn
  pub end : End
  pub sends : List (List ℕ)

-- The end after a datagram that was taken.
abbrev pub end_after : End → Datagram → End
end_after end (Data number payload) =
    record end { receiver = after_arrival end.receiver number payload }
end_after end (Ack next) = record end { sender = after_acked end.sender next }
end_after end Call = end
end_after end (Here port) = end

-- What is sent after a datagram that was taken, by an end that is so after it: an Ack after a Data.
abbrev pub replies_to : End → Datagram → List (List ℕ)
replies_to end (Data number payload) = ack_bytes end.receiver.next ∷ []
replies_to end (Ack next) = []
replies_to end Call = []
replies_to end (Here port) = []

-- A turn in which a datagram came, or bytes that are none.
abbrev pub turned_by : End → Result Datagram GramFault → Turned
turned_by end (Ok datagram) =
    record {
      turn = turn.Took;
      end = end_after end datagram;
      sends = replies_to (end_after end datagram) datagram;
    }
turned_by end (Err fault) = record { turn = turn.Refused fault; end = end; sends = [] }

-- A turn in which these bytes came, or none: then each unacknowledged payload is sent, in order.
abbrev pub turned : End → Option (List ℕ) → Turned
turned end None =
    record {
      turn = turn.Quiet;
      end = end;
      sends = data_grams end.sender.acknowledged end.sender.waiting;
    }
turned end (Some gram) = turned_by end (gram_of gram)

-- The post after a receive that took the first waiting datagram away.
abbrev pub received : PostState → PostState
received post = record post { held = option_map without_first post.held }

-- A turn that does this went on so after its receive. After a send that failed the end is as after
-- the whole turn, and without memory as before it; a prefix of what the turn sends was sent.
abbrev pub Does :
    Turned → (old new : End) → (post after : PostState) → Result Turn TurnFault → Type 0
Does t old new post after (Ok turn) =
    (turn ≡ t.turn) × (new ≡ t.end) × (after.held ≡ option_map (with_sent t.sends) post.held)
Does t old new post after (Err Failed) =
    Increased post.faults after.faults
    × (new ≡ t.end)
    × SentPrefix post.held after.held t.sends
Does t old new post after (Err NoMemory) =
    (new ≡ old) × SentPrefix post.held after.held t.sends

-- The receive failed, and nothing has changed.
pub record ReceiveFailed
    (old new : End) (post after : PostState) (result : Result Turn TurnFault) : Type 0 where
  pub answer : result ≡ Err Failed
  pub rose : Increased post.faults after.faults
  pub end_is : new ≡ old
  pub held_is : after.held ≡ post.held

-- What a turn did: the receive failed, or these bytes came, or none, and the turn went on by them.
abbrev pub Turns :
    (old new : End) → (post after : PostState) → Result Turn TurnFault → Type 0
Turns old new post after result =
    ReceiveFailed old new post after result
    ⊎ ((got : Option (List ℕ)) × IsGot post got
    × Does (turned old got) old new (received post) after result)

-- Datagrams were sent, all or a prefix of them.
abbrev pub SendsAll :
    List (List ℕ) → (post after : PostState) → Result (Unit {0}) TurnFault → Type 0
SendsAll grams post after (Ok _) = after.held ≡ option_map (with_sent grams) post.held
SendsAll grams post after (Err Failed) =
    Increased post.faults after.faults × SentPrefix post.held after.held grams
SendsAll grams post after (Err NoMemory) = SentPrefix post.held after.held grams
