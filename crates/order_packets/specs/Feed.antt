-- What a feeder is, and what its calls give and leave.
use Rattle.std.specs.Prelude.{◌≡◌, ℕ, ◌+◌, ◌-◌, List, [], ◌∷◌, ◌++◌, length}
use Rattle.std.specs.Prelude.{Option, Some, None, Result, Ok, Err, IfSome, IfNone}
use Rattle.std.specs.List.{flat_map}
use Rattle.order_packets.specs.declared.feed_fault.FeedFault.{FeedFault}
use Rattle.order_packets.specs.PacketReading.{PacketRead, FirstPacket, packet_at}
use Rattle.order_packets.specs.PacketBytes.{framed}

-- A feeder: the place of its next packet in the stream, the bytes from there on that it was fed,
-- and the fault that it has answered.
pub record Fed : Type 0 where
  pub at : ℕ
  pub rest : List ℕ
  pub fault : Option FeedFault

-- Before the first byte.
abbrev pub unfed : Fed
unfed = record { at = 0; rest = []; fault = None }

-- After a piece of the stream. A feeder that has answered a fault stays.
abbrev pub more_fed : Option FeedFault → Fed → List ℕ → Fed
more_fed None fed piece = record { at = fed.at; rest = fed.rest ++ piece; fault = None }
more_fed (Some fault) fed piece = fed

-- The answer to a question for the next packet, and the feeder after it.
abbrev pub Answer : Type 0 → Type 0
Answer P = Result (Option P) FeedFault × Fed

abbrev pub answer_of : {P : Type 0} → Fed → FirstPacket P → Answer P
answer_of fed (Ok None) = (Ok None, fed)
answer_of fed (Ok (Some first)) = (
  Ok (Some first.0),
  record { at = fed.at + (length fed.rest - length first.1); rest = first.1; fault = None },
)
answer_of fed (Err fault) =
    (Err fault, record { at = fed.at; rest = fed.rest; fault = Some fault })

-- The first fault is the answer for ever. Before it, the packet that the rest begins with is given
-- and taken away.
abbrev pub next_answer :
    {P : Type 0} → (List ℕ → PacketRead P) → Option FeedFault → Fed → Answer P
next_answer at (Some fault) fed = (Err fault, fed)
next_answer at None fed = answer_of fed (packet_at at fed.rest)

-- Read one after another from these bytes on, `at` gives these packets, and then this rest is left.
abbrev pub ReadsAll :
    {P : Type 0} → (List ℕ → PacketRead P) → List ℕ → List P → List ℕ → Type 0
ReadsAll at bytes [] rest = bytes ≡ rest
ReadsAll at bytes (packet ∷ others) rest =
    (mid : List ℕ) × (packet_at at bytes ≡ Ok (Some (packet, mid))) × ReadsAll at mid others rest

-- No packet is read there: the stream is open, or there is a fault.
abbrev pub IsEnd : {P : Type 0} → FirstPacket P → Type 0
IsEnd (Ok (Some first)) = ⊥
IsEnd (Ok None) = Unit {0}
IsEnd (Err fault) = Unit {0}

-- All bytes that a feeder was fed give the packets that it gave, whatever pieces they came in. They
-- are the spellings of these packets, one after another, then the feeder's rest, and then what came
-- after a fault was answered, which it did not keep. That fault stands where its rest begins. Its
-- place is behind the spellings.
pub record HasGiven
    {P : Type 0} (at : List ℕ → PacketRead P) (payload : P → List ℕ) (all : List ℕ)
    (given : List P) (fed : Fed) : Type 0 where
  pub late : List ℕ
  pub reads : ReadsAll at all given (fed.rest ++ late)
  pub spelled : all ≡ flat_map (λ packet. framed (payload packet)) given ++ fed.rest ++ late
  pub kept : IfNone fed.fault (late ≡ [])
  pub stands : IfSome fed.fault (λ fault. packet_at at fed.rest ≡ Err fault)
  pub place : fed.at ≡ length (flat_map (λ packet. framed (payload packet)) given)

-- The packets of an answer: one or none.
abbrev pub given_by : {P : Type 0} → Result (Option P) FeedFault → List P
given_by (Ok (Some packet)) = packet ∷ []
given_by (Ok None) = []
given_by (Err fault) = []

-- The fact holds of the packet of an answer, if there is one.
abbrev pub IfGiven : {P : Type 0} → Result (Option P) FeedFault → (P → Type 0) → Type 0
IfGiven (Ok (Some packet)) fact = fact packet
IfGiven (Ok None) fact = Unit {0}
IfGiven (Err fault) fact = Unit {0}

-- The fact holds where the answer is None.
abbrev pub IfOpen : {P : Type 0} → Result (Option P) FeedFault → Type 0 → Type 0
IfOpen (Ok (Some packet)) fact = Unit {0}
IfOpen (Ok None) fact = fact
IfOpen (Err fault) fact = Unit {0}
