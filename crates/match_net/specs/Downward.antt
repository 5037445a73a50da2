-- How packets are taken from a player's link.
use Rattle.std.specs.Prelude.{◌≡◌, ℕ, ◌+◌, ◌<◌, ◌≤◌, List, ◌∷◌, [], ◌++◌, length, Option, Some}
use Rattle.std.specs.Prelude.{None, Result, Ok, Err}
use Rattle.base.specs.Cause.{Increased}
use Rattle.game_io.specs.SourceState.{SourceState}
use Rattle.order_packets.specs.declared.down.Down.{Down}
use Rattle.order_packets.specs.PacketBytes.{down_payload}
use Rattle.order_packets.specs.PacketReading.{FirstPacket, packet_at, down_at}
use Rattle.order_packets.specs.Feed.{Fed, more_fed, ReadsAll, HasGiven}
use Rattle.match_net.specs.declared.limits.TheConstants.{MAX_PLAY_BYTES}
use Rattle.match_net.specs.declared.coming_packet.ComingPacket.{ComingPacket}
use Rattle.match_net.specs.declared.coming_packet.ComingPacket.TheVariants as next
use Rattle.match_net.specs.declared.play_cause.PlayCause.TheVariants as cause
use Rattle.match_net.specs.PieceTaking.{Took, NoneLeft}
use Rattle.match_net.specs.Stages.{bad_end, bad_at}

-- These bytes were taken from the link, and the feeder has given these packets of them.
pub record InStream (old now : SourceState) (packets : List Down) (fed : Fed) : Type 0 where
  pub taken : List ℕ
  pub few : length taken ≤ MAX_PLAY_BYTES
  pub took : Took old.left now.left taken
  pub later : old.faults ≤ now.faults
  pub stream : HasGiven down_at down_payload taken packets fed
  pub whole : fed.fault ≡ None

-- These bytes were taken from the link. They begin with these packets, after which, at this place,
-- this is found.
pub record Finds (old now : SourceState) (packets : List Down) (at : ℕ) (found : FirstPacket Down) :
    Type 0 where
  pub taken : List ℕ
  pub few : length taken ≤ MAX_PLAY_BYTES
  pub took : Took old.left now.left taken
  pub later : old.faults ≤ now.faults
  pub rest : List ℕ
  pub reads : ReadsAll down_at taken packets rest
  pub found_is : packet_at down_at rest ≡ found
  pub place : at + length rest ≡ length taken

-- What an answer on the next packet says: it came; or for this cause there is none; or the link
-- failed before it was whole, and before the most bytes were taken that a player takes.
abbrev pub NextMeans : SourceState → SourceState → List Down → Fed → ComingPacket → Type 0
NextMeans old now packets fed (next.Packet at packet) =
    InStream old now (packets ++ packet ∷ []) fed
    × ((more : List ℕ) × Finds old now packets at (Ok (Some (packet, more))))
NextMeans old now packets fed (next.Bad at why) =
    (found : FirstPacket Down) × (finds : Finds old now packets at found)
    × (bad_at (length finds.taken) found ≡ Some why) × (why ≡ cause.Early → NoneLeft now.left)
NextMeans old now packets fed next.Lost =
    (at : ℕ) × (finds : Finds old now packets at (Ok None))
    × (length finds.taken < MAX_PLAY_BYTES) × Increased old.faults now.faults

-- What is so where memory runs out on the way: some bytes may be lost.
abbrev pub Spills : SourceState → SourceState → List Down → Type 0
Spills old now packets = (at : ℕ) × (found : FirstPacket Down) × Finds old now packets at found

-- What a question for the next packet says.
abbrev pub AskMeans :
    {E : Type 0} → SourceState → SourceState → List Down → Fed → Result ComingPacket E → Type 0
AskMeans old now packets fed (Ok answer) = NextMeans old now packets fed answer
AskMeans old now packets fed (Err failed) = Spills old now packets

-- The same of one attempt: without an answer the stream goes on.
abbrev pub FoundMeans : SourceState → SourceState → List Down → Fed → Option ComingPacket → Type 0
FoundMeans old now packets fed None = InStream old now packets fed
FoundMeans old now packets fed (Some answer) = NextMeans old now packets fed answer

abbrev pub TryMeans :
    {E : Type 0} → SourceState → SourceState → List Down → Fed → Result (Option ComingPacket) E → Type 0
TryMeans old now packets fed (Ok answer) = FoundMeans old now packets fed answer
TryMeans old now packets fed (Err failed) = Spills old now packets

-- How far the feeder gets: without an answer it holds more, and with a packet it is behind it. It
-- gets no more than a player takes.
abbrev pub MovesBy : Fed → Fed → Option ComingPacket → Type 0
MovesBy before after None =
    (after.fault ≡ None) × (after.at ≡ before.at)
    × (before.at + length before.rest < after.at + length after.rest)
    × (after.at + length after.rest ≤ MAX_PLAY_BYTES)
MovesBy before after (Some (next.Packet at packet)) =
    (after.fault ≡ None) × (before.at < after.at)
    × (after.at + length after.rest ≤ MAX_PLAY_BYTES)
MovesBy before after (Some (next.Bad at why)) = Unit {0}
MovesBy before after (Some next.Lost) = Unit {0}

-- What the taking of more bytes says by its answer.
abbrev pub MoreMeans :
    SourceState → SourceState → Fed → Fed → List ℕ → Option ComingPacket → Type 0
MoreMeans old new before after taken None =
    (after ≡ more_fed before.fault before taken) × (0 < length taken)
MoreMeans old new before after taken (Some (next.Packet at packet)) = ⊥
MoreMeans old new before after taken (Some (next.Bad at why)) =
    (taken ≡ []) × (at ≡ before.at) × (why ≡ bad_end (before.at + length before.rest))
    × (why ≡ cause.Early → NoneLeft new.left)
MoreMeans old new before after taken (Some next.Lost) =
    (taken ≡ []) × (before.at + length before.rest < MAX_PLAY_BYTES)
    × Increased old.faults new.faults

-- The taking of more bytes: the feeder was fed a piece; or there was none to take.
pub record TakesMore (old new : SourceState) (before after : Fed) (answer : Option ComingPacket) : Type 0
  where
    pub taken : List ℕ
    pub took : Took old.left new.left taken
    pub few : before.at + length before.rest + length taken ≤ MAX_PLAY_BYTES
    pub later : old.faults ≤ new.faults
    pub means : MoreMeans old new before after taken answer
