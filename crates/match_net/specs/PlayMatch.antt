-- What a player's match leaves: what it read, what it wrote, and how it ended.
use Rattle.std.specs.Prelude.{◌≡◌, ℕ, ◌≤◌, ◌<◌, ◌⊎◌, List, [], ◌∷◌, ◌++◌, length, true, false}
use Rattle.std.specs.Prelude.{Option, Some, None, Result, Ok, Err}
use Rattle.std.specs.Option.{option_map}
use Rattle.base.specs.Cause.{Increased}
use Rattle.base.specs.Written.{Wrote, WrotePrefix}
use Rattle.game_io.specs.SourceState.{SourceState}
use Rattle.game_io.specs.SinkState.{SinkState}
use Rattle.order_packets.specs.declared.down.Down.{Down}
use Rattle.order_packets.specs.PacketReading.{FirstPacket}
use Rattle.order_packets.specs.Feed.{Fed}
use Rattle.match_net.specs.declared.stop_reason.StopReason.TheVariants as stop
use Rattle.match_net.specs.declared.limits.TheConstants.{MAX_PLAY_BYTES}
use Rattle.match_net.specs.declared.play_cause.PlayCause.{PlayCause}
use Rattle.match_net.specs.declared.play_cause.PlayCause.TheVariants as cause
use Rattle.match_net.specs.declared.play_end.PlayEnd.{PlayEnd}
use Rattle.match_net.specs.declared.play_end.PlayEnd.TheVariants as end
use Rattle.match_net.specs.PieceTaking.{NoneLeft}
use Rattle.match_net.specs.Downward.{InStream, Finds}
use Rattle.match_net.specs.Plays.{Plays}
use Rattle.match_net.specs.Playing.{Course, Player, Stage, round, is_over}
use Rattle.match_net.specs.Stages.{Terms, after_packets, stop_at, stop_in, said_by, player_of}
use Rattle.match_net.specs.Stages.{greeting_bytes}

-- What is handed back of a player: its client, how many frames it has ticked, and its world after
-- these. Of one that was not welcomed there is no world.
abbrev pub Shows : {W : Type 0} → Option (Player W) → ℕ → ℕ → Option W → Type 0
Shows None client frames sim = (client ≡ 0) × (frames ≡ 0) × (sim ≡ None)
Shows (Some player) client frames sim =
    (client ≡ player.peer.me) × (frames ≡ player.peer.ticked)
    × (sim ≡ Some player.peer.world)

-- All of these bytes were written.
pub record HasSaid (old new : SinkState) (said : List ℕ) : Type 0 where
  pub wrote : Wrote old.written new.written said
  pub later : old.faults ≤ new.faults

-- A prefix of them was written, since the sink failed.
pub record FailsWithin (old new : SinkState) (said : List ℕ) : Type 0 where
  pub wrote : WrotePrefix old.written new.written said
  pub later : old.faults ≤ new.faults
  pub rose : Increased old.faults new.faults

-- The sink failed in what was to be written last: all of `done` was written, and then a prefix of
-- what is left of `said`.
pub record FailsAfter (old new : SinkState) (done said : List ℕ) : Type 0 where
  pub part : List ℕ
  pub rest : List ℕ
  pub whole : done ++ (part ++ rest) ≡ said
  pub wrote : Wrote old.written new.written (done ++ part)
  pub later : old.faults ≤ new.faults
  pub rose : Increased old.faults new.faults

-- All that there was to write before the last of these packets was followed. Before the first this
-- is the greeting.
pub record SaidTillLast {W : Type 0} (terms : Terms W) (packets : List Down) (said : List ℕ) :
    Type 0 where
  pub earlier : List Down
  pub last : Down
  pub packets_are : packets ≡ earlier ++ last ∷ []
  pub stage : Option (Stage W)
  pub follows : after_packets terms None earlier ≡ Ok stage
  pub said_is : said ≡ said_by terms.rules stage

-- All that was written before what was to be written last: without packets that is the greeting,
-- before which there is nothing.
abbrev pub SaidBefore : {W : Type 0} → Terms W → List Down → List ℕ → Type 0
SaidBefore terms packets said =
    ((packets ≡ []) × (said ≡ [])) ⊎ SaidTillLast terms packets said

-- How a match ends, by what was found after the packets that it followed, at this place. All was
-- written that there was to write; where the sink failed, all but what was to be written last.
abbrev pub EndsBy :
    {W : Type 0} → Terms W → List Down → Option (Stage W) → FirstPacket Down → ℕ → ℕ →
    SourceState → SourceState → SinkState → SinkState → PlayEnd → Type 0
EndsBy terms packets now found size at old new before after end.Over =
    (stop_at terms now found ≡ Some stop.Over) × HasSaid before after (said_by terms.rules now)
EndsBy terms packets now found size at old new before after (end.Refused code) =
    (stop_at terms now found ≡ Some (stop.Refused code))
    × HasSaid before after (said_by terms.rules now)
EndsBy terms packets now found size at old new before after (end.BadLink place why) =
    (place ≡ at) × (option_map (stop_in size) (stop_at terms now found) ≡ Some (stop.Bad why))
    × (why ≡ cause.Early → NoneLeft new.left) × HasSaid before after (said_by terms.rules now)
EndsBy terms packets now found size at old new before after end.Lost =
    ((stop_at terms now found ≡ Some stop.Open) × (size < MAX_PLAY_BYTES)
    × Increased old.faults new.faults × HasSaid before after (said_by terms.rules now))
    ⊎ ((done : List ℕ) × SaidBefore terms packets done
    × FailsAfter before after done (said_by terms.rules now))

-- A player's match to its end: what it read begins with these packets, and what it wrote, and what
-- it is now, is what these make of it.
pub record PlaysTo {W : Type 0} (terms : Terms W) (old new : SourceState) (before after : SinkState)
    (player : Option (Player W)) (answer : PlayEnd) : Type 0 where
  pub packets : List Down
  pub at : ℕ
  pub found : FirstPacket Down
  pub link : Finds old new packets at found
  pub now : Option (Stage W)
  pub follows : after_packets terms None packets ≡ Ok now
  pub player_is : player ≡ player_of now
  pub ends : EndsBy terms packets now found (length link.taken) at old new before after answer

-- The same, with what is handed back.
pub record PlaysAs {W : Type 0} (terms : Terms W) (old new : SourceState) (before after : SinkState)
    (answer : PlayEnd) (client frames : ℕ) (sim : Option W) : Type 0 where
  pub player : Option (Player W)
  pub plays : PlaysTo terms old new before after player answer
  pub shows : Shows player client frames sim

-- Where memory runs out: all was written that there was to write after the packets that it
-- followed, or nothing was written and no packet followed.
pub record PlaysPartly {W : Type 0} (terms : Terms W) (old new : SourceState)
    (before after : SinkState) : Type 0 where
  pub packets : List Down
  pub at : ℕ
  pub found : FirstPacket Down
  pub link : Finds old new packets at found
  pub now : Option (Stage W)
  pub follows : after_packets terms None packets ≡ Ok now
  pub wrote :
      HasSaid before after (said_by terms.rules now) ⊎ ((packets ≡ []) × HasSaid before after [])

-- A match that goes on.
pub record PlaySoFar {W : Type 0} (terms : Terms W) (old now : SourceState)
    (before after : SinkState) (player : Player W) (fed : Fed) : Type 0 where
  pub packets : List Down
  pub stream : InStream old now packets fed
  pub said : List ℕ
  pub follows :
      after_packets terms None packets ≡ Ok (Some (record { player = player; said = said }))
  pub going : is_over player.peer ≡ false
  pub wrote : HasSaid before after said

-- A match that is about to begin: the player has greeted, and was welcomed.
pub record PlayBegins {W : Type 0} (terms : Terms W) (old now : SourceState)
    (before after : SinkState) (player : Player W) (fed : Fed) : Type 0 where
  pub packets : List Down
  pub stream : InStream old now packets fed
  pub first : (packet : Down) × (packets ≡ packet ∷ [])
  pub follows :
      after_packets terms None packets
      ≡ Ok (Some (round terms.course terms.plays
      (record { player = player; said = greeting_bytes terms.rules })))
  pub wrote : HasSaid before after (greeting_bytes terms.rules)

-- After one turn more the match goes on, or has ended.
abbrev pub AfterTurn :
    {W : Type 0} → Terms W → SourceState → SourceState → SinkState → SinkState → Player W → Fed →
    Option PlayEnd → Type 0
AfterTurn terms old now before after player fed None =
    PlaySoFar terms old now before after player fed
AfterTurn terms old now before after player fed (Some end) =
    PlaysTo terms old now before after (Some player) end

-- What a turn of a match leaves.
abbrev pub TurnMeans :
    {W E : Type 0} → Terms W → SourceState → SourceState → SinkState → SinkState → Player W → Fed →
    Result (Option PlayEnd) E → Type 0
TurnMeans terms old now before after player fed (Ok answer) =
    AfterTurn terms old now before after player fed answer
TurnMeans terms old now before after player fed (Err failed) =
    PlaysPartly terms old now before after

-- What a match leaves after the player was welcomed.
abbrev pub MatchMeans :
    {W E : Type 0} → Terms W → SourceState → SourceState → SinkState → SinkState → Player W →
    Result PlayEnd E → Type 0
MatchMeans terms old now before after player (Ok end) =
    PlaysTo terms old now before after (Some player) end
MatchMeans terms old now before after player (Err failed) =
    PlaysPartly terms old now before after

-- What writing says by how the match ends with that, if it does.
abbrev pub PutMeans : SinkState → SinkState → List ℕ → Option PlayEnd → Type 0
PutMeans old new bytes None = HasSaid old new bytes
PutMeans old new bytes (Some end.Over) = ⊥
PutMeans old new bytes (Some (end.Refused code)) = ⊥
PutMeans old new bytes (Some (end.BadLink at why)) = ⊥
PutMeans old new bytes (Some end.Lost) = FailsWithin old new bytes

-- What the acting of a player says that had said this before: `next` is how it stands then.
abbrev pub ActMeans :
    {W : Type 0} → List ℕ → Stage W → Player W → SinkState → SinkState → Option PlayEnd → Type 0
ActMeans said next player before after None =
    (player ≡ next.player) × (is_over player.peer ≡ false) × HasSaid before after next.said
ActMeans said next player before after (Some end.Over) =
    (player ≡ next.player) × (is_over player.peer ≡ true) × HasSaid before after next.said
ActMeans said next player before after (Some (end.Refused code)) = ⊥
ActMeans said next player before after (Some (end.BadLink at why)) = ⊥
ActMeans said next player before after (Some end.Lost) =
    (player ≡ next.player) × FailsAfter before after said next.said

-- What a packet after the first one leaves, by what it makes of the player: it acts on, or the
-- match ends.
abbrev pub HandlingMeans :
    {W : Type 0} → Course W → Plays W → Result (Player W) PlayCause → Player W →
    List ℕ → ℕ → Player W → SinkState → SinkState → Option PlayEnd → Type 0
HandlingMeans course plays (Ok mid) old said at new before after answer =
    ActMeans said (round course plays (record { player = mid; said = said })) new before after
    answer
HandlingMeans course plays (Err why) old said at new before after answer =
    (answer ≡ Some (end.BadLink at why)) × (new ≡ old) × HasSaid before after said
