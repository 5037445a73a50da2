-- What a player makes of the entries that reach it, and what it writes by that.
use Rattle.std.specs.Prelude.{◌≡◌, ℕ, zero, suc, ◌+◌, ◌-◌, ◌==◌, ◌&&◌, ◌||◌, nat_lt, nat_le}
use Rattle.std.specs.Prelude.{min, max, not}
use Rattle.std.specs.Prelude.{if◌then◌else◌, Bool, true, false, List, [], ◌++◌}
use Rattle.std.specs.Prelude.{Option, Some, None, Result, Ok, Err}
use Rattle.game_orders.specs.declared.order.Order.{Order}
use Rattle.game_orders.specs.declared.entry.Entry.{Entry as one_entry}
use Rattle.game_orders.specs.declared.limits.TheConstants.{MAX_FRAMES}
use Rattle.game_orders.specs.Entry.{is_play}
use Rattle.frame_core.specs.declared.ready.Ready.{Ready}
use Rattle.frame_core.specs.declared.ready.Ready.TheVariants as ready
use Rattle.order_packets.specs.declared.up.Up.TheVariants.{Orders, Sync, Bye}
use Rattle.order_packets.specs.PacketBytes.{up_bytes}
use Rattle.peer_core.specs.declared.receipt.Receipt.{Receipt}
use Rattle.peer_core.specs.declared.receipt.Receipt.TheVariants as receipt
use Rattle.peer_core.specs.Arrived.{ready_by}
use Rattle.peer_core.specs.Delivery.{delivery_of}
use Rattle.peer_core.specs.Peer.{PeerState, ticked_peer, delivered_peer}
use Rattle.peer_core.specs.Receipt.{receipt_of}
use Rattle.match_net.specs.declared.play_cause.PlayCause.{PlayCause}
use Rattle.match_net.specs.declared.play_cause.PlayCause.TheVariants as cause
use Rattle.match_net.specs.Plays.{Plays}

-- How worlds go on: the one after a frame, and the hash of each.
pub record Course (W : Type 0) : Type 0 where
  pub after : W → List one_entry → W
  pub hash : W → ℕ

-- A peer, and all that was written so far.
pub record Telling (W : Type 0) : Type 0 where
  pub peer : PeerState W
  pub said : List ℕ

abbrev pub telling : {W : Type 0} → PeerState W → List ℕ → Telling W
telling peer said = record { peer = peer; said = said }

-- A report is written, unless the player is to write no more.
abbrev pub report_bytes : Bool → ℕ → ℕ → List ℕ
report_bytes true frame hash = []
report_bytes false frame hash = up_bytes (Sync frame hash)

-- A tick by whether the next frame is ready: the world after it is reported.
abbrev pub ticked_if : {W : Type 0} → Ready → Course W → Bool → Telling W → Telling W
ticked_if ready.Yes course quiet now =
    record {
      peer = ticked_peer course.after now.peer;
      said = now.said
          ++ report_bytes quiet now.peer.ticked
          (course.hash (ticked_peer course.after now.peer).world);
    }
ticked_if (ready.NotYet c) course quiet now = now
ticked_if ready.Over course quiet now = now

abbrev pub tick_once : {W : Type 0} → Course W → Bool → Telling W → Telling W
tick_once course quiet now =
    ticked_if (ready_by now.peer.arrived now.peer.clients now.peer.ticked) course quiet now

-- A tick that finds no frame ready changes nothing.
abbrev pub RestsIf : {W : Type 0} → Bool → Telling W → Telling W → Type 0
RestsIf true old new = Unit {0}
RestsIf false old new = new ≡ old

-- So many ticks, of which those that find no frame ready change nothing.
unfoldable pub ticks : {W : Type 0} → ℕ → Course W → Bool → Telling W → Telling W
ticks zero course quiet now = now
ticks (suc more) course quiet now = ticks more course quiet (tick_once course quiet now)

-- Every frame that is ready is ticked: a match has no more than so many.
abbrev pub all_ticked : {W : Type 0} → Course W → Bool → Telling W → Telling W
all_ticked course quiet now = ticks MAX_FRAMES course quiet now

-- The plays of so many frames, from this one on: each with the orders of its number.
unfoldable pub sealed_bytes : (ℕ → List Order) → ℕ → ℕ → List ℕ
sealed_bytes play n zero = []
sealed_bytes play n (suc more) = up_bytes (Orders n (play n)) ++ sealed_bytes play (n + 1) more

-- How many of its frames a player may seal: no more than its lag after the ticked ones.
abbrev pub may_seal : ℕ → ℕ → ℕ → ℕ
may_seal frames ticked lag = min frames (ticked + lag)

-- The farewell is written once every frame that the player plays was ticked.
abbrev pub farewell_bytes : Bool → List ℕ
farewell_bytes true = up_bytes Bye
farewell_bytes false = []

-- A player: its peer, how many of its frames it has sealed, and whether it writes no more, since it
-- has said farewell or its own departure has come.
pub record Player (W : Type 0) : Type 0 where
  pub peer : PeerState W
  pub sealed : ℕ
  pub quiet : Bool

-- A player, and all that it has written.
pub record Stage (W : Type 0) : Type 0 where
  pub player : Player W
  pub said : List ℕ

abbrev pub player_at : {W : Type 0} → PeerState W → ℕ → Bool → Player W
player_at peer sealed quiet = record { peer = peer; sealed = sealed; quiet = quiet }

abbrev pub stage_at : {W : Type 0} → PeerState W → ℕ → Bool → List ℕ → Stage W
stage_at peer sealed quiet said = record { player = player_at peer sealed quiet; said = said }

-- After the ticks, by whether the player writes no more: the frames that it may seal, each with the
-- orders by the world that it holds now, and then perhaps its farewell.
abbrev pub sealed_if : {W : Type 0} → Bool → Plays W → ℕ → Telling W → Stage W
sealed_if true plays sealed now =
    record { player = record { peer = now.peer; sealed = sealed; quiet = true }; said = now.said }
sealed_if false plays sealed now =
    record {
      player = record {
        peer = now.peer;
        sealed = max sealed (may_seal plays.frames now.peer.ticked now.peer.lag);
        quiet = nat_le plays.frames now.peer.ticked;
      };
      said = now.said
          ++ sealed_bytes (plays.orders now.peer.world now.peer.me) sealed
          (may_seal plays.frames now.peer.ticked now.peer.lag - sealed)
          ++ farewell_bytes (nat_le plays.frames now.peer.ticked);
    }

-- What a player does after each packet: it ticks, and writes, as far as it can.
abbrev pub round : {W : Type 0} → Course W → Plays W → Stage W → Stage W
round course plays now =
    sealed_if now.player.quiet plays now.player.sealed
    (all_ticked course now.player.quiet
    (record { peer = now.player.peer; said = now.said }))

-- The match is over for a player: the next frame is one before which all have left.
abbrev pub is_over_by : Ready → Bool
is_over_by ready.Yes = false
is_over_by (ready.NotYet c) = false
is_over_by ready.Over = true

abbrev pub is_over : {W : Type 0} → PeerState W → Bool
is_over peer = is_over_by (ready_by peer.arrived peer.clients peer.ticked)

-- The player after an entry, by its receipt. With its own departure it falls silent.
abbrev pub after_receipt :
    {W : Type 0} → Receipt → Player W → ℕ → ℕ → one_entry → Result (Player W) PlayCause
after_receipt receipt.Kept player c n e =
    Ok (record player {
      peer = delivered_peer player.peer c n e;
      quiet = player.quiet || ((c == player.peer.me) && not (is_play e));
    })
after_receipt receipt.Repeat player c n e =
    Ok (record player {
      peer = delivered_peer player.peer c n e;
      quiet = player.quiet || ((c == player.peer.me) && not (is_play e));
    })
after_receipt receipt.Conflict player c n e = Err cause.Conflict
after_receipt (receipt.Past at) player c n e = Err cause.Past
after_receipt receipt.Beyond player c n e = Err cause.Beyond

-- What following a packet leaves, by what it makes of the player: the player goes on so, or it
-- stays.
abbrev pub FollowMeans :
    {W : Type 0} → Result (Player W) PlayCause → Player W → Player W → Option PlayCause → Type 0
FollowMeans after old new None = after ≡ Ok new
FollowMeans after old new (Some why) = (after ≡ Err why) × (new ≡ old)

abbrev pub after_entry :
    {W : Type 0} → Player W → ℕ → ℕ → one_entry → Result (Player W) PlayCause
after_entry player c n e =
    if nat_lt c player.peer.clients
    then after_receipt (receipt_of (delivery_of player.peer.arrived c n e)) player c n e
    else Err cause.BadClient
