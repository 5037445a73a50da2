-- A peer: what reached it, what it ticked and sealed, and its world.
use Rattle.std.specs.Prelude.{◌≡◌, ℕ, ◌+◌, ◌-◌, ◌<◌, ◌≤◌, ◌==◌, true, if◌then◌else◌}
use Rattle.std.specs.Prelude.{List, [], Option, Some, None, Result, Ok, Err}
use Rattle.std.specs.List.{list_all}
use Rattle.game_orders.specs.declared.entry.Entry.{Entry}
use Rattle.game_orders.specs.declared.limits.TheConstants.{MAX_CLIENTS, MAX_FRAMES, MAX_LAG}
use Rattle.frame_core.specs.Tick.{ticked_after, stepped}
use Rattle.peer_core.specs.declared.arrived.Arrived.{Arrived}
use Rattle.peer_core.specs.declared.report.Report.{Report}
use Rattle.peer_core.specs.declared.seal_fault.SealFault.{SealFault}
use Rattle.peer_core.specs.declared.seal_fault.SealFault.TheVariants.{TooEarly, LeftAlready}
use Rattle.peer_core.specs.declared.seal_fault.SealFault.TheVariants.{MatchFull}
use Rattle.peer_core.specs.Arrived.{ready_by, frame_by, has_left, IsRising, IsEnded}
use Rattle.peer_core.specs.Delivery.{is_in_match, arrived_after}

-- What a peer is seen as.
pub record PeerState (W : Type 0) : Type 0 where
  pub me : ℕ
  pub clients : ℕ
  pub lag : ℕ
  pub arrived : List Arrived
  pub ticked : ℕ
  pub sealed : ℕ
  pub world : W

abbrev pub peer_state :
    {W : Type 0} → ℕ → ℕ → ℕ → List Arrived → ℕ → ℕ → W → PeerState W
peer_state me clients lag arrived ticked sealed world =
    record {
      me = me;
      clients = clients;
      lag = lag;
      arrived = arrived;
      ticked = ticked;
      sealed = sealed;
      world = world;
    }

-- What every peer keeps: its world is one of its clients that made one step a ticked frame; its
-- numbers are within their limits; and what arrived stands within a match, in order, and for each
-- client up to its departure.
pub record IsPeer {W : Type 0} (clients_of steps : W → ℕ) (peer : PeerState W) : Type 0 where
  pub world_clients : clients_of peer.world ≡ peer.clients
  pub world_steps : steps peer.world ≡ peer.ticked
  pub own : peer.me < peer.clients
  pub most_clients : peer.clients ≤ MAX_CLIENTS
  pub least_lag : 1 ≤ peer.lag
  pub most_lag : peer.lag ≤ MAX_LAG
  pub most_ticked : peer.ticked ≤ MAX_FRAMES
  pub most_sealed : peer.sealed ≤ MAX_FRAMES
  pub ahead : peer.sealed ≤ peer.ticked + peer.lag
  pub in_match : list_all is_in_match peer.arrived ≡ true
  pub rising : IsRising peer.arrived
  pub ended : IsEnded peer.arrived

-- A peer that nothing has reached yet.
abbrev pub fresh_peer : {W : Type 0} → ℕ → ℕ → ℕ → W → PeerState W
fresh_peer me clients lag world = peer_state me clients lag [] 0 0 world

-- The peer after a delivery of an entry of client c at frame n.
abbrev pub delivered_peer : {W : Type 0} → PeerState W → ℕ → ℕ → Entry → PeerState W
delivered_peer peer c n entry =
    record peer { arrived = arrived_after peer.arrived c n entry }

-- The answer to a seal: the first applicable case, or else the frame that is sealed.
abbrev pub seal_answer : List Arrived → ℕ → ℕ → ℕ → ℕ → Result ℕ SealFault
seal_answer arrived me lag ticked sealed =
    if has_left arrived me then Err LeftAlready
    else (if sealed == MAX_FRAMES then Err MatchFull
    else (if sealed == ticked + lag then Err TooEarly
    else Ok sealed))

-- The count of sealed frames after a seal.
abbrev pub sealed_after : Result ℕ SealFault → ℕ → ℕ
sealed_after (Ok frame) sealed = sealed + 1
sealed_after (Err fault) sealed = sealed

-- The peer after a seal.
abbrev pub sealed_peer : {W : Type 0} → PeerState W → PeerState W
sealed_peer peer =
    record peer {
      sealed =
          sealed_after (seal_answer peer.arrived peer.me peer.lag peer.ticked peer.sealed)
          peer.sealed;
    }

-- The peer after a tick.
abbrev pub ticked_peer : {W : Type 0} → (W → List Entry → W) → PeerState W → PeerState W
ticked_peer after peer =
    record peer {
      ticked = ticked_after (ready_by peer.arrived peer.clients peer.ticked) peer.ticked;
      world =
          stepped (ready_by peer.arrived peer.clients peer.ticked) after peer.world
          (frame_by peer.arrived peer.clients peer.ticked);
    }

-- The last ticked frame and the hash of the world after it.
abbrev pub report_of : {W : Type 0} → (W → ℕ) → PeerState W → Option Report
report_of hash peer =
    if peer.ticked == 0 then None
    else Some (record { frame = peer.ticked - 1; hash = hash peer.world })
