-- What the answer to a seal of a peer means.
use Rattle.std.specs.Prelude.{◌≡◌, ◌≢◌, ℕ, ◌+◌, ◌<◌, List, Some, Result, Ok, Err}
use Rattle.game_orders.specs.declared.entry.Entry.TheVariants.{Leave}
use Rattle.game_orders.specs.declared.limits.TheConstants.{MAX_FRAMES}
use Rattle.peer_core.specs.declared.arrived.Arrived.{Arrived}
use Rattle.peer_core.specs.declared.seal_fault.SealFault.{SealFault}
use Rattle.peer_core.specs.declared.seal_fault.SealFault.TheVariants.{TooEarly, LeftAlready}
use Rattle.peer_core.specs.declared.seal_fault.SealFault.TheVariants.{MatchFull}
use Rattle.peer_core.specs.Arrived.{kept_at}
use Rattle.peer_core.specs.Peer.{PeerState}

-- The departure of client c has arrived, at whatever frame.
abbrev pub HasLeft : List Arrived → ℕ → Type 0
HasLeft arrived c = (m : ℕ) × (kept_at arrived c m ≡ Some Leave)

-- It has not.
abbrev pub HasStayed : List Arrived → ℕ → Type 0
HasStayed arrived c = (m : ℕ) → kept_at arrived c m ≢ Some Leave

-- What the answer to a seal means. The frame that is sealed is the one after those that were sealed
-- before; the peer's own departure has not arrived, a match has the frame, and it is less than the
-- lag beyond the ticked ones; the count grew by one, and nothing else changed. A refusal changes
-- nothing. `LeftAlready`: its own departure has arrived. `MatchFull`: it has not, and as many frames
-- are sealed as a match has. `TooEarly`: neither, and as many are sealed beyond the ticked ones as
-- the lag says.
abbrev pub MeansSeal : {W : Type 0} → (old new : PeerState W) → Result ℕ SealFault → Type 0
MeansSeal old new (Ok n) =
    (n ≡ old.sealed) × HasStayed old.arrived old.me × (n < MAX_FRAMES)
    × (n < old.ticked + old.lag) × (new ≡ record old { sealed = n + 1 })
MeansSeal old new (Err LeftAlready) = HasLeft old.arrived old.me × (new ≡ old)
MeansSeal old new (Err MatchFull) =
    HasStayed old.arrived old.me × (old.sealed ≡ MAX_FRAMES) × (new ≡ old)
MeansSeal old new (Err TooEarly) =
    HasStayed old.arrived old.me × (old.sealed < MAX_FRAMES)
    × (old.sealed ≡ old.ticked + old.lag) × (new ≡ old)
