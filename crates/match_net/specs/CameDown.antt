-- What a player has of the entries that came down to it, and what its world is by that.
use Rattle.std.specs.Prelude.{◌≡◌, ◌≢◌, ℕ, ◌<◌, ◌==◌, ◌&&◌, if◌then◌else◌, List, [], ◌∷◌}
use Rattle.std.specs.Prelude.{Option, Some, None}
use Rattle.game_orders.specs.declared.entry.Entry.{Entry as one_entry}
use Rattle.frame_core.specs.declared.ready.Ready.TheVariants as ready
use Rattle.frame_core.specs.Column.{Column, entry_at, column_of}
use Rattle.frame_core.specs.Fold.{folded}
use Rattle.order_packets.specs.declared.down.Down.{Down}
use Rattle.order_packets.specs.declared.down.Down.TheVariants as down
use Rattle.peer_core.specs.Arrived.{kept_at, ready_by, frame_by}
use Rattle.peer_core.specs.Peer.{PeerState}

-- The entry of client c at frame n that came down first, if one came.
abbrev pub came_down : List Down → ℕ → ℕ → Option one_entry
came_down [] c n = None
came_down (down.Welcome client clients lag seed ∷ packets) c n = came_down packets c n
came_down (down.Refused code ∷ packets) c n = came_down packets c n
came_down (down.Entry client frame entry ∷ packets) c n =
    if (client == c) && (frame == n) then Some entry else came_down packets c n

-- A peer of so many clients that went on from this world, after these packets. It has of each
-- client at each frame what came down. It has ticked the frames that are ready by that, one after
-- another, up to the first that is not; and its world is the step of worlds folded over them.
pub record IsFold {W : Type 0} (after : W → List one_entry → W) (start : W) (clients : ℕ)
    (packets : List Down) (peer : PeerState W) : Type 0 where
  pub clients_are : peer.clients ≡ clients
  pub has : (c n : ℕ) → kept_at peer.arrived c n ≡ came_down packets c n
  pub ticked_ready : (k : ℕ) → k < peer.ticked → ready_by peer.arrived clients k ≡ ready.Yes
  pub next : ready_by peer.arrived clients peer.ticked ≢ ready.Yes
  pub world :
      peer.world ≡ folded after start (λ k. frame_by peer.arrived clients k) peer.ticked

-- Each entry that came down stands in these columns.
abbrev pub AreAgreed : List Column → List Down → Type 0
AreAgreed columns [] = Unit {0}
AreAgreed columns (down.Welcome client clients lag seed ∷ packets) = AreAgreed columns packets
AreAgreed columns (down.Refused code ∷ packets) = AreAgreed columns packets
AreAgreed columns (down.Entry client frame entry ∷ packets) =
    (entry_at (column_of columns client) frame ≡ Some entry) × AreAgreed columns packets
