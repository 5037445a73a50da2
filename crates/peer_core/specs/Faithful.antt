-- A peer is faithful to the columns: what reached it stands in them, and its world is the agreed
-- world of the frames that it ticked, all of them ready by the columns.
use Rattle.std.specs.Prelude.{◌≡◌, List, Some}
use Rattle.std.specs.List.{AllByRecursion}
use Rattle.game_orders.specs.declared.entry.Entry.{Entry}
use Rattle.frame_core.specs.Column.{Column, entry_at, column_of}
use Rattle.frame_core.specs.Agreed.{IsAt}
use Rattle.peer_core.specs.declared.arrived.Arrived.{Arrived}
use Rattle.peer_core.specs.Peer.{PeerState}

-- It stands in the columns: in its client's column, at its frame.
abbrev pub Stands : List Column → Arrived → Type 0
Stands columns a = entry_at (column_of columns a.client) a.frame ≡ Some a.entry

-- What reached the peer stands in the columns, and its world is the agreed world of its ticked
-- frames.
pub record IsFaithful {W : Type 0} (after : W → List Entry → W) (start : W)
    (columns : List Column) (peer : PeerState W) : Type 0 where
  pub stand : AllByRecursion (Stands columns) peer.arrived
  pub at : IsAt after start columns peer.ticked peer.world
