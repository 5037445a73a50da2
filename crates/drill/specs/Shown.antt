-- The server and the peers that a record shows, each in the agreed world of its own ticked frames.
use Rattle.std.specs.Prelude.{ℕ, ◌+◌, List, [], ◌∷◌}
use Rattle.peer_core.specs.Peer.{PeerState}
use Rattle.server_core.specs.Server.{ServerState}
use Rattle.server_core.specs.Served.{agreed_marks}
use Rattle.frame_core.specs.Match.{Match, agreed_world}
use Rattle.drill.specs.Record.{Reached, Progress}

-- The server that a record shows.
abbrev pub shown_server : {W : Type 0} → Match W → Progress → ServerState W
shown_server m progress =
    record {
      columns = progress.columns;
      reports = progress.reports;
      ticked = progress.ticked;
      marks = agreed_marks m progress.columns progress.ticked;
      world = agreed_world m progress.columns progress.ticked;
    }

-- The peers with the numbers from this one on. `world_after n` is the agreed world after n frames.
abbrev pub shown_from : {W : Type 0} → ℕ → ℕ → (ℕ → W) → ℕ → List Reached → List (PeerState W)
shown_from clients lag world_after number [] = []
shown_from clients lag world_after number (reached ∷ rest) =
    record {
      me = number;
      clients = clients;
      lag = lag;
      arrived = reached.arrived;
      ticked = reached.ticked;
      sealed = reached.sealed;
      world = world_after reached.ticked;
    } ∷ shown_from clients lag world_after (number + 1) rest

-- The peers that a record shows.
abbrev pub shown_peers : {W : Type 0} → Match W → Progress → List (PeerState W)
shown_peers m progress =
    shown_from m.clients m.lag (agreed_world m progress.columns) 0 progress.peers
