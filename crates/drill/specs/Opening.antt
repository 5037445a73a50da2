-- A match before its first event.
use Rattle.std.specs.Prelude.{ℕ, zero, suc, ◌+◌, List, [], ◌∷◌}
use Rattle.peer_core.specs.Peer.{PeerState, fresh_peer}
use Rattle.server_core.specs.Server.{fresh_server}
use Rattle.drill.specs.RunningMatch.{RunState}

-- So many peers with the numbers from `me` on, in a match of so many clients with this lag, all
-- in this world.
abbrev pub fresh_peers : {W : Type 0} → ℕ → ℕ → W → ℕ → ℕ → List (PeerState W)
fresh_peers clients lag world me zero = []
fresh_peers clients lag world me (suc more) =
    fresh_peer me clients lag world ∷ fresh_peers clients lag world (me + 1) more

-- The match of so many clients with this lag, with the server and all peers in this world.
abbrev pub fresh_run : {W : Type 0} → ℕ → ℕ → W → RunState W
fresh_run clients lag world =
    record {
      clients = clients;
      lag = lag;
      sent = [];
      server = fresh_server clients world;
      peers = fresh_peers clients lag world 0 clients;
    }
