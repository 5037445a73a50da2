-- The peer or the server that an object holds.
use Rattle.std.specs.Prelude.{Option, None, Some}
use Rattle.peer_core.specs.Peer.{PeerState}
use Rattle.server_core.specs.Server.{ServerState}
use Rattle.tick_core.specs.Game.{GameState}
use Rattle.c_objects.specs.declared.kept.Kept.{Kept}
use Rattle.c_objects.specs.declared.kept.Kept.TheVariants.{Setup, World, Peer, Server}

abbrev pub peer_in : Option Kept → Option (PeerState GameState)
peer_in None = None
peer_in (Some (Setup stage)) = None
peer_in (Some (World game)) = None
peer_in (Some (Peer peer)) = Some peer
peer_in (Some (Server server)) = None

-- The same, with what becomes of the peer in its place.
abbrev pub with_peer :
    Option Kept → (PeerState GameState → PeerState GameState) → Option Kept
with_peer None after = None
with_peer (Some (Setup stage)) after = Some (Setup stage)
with_peer (Some (World game)) after = Some (World game)
with_peer (Some (Peer peer)) after = Some (Peer (after peer))
with_peer (Some (Server server)) after = Some (Server server)

abbrev pub server_in : Option Kept → Option (ServerState GameState)
server_in None = None
server_in (Some (Setup stage)) = None
server_in (Some (World game)) = None
server_in (Some (Peer peer)) = None
server_in (Some (Server server)) = Some server

-- The same, with what becomes of the server in its place.
abbrev pub with_server :
    Option Kept → (ServerState GameState → ServerState GameState) → Option Kept
with_server None after = None
with_server (Some (Setup stage)) after = Some (Setup stage)
with_server (Some (World game)) after = Some (World game)
with_server (Some (Peer peer)) after = Some (Peer peer)
with_server (Some (Server server)) after = Some (Server (after server))
