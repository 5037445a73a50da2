-- What becomes of a peer, and of a server, by calls one after the other.
use Rattle.std.specs.Prelude.{◌≡◌, ℕ, zero, suc, ◌<◌, ◌≤◌, List, [], ◌∷◌, Some, length}
use Rattle.std.specs.List.{AllByRecursion}
use Rattle.game_orders.specs.declared.entry.Entry as entries
use Rattle.game_orders.specs.declared.limits.TheConstants.{MAX_FRAMES}
use Rattle.frame_core.specs.Column.{Column, entry_at, column_of}
use Rattle.frame_core.specs.Match.{Match}
use Rattle.frame_core.specs.Ready.{frame_at}
use Rattle.order_packets.specs.declared.down.Down.TheVariants.{Entry}
use Rattle.peer_core.specs.Faithful.{IsFaithful}
use Rattle.peer_core.specs.Peer.{ticked_peer}
use Rattle.replay_file.specs.PartBytes.{FitsEntry, entries_bytes}
use Rattle.server_core.specs.Served.{IsServed, marks_by}
use Rattle.server_core.specs.Server.{after_tick}
use Rattle.setup_files.specs.declared.making.Made.{Made}
use Rattle.tick_core.specs.Game.{GameState, game_start, game_after, game_hash}
use Rattle.tick_core.specs.Game.{game_summary}
use Rattle.c_objects.specs.declared.code.TheConstants.{OK}
use Rattle.c_worlds.specs.Worlds.{game_code, game_stepped}
use Rattle.c_matches.specs.declared.terms.Terms.{Terms}
use Rattle.c_matches.specs.Packets.{down_in, orders_in, up_in}
use Rattle.c_matches.specs.Peers.{GamePeer, opening_peer, down_delivered, sealed}
use Rattle.c_matches.specs.Servers.{GameServer, fresh_of, up_after, drop_after}

-- A call that may change a peer.
pub data PeerCall : Type 0 where
  Deliver : (bytes : List ℕ) → PeerCall
  Seal : (bytes : List ℕ) → PeerCall
  Tick : PeerCall

abbrev pub peer_after : PeerCall → GamePeer → GamePeer
peer_after (Deliver bytes) peer = down_delivered (down_in bytes) peer
peer_after (Seal bytes) peer = sealed (orders_in bytes) peer
peer_after Tick peer = ticked_peer game_after peer

abbrev pub peer_after_all : List PeerCall → GamePeer → GamePeer
peer_after_all [] peer = peer
peer_after_all (call ∷ calls) peer = peer_after_all calls (peer_after call peer)

-- An entry that is delivered stands in the columns.
abbrev pub IsAgreed : List Column → PeerCall → Type 0
IsAgreed columns (Deliver bytes) =
    (client frame : ℕ) (entry : entries.Entry) → down_in bytes ≡ Some (Entry client frame entry) →
    entry_at (column_of columns client) frame ≡ Some entry
IsAgreed columns (Seal bytes) = Unit {0}
IsAgreed columns Tick = Unit {0}

-- A peer to which only entries of these columns were delivered holds their agreed world of the frames
-- that it ticked.
abbrev pub PeersAgree : Type 0
PeersAgree =
    (made : Made) (terms : Terms) (columns : List Column) (calls : List PeerCall) →
    length columns ≡ terms.clients → AllByRecursion (IsAgreed columns) calls →
    IsFaithful game_after (game_start made.maker terms.seed terms.clients) columns
    (peer_after_all calls (opening_peer made terms))

-- A call that may change a server.
pub data ServerCall : Type 0 where
  Take : (client : ℕ) (bytes : List ℕ) → ServerCall
  Drop : (client : ℕ) → ServerCall
  TickServer : ServerCall

abbrev pub server_after : ServerCall → GameServer → GameServer
server_after (Take client bytes) server = up_after client (up_in bytes) server
server_after (Drop client) server = drop_after client server
server_after TickServer server = after_tick game_after game_hash server

abbrev pub server_after_all : List ServerCall → GameServer → GameServer
server_after_all [] server = server
server_after_all (call ∷ calls) server = server_after_all calls (server_after call server)

-- The match of a setup, a seed and so many clients, of any lag.
abbrev pub match_of : Made → (clients seed lag : ℕ) → Match GameState
match_of made clients seed lag =
    record {
      start = game_start made.maker seed clients;
      after = game_after;
      hash = game_hash;
      summary = game_summary;
      clients = clients;
      lag = lag;
    }

-- A server holds the agreed world of its columns of the frames that it ticked, and its marks are the
-- hashes of the agreed worlds.
abbrev pub ServersAgree : Type 0
ServersAgree =
    (made : Made) (clients seed lag : ℕ) (calls : List ServerCall) →
    IsServed (match_of made clients seed lag) (server_after_all calls (fresh_of made clients seed))

-- The bytes of an agreed frame: of each client, by rising number, its play, or one byte 0.
abbrev pub bytes_at : List Column → ℕ → List ℕ
bytes_at columns n = entries_bytes (frame_at columns n)

-- The game after calls that step it by the bytes of the first n agreed frames, one after the other.
abbrev pub stepped_along : List Column → ℕ → GameState → GameState
stepped_along columns zero game = game
stepped_along columns (suc n) game =
    game_stepped (stepped_along columns n game) (bytes_at columns n)

-- Each of these calls answers OK; the game is then in the server's world; and after each of them its
-- hash is the server's mark.
pub record IsAlong (start : GameState) (server : GameServer) : Type 0 where
  pub codes :
      (k : ℕ) → k < server.ticked →
      game_code (stepped_along server.columns k start) (bytes_at server.columns k) ≡ OK
  pub world : stepped_along server.columns server.ticked start ≡ server.world
  pub marks :
      server.marks
      ≡ marks_by (λ k. game_hash (stepped_along server.columns k start)) server.ticked

-- The numbers of the first n agreed frames fit their fields, as those of all that code holds do.
abbrev pub FitFrames : List Column → ℕ → Type 0
FitFrames columns n = (k : ℕ) → k < n → AllByRecursion FitsEntry (frame_at columns k)

-- A world that is stepped by the server's frames has the server's hash.
abbrev pub WorldsFollow : Type 0
WorldsFollow =
    (made : Made) (clients seed : ℕ) (calls : List ServerCall) (server : GameServer) →
    server ≡ server_after_all calls (fresh_of made clients seed) → server.ticked ≤ MAX_FRAMES →
    FitFrames server.columns server.ticked →
    IsAlong (game_start made.maker seed clients) server
