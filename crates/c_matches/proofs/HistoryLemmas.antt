-- What stays so of a peer and of a server by each call.
use Rattle.std.proofs.Common.{◌≡◌, ℕ, List, [], ◌∷◌, Bool, true, false, Option, Some, None, length, refl}
use Rattle.std.specs.Prelude.{nat_lt, if◌then◌else◌}
use Rattle.std.specs.List.{AllByRecursion}
use Rattle.game_orders.specs.declared.entry.Entry as entries
use Rattle.game_orders.specs.declared.order.Order.{Order}
use Rattle.frame_core.specs.Column.{Column, entry_at, column_of}
use Rattle.order_packets.specs.declared.down.Down.{Down}
use Rattle.order_packets.specs.declared.down.Down.TheVariants.{Welcome, Refused, Entry}
use Rattle.order_packets.specs.declared.up.Up.{Up}
use Rattle.peer_core.specs.Faithful.{IsFaithful}
use Rattle.peer_core.proofs.FaithfulLemmas.{fresh_faithful, deliver_faithful, seal_faithful, tick_faithful}
use Rattle.peer_core.specs.Peer.{delivered_peer}
use Rattle.server_core.specs.Server.{after_drop}
use Rattle.server_core.specs.Served.{IsServed}
use Rattle.server_core.proofs.ServedLemmas.{fresh_is_served, packet_is_served, drop_is_served, tick_is_served}
use Rattle.setup_files.specs.declared.making.Made.{Made}
use Rattle.tick_core.specs.Game.{GameState, game_start, game_after}
use Rattle.c_matches.specs.Histories.{PeerCall, Deliver, Seal, Tick, peer_after, peer_after_all, IsAgreed, PeersAgree}
use Rattle.c_matches.specs.Histories.{ServerCall, Take, Drop, TickServer, server_after, server_after_all, match_of, ServersAgree}
use Rattle.c_matches.specs.Packets.{down_in, orders_in, up_in}
use Rattle.c_matches.specs.Peers.{GamePeer, opening_peer, down_delivered, sealed}
use Rattle.c_matches.specs.Servers.{GameServer, fresh_of, packet_taken}

-- Faithful, and of so many clients.
abbrev pub Stays : GameState → List Column → GamePeer → Type 0
Stays start columns peer = IsFaithful game_after start columns peer × (length columns ≡ peer.clients)

entry_stays : (start : GameState) (columns : List Column) (peer : GamePeer) (c n : ℕ) (entry : entries.Entry) (inside : Bool) →
    entry_at (column_of columns c) n ≡ Some entry → Stays start columns peer →
    Stays start columns (if inside then delivered_peer peer c n entry else peer)
entry_stays start columns peer c n entry true stands stays =
    (deliver_faithful game_after start columns peer c n entry stands stays.0, stays.1)
entry_stays start columns peer c n entry false stands stays = stays

down_stays : (start : GameState) (columns : List Column) (peer : GamePeer) (down : Option Down) →
    ((c n : ℕ) (entry : entries.Entry) → down ≡ Some (Entry c n entry) → entry_at (column_of columns c) n ≡ Some entry) →
    Stays start columns peer → Stays start columns (down_delivered down peer)
down_stays start columns peer None agreed stays = stays
down_stays start columns peer (Some (Welcome client clients lag seed)) agreed stays = stays
down_stays start columns peer (Some (Refused code)) agreed stays = stays
down_stays start columns peer (Some (Entry c n entry)) agreed stays =
    entry_stays start columns peer c n entry (nat_lt c peer.clients) (agreed c n entry refl) stays

sealed_stays : (start : GameState) (columns : List Column) (peer : GamePeer) (play : Option (List Order)) →
    Stays start columns peer → Stays start columns (sealed play peer)
sealed_stays start columns peer None stays = stays
sealed_stays start columns peer (Some orders) stays = (seal_faithful game_after start columns peer stays.0, stays.1)

call_stays : (start : GameState) (columns : List Column) (peer : GamePeer) (call : PeerCall) →
    IsAgreed columns call → Stays start columns peer → Stays start columns (peer_after call peer)
call_stays start columns peer (Deliver bytes) agreed stays = down_stays start columns peer (down_in bytes) agreed stays
call_stays start columns peer (Seal bytes) agreed stays = sealed_stays start columns peer (orders_in bytes) stays
call_stays start columns peer Tick agreed stays = (tick_faithful game_after start columns peer stays.1 stays.0, stays.1)

all_stay : (start : GameState) (columns : List Column) (calls : List PeerCall) (peer : GamePeer) →
    AllByRecursion (IsAgreed columns) calls → Stays start columns peer → Stays start columns (peer_after_all calls peer)
all_stay start columns [] peer agreed stays = stays
all_stay start columns (call ∷ calls) peer agreed stays =
    all_stay start columns calls (peer_after call peer) agreed.1 (call_stays start columns peer call agreed.0 stays)

pub peers_agree : PeersAgree
peers_agree made terms columns calls whole agreed =
    let start = game_start made.maker terms.seed terms.clients in
    (all_stay start columns calls (opening_peer made terms) agreed
    (fresh_faithful game_after start columns terms.me terms.clients terms.lag, whole)).0

up_served : (made : Made) (clients seed lag c : ℕ) (packet : Option Up) (server : GameServer) (inside : Bool) →
    IsServed (match_of made clients seed lag) server →
    IsServed (match_of made clients seed lag) (if inside then packet_taken c packet server else server)
up_served made clients seed lag c None server true served = served
up_served made clients seed lag c (Some packet) server true served = packet_is_served (match_of made clients seed lag) server c packet served
up_served made clients seed lag c packet server false served = served

drop_served : (made : Made) (clients seed lag c : ℕ) (server : GameServer) (inside : Bool) →
    IsServed (match_of made clients seed lag) server →
    IsServed (match_of made clients seed lag) (if inside then after_drop server c else server)
drop_served made clients seed lag c server true served = drop_is_served (match_of made clients seed lag) server c served
drop_served made clients seed lag c server false served = served

server_stays : (made : Made) (clients seed lag : ℕ) (call : ServerCall) (server : GameServer) →
    IsServed (match_of made clients seed lag) server → IsServed (match_of made clients seed lag) (server_after call server)
server_stays made clients seed lag (Take c bytes) server served = up_served made clients seed lag c (up_in bytes) server (nat_lt c (length server.columns)) served
server_stays made clients seed lag (Drop c) server served = drop_served made clients seed lag c server (nat_lt c (length server.columns)) served
server_stays made clients seed lag TickServer server served = tick_is_served (match_of made clients seed lag) server served

servers_stay : (made : Made) (clients seed lag : ℕ) (calls : List ServerCall) (server : GameServer) →
    IsServed (match_of made clients seed lag) server → IsServed (match_of made clients seed lag) (server_after_all calls server)
servers_stay made clients seed lag [] server served = served
servers_stay made clients seed lag (call ∷ calls) server served =
    servers_stay made clients seed lag calls (server_after call server) (server_stays made clients seed lag call server served)

pub servers_agree : ServersAgree
servers_agree made clients seed lag calls =
    servers_stay made clients seed lag calls (fresh_of made clients seed) (fresh_is_served (match_of made clients seed lag) clients)
