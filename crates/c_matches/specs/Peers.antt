-- What the calls of a peer answer, of what the objects hold.
use Rattle.std.specs.Prelude.{ℕ, nat_lt, if◌then◌else◌, List, Option, None, Some, Result, Ok, Err}
use Rattle.game_orders.specs.declared.entry.Entry as entries
use Rattle.game_orders.specs.declared.order.Order.{Order}
use Rattle.frame_core.specs.Tick.{tick_answer}
use Rattle.order_packets.specs.declared.down.Down.{Down}
use Rattle.order_packets.specs.declared.down.Down.TheVariants.{Welcome, Refused, Entry}
use Rattle.order_packets.specs.declared.up.Up.TheVariants as up
use Rattle.order_packets.specs.PacketBytes.{up_bytes}
use Rattle.peer_core.specs.declared.receipt.Receipt.{Receipt}
use Rattle.peer_core.specs.declared.receipt.Receipt.TheVariants as receipt
use Rattle.peer_core.specs.declared.report.Report.{Report}
use Rattle.peer_core.specs.declared.seal_fault.SealFault.{SealFault}
use Rattle.peer_core.specs.declared.seal_fault.SealFault.TheVariants as fault
use Rattle.peer_core.specs.Arrived.{ready_by}
use Rattle.peer_core.specs.Delivery.{delivery_of}
use Rattle.peer_core.specs.Peer.{PeerState, fresh_peer, delivered_peer, seal_answer, sealed_peer}
use Rattle.peer_core.specs.Peer.{ticked_peer, report_of}
use Rattle.peer_core.specs.Receipt.{receipt_of}
use Rattle.setup_files.specs.declared.making.Made.{Made}
use Rattle.tick_core.specs.Game.{GameState, game_start, game_after, game_hash}
use Rattle.c_objects.specs.declared.code.TheConstants as code
use Rattle.c_objects.specs.declared.kept.Kept.{Kept}
use Rattle.c_objects.specs.declared.kept.Kept.TheVariants as kept
use Rattle.c_worlds.specs.Held.{made_in}
use Rattle.c_matches.specs.declared.answer.Answer.{Answer}
use Rattle.c_matches.specs.declared.terms.CTerms.{CTerms}
use Rattle.c_matches.specs.declared.terms.Terms.{Terms}
use Rattle.c_matches.specs.Answers.{only, telling, answer_by}
use Rattle.c_matches.specs.Held.{peer_in, with_peer}
use Rattle.c_matches.specs.Packets.{down_in}
use Rattle.c_matches.specs.Terms.{terms_in}
use Rattle.c_matches.specs.Ticks.{ticked_answer}

-- A peer of the game.
abbrev pub GamePeer : Type 0
GamePeer = PeerState GameState

-- ---- making one

abbrev pub code_by : Option Terms → ℕ
code_by None = code.BAD_ARGUMENT
code_by (Some terms) = code.OK

abbrev pub code_with : Option Made → CTerms → ℕ
code_with None terms = code.WRONG_OBJECT
code_with (Some made) terms = code_by (terms_in terms)

abbrev pub create_code : (object setup : Option Kept) → CTerms → ℕ
create_code None setup terms = code_with (made_in setup) terms
create_code (Some held) setup terms = code.WRONG_OBJECT

-- The peer before its first call, over the opening world.
abbrev pub opening_peer : Made → Terms → GamePeer
opening_peer made terms =
    fresh_peer terms.me terms.clients terms.lag (game_start made.maker terms.seed terms.clients)

abbrev pub made_by : Made → Option Terms → Option Kept
made_by made None = None
made_by made (Some terms) = Some (kept.Peer (opening_peer made terms))

abbrev pub made_with : Option Made → CTerms → Option Kept
made_with None terms = None
made_with (Some made) terms = made_by made (terms_in terms)

abbrev pub created : (object setup : Option Kept) → CTerms → Option Kept
created None setup terms = made_with (made_in setup) terms
created (Some held) setup terms = Some held

-- ---- delivering a packet

abbrev pub receipt_answer : Receipt → Answer
receipt_answer receipt.Kept = only code.OK
receipt_answer receipt.Repeat = only code.REPEAT
receipt_answer receipt.Conflict = only code.CONFLICT
receipt_answer (receipt.Past frame) = telling code.PAST frame
receipt_answer receipt.Beyond = only code.NO_FRAME

abbrev pub entry_answer : (client frame : ℕ) → entries.Entry → GamePeer → Answer
entry_answer client frame entry peer =
    if nat_lt client peer.clients
    then receipt_answer (receipt_of (delivery_of peer.arrived client frame entry))
    else only code.BAD_BYTES

abbrev pub entry_delivered : (client frame : ℕ) → entries.Entry → GamePeer → GamePeer
entry_delivered client frame entry peer =
    if nat_lt client peer.clients then delivered_peer peer client frame entry else peer

abbrev pub down_answer : Option Down → GamePeer → Answer
down_answer None peer = only code.BAD_BYTES
down_answer (Some (Welcome client clients lag seed)) peer = only code.IGNORED
down_answer (Some (Refused number)) peer = only code.IGNORED
down_answer (Some (Entry client frame entry)) peer = entry_answer client frame entry peer

abbrev pub down_delivered : Option Down → GamePeer → GamePeer
down_delivered None peer = peer
down_delivered (Some (Welcome client clients lag seed)) peer = peer
down_delivered (Some (Refused number)) peer = peer
down_delivered (Some (Entry client frame entry)) peer = entry_delivered client frame entry peer

abbrev pub deliver_answer : (bytes : List ℕ) → Option Kept → Answer
deliver_answer bytes object = answer_by (peer_in object) (down_answer (down_in bytes))

abbrev pub delivered : (bytes : List ℕ) → Option Kept → Option Kept
delivered bytes object = with_peer object (down_delivered (down_in bytes))

-- ---- ticking it

abbrev pub peer_tick_answer : GamePeer → Answer
peer_tick_answer peer =
    ticked_answer (tick_answer (ready_by peer.arrived peer.clients peer.ticked) peer.ticked)

abbrev pub tick_answer_of : Option Kept → Answer
tick_answer_of object = answer_by (peer_in object) peer_tick_answer

abbrev pub ticked : Option Kept → Option Kept
ticked object = with_peer object (ticked_peer game_after)

-- ---- sealing a frame

abbrev pub seal_code : SealFault → ℕ
seal_code fault.TooEarly = code.TOO_EARLY
seal_code fault.LeftAlready = code.LEFT
seal_code fault.MatchFull = code.FULL

-- The packet of the sealed frame.
abbrev pub seal_bytes : List Order → Result ℕ SealFault → Result (List ℕ) ℕ
seal_bytes orders (Ok frame) = Ok (up_bytes (up.Orders frame orders))
seal_bytes orders (Err refused) = Err (seal_code refused)

-- Of no play.
abbrev pub seal_told : Option (List Order) → GamePeer → Result (List ℕ) ℕ
seal_told None peer = Err code.BAD_BYTES
seal_told (Some orders) peer =
    seal_bytes orders (seal_answer peer.arrived peer.me peer.lag peer.ticked peer.sealed)

abbrev pub sealed : Option (List Order) → GamePeer → GamePeer
sealed None peer = peer
sealed (Some orders) peer = sealed_peer peer

-- ---- reporting

abbrev pub report_bytes : Option Report → Result (List ℕ) ℕ
report_bytes None = Err code.NONE
report_bytes (Some report) = Ok (up_bytes (up.Sync report.frame report.hash))

abbrev pub report_told : GamePeer → Result (List ℕ) ℕ
report_told peer = report_bytes (report_of game_hash peer)
