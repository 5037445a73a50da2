-- What a packet's spelling reads as, whatever follows it.
use Rattle.std.specs.Prelude.{◌≡◌, ℕ, ◌+◌, ◌≤◌, nat_lt, false, List, [], ◌++◌, length}
use Rattle.std.specs.Prelude.{Some, Ok}
use Rattle.std.proofs.Common.{refl, sym, ap, ◌∙◌, arith, append_assoc}
use Rattle.std.proofs.lemmas.Bool.{le-ltb}
use Rattle.std.proofs.lemmas.List.{append-nil, length-append, take_at, drop_at}
use Rattle.wire_bytes.specs.Field.{field_bytes}
use Rattle.wire_bytes.proofs.FieldLemmas.{field_length}
use Rattle.wire_bytes.proofs.ReadLemmas.{written_is_read}
use Rattle.game_orders.specs.declared.order.Order.{Order}
use Rattle.game_orders.specs.declared.entry.Entry.TheVariants.{Play, Leave}
use Rattle.game_orders.specs.OrderBytes.{orders_bytes}
use Rattle.game_orders.proofs.OrdersLemmas.{orders_again, orders_are_short}
use Rattle.order_packets.specs.declared.limits.TheConstants.{MAX_PAYLOAD}
use Rattle.order_packets.specs.declared.up.Up.{Up}
use Rattle.order_packets.specs.declared.up.Up.TheVariants.{Hello, Orders, Sync, Bye}
use Rattle.order_packets.specs.declared.down.Down.{Down}
use Rattle.order_packets.specs.declared.down.Down.TheVariants.{Welcome, Refused, Entry}
use Rattle.order_packets.specs.PacketBytes.{up_payload, down_payload, framed, up_bytes, down_bytes}
use Rattle.order_packets.specs.PacketBytes.{FitsUp, FitsDown}
use Rattle.order_packets.specs.PacketReading.{PacketRead, hello_at, sealed_at, sync_at, up_fields}
use Rattle.order_packets.specs.PacketReading.{up_at, welcome_at, refused_at, play_at, leave_at}
use Rattle.order_packets.specs.PacketReading.{down_fields, down_at, payload_at, sized_at}
use Rattle.order_packets.specs.PacketReading.{FirstPacket, behind_length, packet_at}

pub joined_length : (first rest : List ℕ) → length (first ++ rest) ≡ length first + length rest
joined_length first rest = length-append first rest

pub ruleset sizes = (field_length, joined_length)

-- Parts in a row, and what follows them.
regroup_3 : (a b c rest : List ℕ) → a ++ (b ++ c) ++ rest ≡ a ++ (b ++ (c ++ rest))
regroup_3 a b c rest = simp append_assoc

regroup_4 : (a b c d rest : List ℕ) → a ++ (b ++ c ++ d) ++ rest ≡ a ++ (b ++ (c ++ (d ++ rest)))
regroup_4 a b c d rest = simp append_assoc

regroup_5 : (a b c d e rest : List ℕ) →
    a ++ (b ++ c ++ d ++ e) ++ rest ≡ a ++ (b ++ (c ++ (d ++ (e ++ rest))))
regroup_5 a b c d e rest = simp append_assoc

-- A payload behind its length.
framed_again :
    {P : Type 0} (at : List ℕ → PacketRead P) (payload : List ℕ) (packet : P) (rest : List ℕ) →
    length payload ≤ 256 → at payload ≡ Ok (packet, []) →
    packet_at at (framed payload ++ rest) ≡ Ok (Some (packet, rest))
unfolding packet_at sized_at payload_at framed
framed_again at payload packet rest short read =
    let small : nat_lt MAX_PAYLOAD (length payload) ≡ false =
    le-ltb MAX_PAYLOAD (length payload) short in
    let whole : nat_lt (length (payload ++ rest)) (length payload) ≡ false =
    le-ltb (length (payload ++ rest)) (length payload)
    (omega (arith, length-append payload rest)) in
    ap (packet_at at) (append_assoc (field_bytes 2 (length payload)) payload rest)
    ∙ ap (behind_length at)
    (written_is_read 2 (length payload) (payload ++ rest) (omega (arith, short)))
    ∙ rw (
      small,
      whole,
      take_at payload rest (length payload) refl,
      drop_at payload rest (length payload) refl,
      read,
    ) refl

hello_again :
    (version rules : ℕ) (rest : List ℕ) → FitsUp (Hello version rules) →
    hello_at (field_bytes 2 version ++ (field_bytes 8 rules ++ rest))
    ≡ Ok (Hello version rules, rest)
unfolding hello_at
hello_again version rules rest fits =
    rw (
      written_is_read 2 version (field_bytes 8 rules ++ rest) fits.0,
      written_is_read 8 rules rest fits.1,
    ) refl

sealed_again :
    (frame : ℕ) (orders : List Order) (rest : List ℕ) → FitsUp (Orders frame orders) →
    sealed_at (field_bytes 4 frame ++ (orders_bytes orders ++ rest))
    ≡ Ok (Orders frame orders, rest)
unfolding sealed_at
sealed_again frame orders rest fits =
    rw (
      written_is_read 4 frame (orders_bytes orders ++ rest) fits.0,
      orders_again orders rest fits.1,
    ) refl

sync_again :
    (frame hash : ℕ) (rest : List ℕ) → FitsUp (Sync frame hash) →
    sync_at (field_bytes 4 frame ++ (field_bytes 8 hash ++ rest)) ≡ Ok (Sync frame hash, rest)
unfolding sync_at
sync_again frame hash rest fits =
    rw (
      written_is_read 4 frame (field_bytes 8 hash ++ rest) fits.0,
      written_is_read 8 hash rest fits.1,
    ) refl

up_payload_again : (packet : Up) (rest : List ℕ) → FitsUp packet →
    up_at (up_payload packet ++ rest) ≡ Ok (packet, rest)
unfolding up_at up_fields up_payload
up_payload_again (Hello version rules) rest fits =
    let fields = field_bytes 2 version ++ (field_bytes 8 rules ++ rest) in
    ap up_at (regroup_3 (field_bytes 1 1) (field_bytes 2 version) (field_bytes 8 rules) rest)
    ∙ rw (written_is_read 1 1 fields (omega arith)) (hello_again version rules rest fits)
up_payload_again (Orders frame orders) rest fits =
    let fields = field_bytes 4 frame ++ (orders_bytes orders ++ rest) in
    ap up_at (regroup_3 (field_bytes 1 2) (field_bytes 4 frame) (orders_bytes orders) rest)
    ∙ rw (written_is_read 1 2 fields (omega arith)) (sealed_again frame orders rest fits)
up_payload_again (Sync frame hash) rest fits =
    let fields = field_bytes 4 frame ++ (field_bytes 8 hash ++ rest) in
    ap up_at (regroup_3 (field_bytes 1 3) (field_bytes 4 frame) (field_bytes 8 hash) rest)
    ∙ rw (written_is_read 1 3 fields (omega arith)) (sync_again frame hash rest fits)
up_payload_again Bye rest fits = rw (written_is_read 1 4 rest (omega arith)) refl

up_is_short : (packet : Up) → FitsUp packet → length (up_payload packet) ≤ 256
unfolding up_payload
up_is_short (Hello version rules) fits =
    let inner = length-append (field_bytes 2 version) (field_bytes 8 rules) in
    let outer = length-append (field_bytes 1 1) (field_bytes 2 version ++ field_bytes 8 rules) in
    omega (arith, inner, outer, field_length 1 1, field_length 2 version, field_length 8 rules)
up_is_short (Orders frame orders) fits =
    let inner = length-append (field_bytes 4 frame) (orders_bytes orders) in
    let outer = length-append (field_bytes 1 2) (field_bytes 4 frame ++ orders_bytes orders) in
    omega (
      arith,
      inner,
      outer,
      field_length 1 2,
      field_length 4 frame,
      orders_are_short orders fits.1.0,
    )
up_is_short (Sync frame hash) fits =
    let inner = length-append (field_bytes 4 frame) (field_bytes 8 hash) in
    let outer = length-append (field_bytes 1 3) (field_bytes 4 frame ++ field_bytes 8 hash) in
    omega (arith, inner, outer, field_length 1 3, field_length 4 frame, field_length 8 hash)
up_is_short Bye fits = omega (arith, field_length 1 4)

-- The spelling of a packet to the server reads as the packet, whatever follows it.
pub up_again : (packet : Up) (rest : List ℕ) → FitsUp packet →
    packet_at up_at (up_bytes packet ++ rest) ≡ Ok (Some (packet, rest))
up_again packet rest fits =
    framed_again up_at (up_payload packet) packet rest (up_is_short packet fits)
    (ap up_at (sym (append-nil (up_payload packet))) ∙ up_payload_again packet [] fits)

welcome_again :
    (client clients lag seed : ℕ) (rest : List ℕ) → FitsDown (Welcome client clients lag seed) →
    welcome_at (field_bytes 1 client ++ (field_bytes 1 clients ++ (field_bytes 1 lag
    ++ (field_bytes 4 seed ++ rest)))) ≡ Ok (Welcome client clients lag seed, rest)
unfolding welcome_at
welcome_again client clients lag seed rest fits =
    let after_lag = field_bytes 4 seed ++ rest in
    let after_clients = field_bytes 1 lag ++ after_lag in
    let after_client = field_bytes 1 clients ++ after_clients in
    rw (
      written_is_read 1 client after_client fits.0,
      written_is_read 1 clients after_clients fits.1,
      written_is_read 1 lag after_lag fits.2,
      written_is_read 4 seed rest fits.3,
    ) refl

refused_again : (code : ℕ) (rest : List ℕ) → FitsDown (Refused code) →
    refused_at (field_bytes 1 code ++ rest) ≡ Ok (Refused code, rest)
unfolding refused_at
refused_again code rest fits = rw (written_is_read 1 code rest fits) refl

play_again :
    (client frame : ℕ) (orders : List Order) (rest : List ℕ) →
    FitsDown (Entry client frame (Play orders)) →
    play_at (field_bytes 1 client ++ (field_bytes 4 frame ++ (orders_bytes orders ++ rest)))
    ≡ Ok (Entry client frame (Play orders), rest)
unfolding play_at
play_again client frame orders rest fits =
    let fields = orders_bytes orders ++ rest in
    rw (
      written_is_read 1 client (field_bytes 4 frame ++ fields) fits.0,
      written_is_read 4 frame fields fits.1,
      orders_again orders rest fits.2,
    ) refl

leave_again :
    (client frame : ℕ) (rest : List ℕ) → FitsDown (Entry client frame Leave) →
    leave_at (field_bytes 1 client ++ (field_bytes 4 frame ++ rest))
    ≡ Ok (Entry client frame Leave, rest)
unfolding leave_at
leave_again client frame rest fits =
    rw (
      written_is_read 1 client (field_bytes 4 frame ++ rest) fits.0,
      written_is_read 4 frame rest fits.1,
    ) refl

down_payload_again : (packet : Down) (rest : List ℕ) → FitsDown packet →
    down_at (down_payload packet ++ rest) ≡ Ok (packet, rest)
unfolding down_at down_fields down_payload
down_payload_again (Welcome client clients lag seed) rest fits =
    let fields = field_bytes 1 client ++ (field_bytes 1 clients ++ (field_bytes 1 lag
    ++ (field_bytes 4 seed ++ rest))) in
    ap down_at (regroup_5 (field_bytes 1 17) (field_bytes 1 client) (field_bytes 1 clients)
    (field_bytes 1 lag) (field_bytes 4 seed) rest)
    ∙ rw (written_is_read 1 17 fields (omega arith))
    (welcome_again client clients lag seed rest fits)
down_payload_again (Refused code) rest fits =
    ap down_at (append_assoc (field_bytes 1 18) (field_bytes 1 code) rest)
    ∙ rw (written_is_read 1 18 (field_bytes 1 code ++ rest) (omega arith))
    (refused_again code rest fits)
down_payload_again (Entry client frame (Play orders)) rest fits =
    let fields = field_bytes 1 client ++ (field_bytes 4 frame ++ (orders_bytes orders ++ rest)) in
    ap down_at (regroup_4 (field_bytes 1 19) (field_bytes 1 client) (field_bytes 4 frame)
    (orders_bytes orders) rest)
    ∙ rw (written_is_read 1 19 fields (omega arith)) (play_again client frame orders rest fits)
down_payload_again (Entry client frame Leave) rest fits =
    let fields = field_bytes 1 client ++ (field_bytes 4 frame ++ rest) in
    ap down_at (regroup_3 (field_bytes 1 20) (field_bytes 1 client) (field_bytes 4 frame) rest)
    ∙ rw (written_is_read 1 20 fields (omega arith)) (leave_again client frame rest fits)

down_is_short : (packet : Down) → FitsDown packet → length (down_payload packet) ≤ 256
unfolding down_payload
down_is_short (Welcome client clients lag seed) fits =
    let c = field_bytes 1 client in
    let cs = field_bytes 1 clients in
    let l = field_bytes 1 lag in
    let s = field_bytes 4 seed in
    omega (
      arith,
      length-append c cs,
      length-append (c ++ cs) l,
      length-append (c ++ cs ++ l) s,
      length-append (field_bytes 1 17) (c ++ cs ++ l ++ s),
      field_length 1 17,
      field_length 1 client,
      field_length 1 clients,
      field_length 1 lag,
      field_length 4 seed,
    )
down_is_short (Refused code) fits =
    omega (
      arith,
      length-append (field_bytes 1 18) (field_bytes 1 code),
      field_length 1 18,
      field_length 1 code,
    )
down_is_short (Entry client frame (Play orders)) fits =
    let c = field_bytes 1 client in
    let f = field_bytes 4 frame in
    omega (
      arith,
      length-append c f,
      length-append (c ++ f) (orders_bytes orders),
      length-append (field_bytes 1 19) (c ++ f ++ orders_bytes orders),
      field_length 1 19,
      field_length 1 client,
      field_length 4 frame,
      orders_are_short orders fits.2.0,
    )
down_is_short (Entry client frame Leave) fits =
    let c = field_bytes 1 client in
    let f = field_bytes 4 frame in
    omega (
      arith,
      length-append c f,
      length-append (field_bytes 1 20) (c ++ f),
      field_length 1 20,
      field_length 1 client,
      field_length 4 frame,
    )

-- The spelling of a packet to a client reads as the packet, whatever follows it.
pub down_again : (packet : Down) (rest : List ℕ) → FitsDown packet →
    packet_at down_at (down_bytes packet ++ rest) ≡ Ok (Some (packet, rest))
down_again packet rest fits =
    framed_again down_at (down_payload packet) packet rest (down_is_short packet fits)
    (ap down_at (sym (append-nil (down_payload packet))) ∙ down_payload_again packet [] fits)

-- One answer gives one packet.
pub same_first :
    {P : Type 0} (packet other : P) (rest more : List ℕ) (first : FirstPacket P) →
    first ≡ Ok (Some (packet, rest)) → first ≡ Ok (Some (other, more)) →
    (packet ≡ other) × (rest ≡ more)
same_first {P = P} packet other rest more first is also =
    let both : (packet, rest) ≡ (other, more) = cc in
    (ap (λ (pair : P × List ℕ). pair.0) both, ap (λ (pair : P × List ℕ). pair.1) both)

-- No spelling begins another.
pub up_alone :
    (packet other : Up) (rest more : List ℕ) → FitsUp packet → FitsUp other →
    up_bytes packet ++ rest ≡ up_bytes other ++ more → (packet ≡ other) × (rest ≡ more)
up_alone packet other rest more fits other_fits same =
    same_first packet other rest more (packet_at up_at (up_bytes packet ++ rest))
    (up_again packet rest fits) (ap (packet_at up_at) same ∙ up_again other more other_fits)

pub down_alone :
    (packet other : Down) (rest more : List ℕ) → FitsDown packet → FitsDown other →
    down_bytes packet ++ rest ≡ down_bytes other ++ more → (packet ≡ other) × (rest ≡ more)
down_alone packet other rest more fits other_fits same =
    same_first packet other rest more (packet_at down_at (down_bytes packet ++ rest))
    (down_again packet rest fits) (ap (packet_at down_at) same ∙ down_again other more other_fits)
