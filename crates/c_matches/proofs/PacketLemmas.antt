-- The lengths of packets, and what stands behind them.
use Rattle.std.proofs.Common.{arith, ◌≡◌, ◌≢◌, ◌≤◌, ℕ, zero, suc, List, [], ◌∷◌, ◌++◌, length, drop, Option, None, Some, Ok, refl, ap, subst}
use Rattle.std.proofs.lemmas.List.{length-append}
use Rattle.wire_bytes.specs.Field.{field_bytes}
use Rattle.wire_bytes.proofs.FieldLemmas.{field_length}
use Rattle.game_orders.specs.declared.entry.Entry.TheVariants.{Play, Leave}
use Rattle.game_orders.specs.OrderBytes.{orders_bytes}
use Rattle.game_orders.specs.declared.order.Order.{Order}
use Rattle.game_orders.specs.declared.limits.TheConstants.{MAX_ORDERS}
use Rattle.game_orders.proofs.OrdersLemmas.{orders_are_short}
use Rattle.replay_file.specs.PartBytes.{entry_bytes}
use Rattle.order_packets.specs.declared.down.Down.{Down}
use Rattle.order_packets.specs.declared.down.Down.TheVariants.{Welcome, Refused, Entry}
use Rattle.order_packets.specs.declared.up.Up.{Up}
use Rattle.order_packets.specs.declared.up.Up.TheVariants.{Hello, Orders, Sync, Bye}
use Rattle.order_packets.specs.PacketBytes.{up_payload, down_payload, framed, up_bytes, down_bytes, FitsUp, FitsDown}
use Rattle.order_packets.specs.First.{GivesFirst}
use Rattle.order_packets.specs.PacketReading.{FirstPacket}
use Rattle.c_matches.specs.Packets.{alone}

short_framed : (payload : List ℕ) → length payload ≤ 256 → length (framed payload) ≤ 260
unfolding framed
short_framed payload few =
    omega (arith, length-append (field_bytes 2 (length payload)) payload, field_length 2 (length payload), few)

short_up_payload : (packet : Up) → FitsUp packet → length (up_payload packet) ≤ 256
unfolding up_payload
short_up_payload (Hello version rules) fits =
    let inner = length-append (field_bytes 2 version) (field_bytes 8 rules) in
    let outer = length-append (field_bytes 1 1) (field_bytes 2 version ++ field_bytes 8 rules) in
    omega (arith, inner, outer, field_length 1 1, field_length 2 version, field_length 8 rules)
short_up_payload (Orders frame orders) fits =
    let inner = length-append (field_bytes 4 frame) (orders_bytes orders) in
    let outer = length-append (field_bytes 1 2) (field_bytes 4 frame ++ orders_bytes orders) in
    omega (arith, inner, outer, field_length 1 2, field_length 4 frame, orders_are_short orders fits.1.0)
short_up_payload (Sync frame hash) fits =
    let inner = length-append (field_bytes 4 frame) (field_bytes 8 hash) in
    let outer = length-append (field_bytes 1 3) (field_bytes 4 frame ++ field_bytes 8 hash) in
    omega (arith, inner, outer, field_length 1 3, field_length 4 frame, field_length 8 hash)
short_up_payload Bye fits = omega (arith, field_length 1 4)

-- A packet to the server has room.
pub short_up : (packet : Up) → FitsUp packet → length (up_bytes packet) ≤ 260
short_up packet fits = short_framed (up_payload packet) (short_up_payload packet fits)

short_down_payload : (packet : Down) → FitsDown packet → length (down_payload packet) ≤ 256
unfolding down_payload
short_down_payload (Welcome client clients lag seed) fits =
    let c = field_bytes 1 client in
    let n = field_bytes 1 clients in
    let l = field_bytes 1 lag in
    let s = field_bytes 4 seed in
    let whole = length-append (field_bytes 1 17) (c ++ n ++ l ++ s) in
    omega (
      arith,
      whole,
      length-append (c ++ n ++ l) s,
      length-append (c ++ n) l,
      length-append c n,
      field_length 1 17,
      field_length 1 client,
      field_length 1 clients,
      field_length 1 lag,
      field_length 4 seed,
    )
short_down_payload (Refused code) fits =
    omega (arith, length-append (field_bytes 1 18) (field_bytes 1 code), field_length 1 18, field_length 1 code)
short_down_payload (Entry client frame (Play orders)) fits =
    let c = field_bytes 1 client in
    let f = field_bytes 4 frame in
    let whole = length-append (field_bytes 1 19) (c ++ f ++ orders_bytes orders) in
    omega (
      arith,
      whole,
      length-append (c ++ f) (orders_bytes orders),
      length-append c f,
      field_length 1 19,
      field_length 1 client,
      field_length 4 frame,
      orders_are_short orders fits.2.0,
    )
short_down_payload (Entry client frame Leave) fits =
    let c = field_bytes 1 client in
    let f = field_bytes 4 frame in
    omega (arith, length-append (field_bytes 1 20) (c ++ f), length-append c f, field_length 1 20, field_length 1 client, field_length 4 frame)

-- A packet to a client has room.
pub short_down : (packet : Down) → FitsDown packet → length (down_bytes packet) ≤ 260
short_down packet fits = short_framed (down_payload packet) (short_down_payload packet fits)

-- A play has room.
pub short_play : (orders : List Order) → length orders ≤ MAX_ORDERS → length (entry_bytes (Play orders)) ≤ 164
short_play orders few =
    omega (arith, length-append (field_bytes 1 1) (orders_bytes orders), field_length 1 1, orders_are_short orders few)

nothing_left : {A : Type 0} (xs : List A) (n : ℕ) → n ≡ length xs → drop n xs ≡ []
nothing_left [] zero all = refl
nothing_left [] (suc n) all = refl
nothing_left (x ∷ xs) zero all = absurd (omega arith)
nothing_left (x ∷ xs) (suc n) all = nothing_left xs n (omega arith)

-- A packet that takes all bytes stands alone.
pub all_taken : {P : Type 0} (first : FirstPacket P) (bytes : List ℕ) (found : Option (P × ℕ)) (packet : P) (taken : ℕ) →
    found ≡ Some (packet, taken) → GivesFirst bytes (Ok found) first → taken ≡ length bytes → Some packet ≡ alone first
unfolding alone
all_taken first bytes found packet taken same reads all =
    let read = subst (λ it. GivesFirst bytes (Ok it) first) same reads in rw (read.0, nothing_left bytes taken all) refl

-- What stands behind the first n elements, where there are more.
record LeftOver {A : Type 0} (xs : List A) (n : ℕ) : Type 0 where
  pub first : A
  pub more : List A
  pub is : drop n xs ≡ first ∷ more

left_over : {A : Type 0} (xs : List A) (n : ℕ) → n ≤ length xs → n ≢ length xs → LeftOver xs n
left_over [] zero most other = absurd (other refl)
left_over [] (suc n) most other = absurd (omega arith)
left_over (x ∷ xs) zero most other = record { first = x; more = xs; is = refl }
left_over (x ∷ xs) (suc n) most other =
    let rest = left_over xs n (omega arith) (λ same. other (ap suc same)) in record { first = rest.first; more = rest.more; is = rest.is }

-- A packet that leaves bytes doesn't stand alone.
pub some_left : {P : Type 0} (first : FirstPacket P) (bytes : List ℕ) (found : Option (P × ℕ)) (packet : P) (taken : ℕ) →
    found ≡ Some (packet, taken) → GivesFirst bytes (Ok found) first → taken ≢ length bytes → None ≡ alone first
unfolding alone
some_left first bytes found packet taken same reads other =
    let read = subst (λ it. GivesFirst bytes (Ok it) first) same reads in
    let rest = left_over bytes taken read.1 other in rw (read.0, rest.is) refl
