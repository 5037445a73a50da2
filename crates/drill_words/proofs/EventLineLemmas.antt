-- The canonical words of an order, an event and a match, read back.
use Rattle.std.proofs.Common.{◌≡◌, ℕ, zero, suc, ◌-◌, ◌^◌, ◌<◌, ◌≤◌, true, false, List}
use Rattle.std.proofs.Common.{[], ◌∷◌, ◌++◌}
use Rattle.std.proofs.Common.{length, cond, Ok, Err, refl, ap, ◌∙◌, arith}
use Rattle.std.specs.Prelude.{nat_lt, nat_le, Result, codes}
use Rattle.std.specs.List.{list_all, flat_map}
use Rattle.std.specs.Fmt.{decimal}
use Rattle.std.proofs.lemmas.Bool.{and_parts, and_from, ltb-true, leb-true}
use Rattle.std.proofs.lemmas.List.Folds.{list_all-append}
use Rattle.std.proofs.lemmas.Fmt.{decimal_nonempty}
use Rattle.base.specs.Lines.{has_bytes}
use Rattle.base.specs.Steps.{◌>>=◌}
use Rattle.world_units.specs.declared.cell.CPos.{CPos}
use Rattle.game_orders.specs.declared.order.Order.{Order}
use Rattle.game_orders.specs.declared.order.Order.TheVariants.{Move, Attack, Harvest, Stop}
use Rattle.game_orders.specs.declared.order.Order.TheVariants.{Produce, Cancel, Donate, Pace}
use Rattle.game_orders.specs.declared.limits.TheConstants.{MAX_CLIENTS, MAX_LAG, MAX_ORDERS}
use Rattle.drill_words.specs.declared.word_fault.WordFault.{WordFault}
use Rattle.drill_words.specs.declared.match_line.MatchLine.{MatchLine}
use Rattle.drill_words.specs.declared.event.Event.{Event}
use Rattle.drill_words.specs.declared.event.Event.TheVariants.{Seal, Up, Down, Tick, TickServer}
use Rattle.drill_words.specs.declared.event.Event.TheVariants.{DropClient, Report, Forge, Bye}
use Rattle.drill_words.specs.Hash.{hash_digits, hex_from}
use Rattle.drill_words.specs.declared.hash.TheConstants.{HASH_DIGITS}
use Rattle.drill_words.specs.KeptLine.{is_kept}
use Rattle.drill_words.specs.Read.{Read, after_word, number_at, client_of, client_at, hash_at}
use Rattle.drill_words.specs.Read.{none_left, at_end}
use Rattle.drill_words.specs.MatchLine.{match_line_of}
use Rattle.drill_words.specs.OrderList.{order_word, order_word_at, order_at, further_orders}
use Rattle.drill_words.specs.OrderList.{orders_from, orders_at, u32_at, u8_at, cell_at}
use Rattle.drill_words.specs.EventLine.{event_word, event_word_at, ticker_of, ticker_at, event_at}
use Rattle.drill_words.specs.EventLine.{event_of}
use Rattle.drill_words.specs.Event.{event_fits, cell_in_range, order_in_range}
use Rattle.drill_words.specs.Event.{event_in_range}
use Rattle.drill_words.specs.Text.{order_words, orders_words, event_words, match_words}
use Rattle.drill_words.proofs.ReadLemmas.{decimal_all, hex_all, hex_length, with_rest}
use Rattle.drill_words.proofs.ReadLemmas.{number_at-decimal, client_of-decimal, client_at-decimal}
use Rattle.drill_words.proofs.ReadLemmas.{decimal_not_server, hash_at-digits}
use Rattle.drill_words.proofs.SpacedLemmas.{is_word, is_word-from}

-- A number of 32 bits, and the number of a client.
number_back :
    (n : ℕ) (rest : List (List ℕ)) → nat_lt n (2 ^ 32)
    ≡ true → number_at 0 (2 ^ 32 - 1) (decimal n ∷ rest) ≡ Ok (n, rest)
number_back n rest fits =
    let low : n < 2 ^ 32 = ltb-true n (2 ^ 32) fits in
    number_at-decimal 0 (2 ^ 32 - 1) n rest (omega arith) (omega (arith, low)) (omega (arith, low))

pub client_back :
    (clients n : ℕ) (rest : List (List ℕ)) → clients ≤ MAX_CLIENTS → nat_lt n clients ≡ true →
    client_at clients (decimal n ∷ rest) ≡ Ok (n, rest)
client_back clients n rest few fits =
    let low : n < clients = ltb-true n clients fits in
    client_at-decimal clients n rest low (omega (arith, low, few))

-- Two steps one after the other are one step.
bind_assoc :
    {A B C : Type 0} (read : Read A) (f : (A × List (List ℕ)) → Read B)
    (g : (B × List (List ℕ)) → Read C) →
    (read >>= λ x. f x >>= g) ≡ ((read >>= f) >>= g)
bind_assoc (Ok value) f g = refl
bind_assoc (Err fault) f g = refl

-- An order, and the orders after it.
abbrev one_order : List (List ℕ) → Read Order
one_order words = order_word_at words >>= λ word. order_at word.0 word.1

abbrev with_order : Order → Read (List Order) → Read (List Order)
with_order order read = read >>= λ others. Ok (order ∷ others.0, others.1)

abbrev with_others : (List (List ℕ) → Read (List Order)) → (Order × List (List ℕ)) →
    Read (List Order)
with_others further order = with_order order.0 (further_orders further order.1)

orders_from-one :
    (room : ℕ) (words : List (List ℕ)) → orders_from (suc room) words
    ≡ (one_order words >>= with_others (orders_from room))
unfolding orders_from
orders_from-one room words =
    bind_assoc (order_word_at words) (λ word. order_at word.0 word.1)
    (with_others (orders_from room))

-- Numbers of 32 and 8 bits, and cells.
u32_back :
    (n : ℕ) (rest : List (List ℕ)) → nat_lt n (2 ^ 32) ≡ true →
    u32_at (decimal n ∷ rest) ≡ Ok (n, rest)
unfolding u32_at
u32_back n rest fits = number_back n rest fits

u8_back :
    (n : ℕ) (rest : List (List ℕ)) → nat_lt n (2 ^ 8) ≡ true →
    u8_at (decimal n ∷ rest) ≡ Ok (n, rest)
unfolding u8_at
u8_back n rest fits =
    let low : n < 2 ^ 8 = ltb-true n (2 ^ 8) fits in
    number_at-decimal 0 255 n rest (omega arith) (omega (arith, low)) (omega (arith, low))

u16_back :
    (n : ℕ) (rest : List (List ℕ)) → nat_lt n (2 ^ 16) ≡ true →
    number_at 0 65535 (decimal n ∷ rest) ≡ Ok (n, rest)
u16_back n rest fits =
    let low : n < 2 ^ 16 = ltb-true n (2 ^ 16) fits in
    number_at-decimal 0 65535 n rest (omega arith) (omega (arith, low)) (omega (arith, low))

abbrev cell_y : ℕ → Read ℕ → Read CPos
cell_y x read = read >>= λ y. Ok (record { x = x; y = y.0 }, y.1)

abbrev cell_x : Read ℕ → Read CPos
cell_x read = read >>= λ x. cell_y x.0 (u8_at x.1)

cell_back :
    (cell : CPos) (rest : List (List ℕ)) → cell_in_range cell ≡ true →
    cell_at (decimal cell.x ∷ decimal cell.y ∷ rest) ≡ Ok (cell, rest)
unfolding cell_at
cell_back cell rest fits =
    let parts = and_parts (nat_lt cell.x (2 ^ 8)) (nat_lt cell.y (2 ^ 8)) fits in
    ap cell_x (u8_back cell.x (decimal cell.y ∷ rest) parts.0)
    ∙ ap (cell_y cell.x) (u8_back cell.y rest parts.1)

-- The steps after the first word of an order.
abbrev as_order : {A : Type 0} → (A → Order) → Read A → Read Order
as_order make read = read >>= λ value. Ok (make value.0, value.1)

abbrev then_order :
    {A : Type 0} → (ℕ → A → Order) → (List (List ℕ) → Read A) → Read ℕ → Read Order
then_order make next read = read >>= λ first. as_order (make first.0) (next first.1)

order_back :
    (order : Order) (rest : List (List ℕ)) → order_in_range order ≡ true →
    one_order (order_words order ++ rest) ≡ Ok (order, rest)
unfolding order_word_at order_word order_at
order_back (Move actor cell true) rest fits =
    let make : ℕ → CPos → Order = λ a c. Move a c true in
    let parts = and_parts (nat_lt actor (2 ^ 32)) (cell_in_range cell) fits in
    ap (then_order make cell_at) (u32_back actor (decimal cell.x ∷ decimal cell.y ∷ rest) parts.0)
    ∙ ap (as_order (make actor)) (cell_back cell rest parts.1)
order_back (Move actor cell false) rest fits =
    let make : ℕ → CPos → Order = λ a c. Move a c false in
    let parts = and_parts (nat_lt actor (2 ^ 32)) (cell_in_range cell) fits in
    ap (then_order make cell_at) (u32_back actor (decimal cell.x ∷ decimal cell.y ∷ rest) parts.0)
    ∙ ap (as_order (make actor)) (cell_back cell rest parts.1)
order_back (Attack actor target true) rest fits =
    let make : ℕ → ℕ → Order = λ a b. Attack a b true in
    let parts = and_parts (nat_lt actor (2 ^ 32)) (nat_lt target (2 ^ 32)) fits in
    ap (then_order make u32_at) (u32_back actor (decimal target ∷ rest) parts.0)
    ∙ ap (as_order (make actor)) (u32_back target rest parts.1)
order_back (Attack actor target false) rest fits =
    let make : ℕ → ℕ → Order = λ a b. Attack a b false in
    let parts = and_parts (nat_lt actor (2 ^ 32)) (nat_lt target (2 ^ 32)) fits in
    ap (then_order make u32_at) (u32_back actor (decimal target ∷ rest) parts.0)
    ∙ ap (as_order (make actor)) (u32_back target rest parts.1)
order_back (Harvest actor cell true) rest fits =
    let make : ℕ → CPos → Order = λ a c. Harvest a c true in
    let parts = and_parts (nat_lt actor (2 ^ 32)) (cell_in_range cell) fits in
    ap (then_order make cell_at) (u32_back actor (decimal cell.x ∷ decimal cell.y ∷ rest) parts.0)
    ∙ ap (as_order (make actor)) (cell_back cell rest parts.1)
order_back (Harvest actor cell false) rest fits =
    let make : ℕ → CPos → Order = λ a c. Harvest a c false in
    let parts = and_parts (nat_lt actor (2 ^ 32)) (cell_in_range cell) fits in
    ap (then_order make cell_at) (u32_back actor (decimal cell.x ∷ decimal cell.y ∷ rest) parts.0)
    ∙ ap (as_order (make actor)) (cell_back cell rest parts.1)
order_back (Stop actor) rest fits = ap (as_order Stop) (u32_back actor rest fits)
order_back (Produce actor kind) rest fits =
    let parts = and_parts (nat_lt actor (2 ^ 32)) (nat_lt kind (2 ^ 16)) fits in
    ap (then_order Produce (number_at 0 65535)) (u32_back actor (decimal kind ∷ rest) parts.0)
    ∙ ap (as_order (Produce actor)) (u16_back kind rest parts.1)
order_back (Cancel actor) rest fits = ap (as_order Cancel) (u32_back actor rest fits)
order_back (Donate to amount) rest fits =
    let parts = and_parts (nat_lt to (2 ^ 8)) (nat_lt amount (2 ^ 32)) fits in
    ap (then_order Donate u32_at) (u8_back to (decimal amount ∷ rest) parts.0)
    ∙ ap (as_order (Donate to)) (u32_back amount rest parts.1)
order_back (Pace ticks) rest fits = ap (as_order Pace) (u8_back ticks rest fits)

orders_from-back :
    (order : Order) (orders : List Order) (room : ℕ) → length orders ≤ room →
    list_all order_in_range (order ∷ orders) ≡ true →
    orders_from (suc room) (orders_words (order ∷ orders)) ≡ Ok (order ∷ orders, [])
unfolding further_orders
orders_from-back order [] room few fits =
    let parts = and_parts (order_in_range order) (list_all order_in_range []) fits in
    orders_from-one room (order_words order ++ [])
    ∙ ap (λ (r : Read Order). r >>= with_others (orders_from room)) (order_back order [] parts.0)
orders_from-back order (next ∷ orders) zero few fits = absurd (omega (arith, few))
orders_from-back order (next ∷ orders) (suc room) few fits =
    let parts = and_parts (order_in_range order) (list_all order_in_range (next ∷ orders)) fits in
    let rest : List (List ℕ) = codes ";" ∷ orders_words (next ∷ orders) in
    orders_from-one (suc room) (order_words order ++ rest)
    ∙ ap (λ (r : Read Order). r >>= with_others (orders_from (suc room)))
    (order_back order rest parts.0)
    ∙ ap (with_order order) (orders_from-back next orders room (omega (arith, few)) parts.1)

-- Where no word is left, there are no orders.
pub orders_at-done :
    (words : List (List ℕ)) → none_left words ≡ true → orders_at words ≡ Ok ([], words)
unfolding orders_at
orders_at-done words done =
    ap (λ b. cond b (Ok ([], words)) (orders_from MAX_ORDERS words)) done

-- Where a word is left, orders are.
pub orders_at-some :
    (words : List (List ℕ)) → none_left words ≡ false → orders_at words
    ≡ orders_from MAX_ORDERS words
unfolding orders_at
orders_at-some words some = ap (λ b. cond b (Ok ([], words)) (orders_from MAX_ORDERS words)) some

-- An order has words.
order_words-some : (order : Order) (rest : List (List ℕ)) → none_left (order_words order ++ rest)
    ≡ false
order_words-some (Move actor cell queued) rest = refl
order_words-some (Attack actor target queued) rest = refl
order_words-some (Harvest actor cell queued) rest = refl
order_words-some (Stop actor) rest = refl
order_words-some (Produce actor kind) rest = refl
order_words-some (Cancel actor) rest = refl
order_words-some (Donate to amount) rest = refl
order_words-some (Pace ticks) rest = refl

pub orders_back :
    (orders : List Order) → length orders ≤ MAX_ORDERS → list_all order_in_range orders ≡ true →
    orders_at (orders_words orders) ≡ Ok (orders, [])
unfolding orders_at
orders_back [] few fits = refl
orders_back (order ∷ orders) few fits =
    orders_at-some (orders_words (order ∷ orders))
    (order_words-some order (flat_map (λ next. codes ";" ∷ order_words next) orders))
    ∙ orders_from-back order orders (MAX_ORDERS - 1) (omega (arith, few)) fits

-- The steps after the first word of an event.
abbrev ended : Read Event → Result Event WordFault
ended read = read >>= λ event. at_end event.0 event.1

abbrev as_event : (ℕ → Event) → Read ℕ → Read Event
as_event make read = read >>= λ value. Ok (make value.0, value.1)

abbrev seal_orders : ℕ → Read (List Order) → Read Event
seal_orders peer read = read >>= λ orders. Ok (Seal peer orders.0, orders.1)

abbrev seal_peer : Read ℕ → Read Event
seal_peer read = read >>= λ peer. seal_orders peer.0 (orders_at peer.1)

abbrev down_client : ℕ → Read ℕ → Read Event
down_client peer read =
    read >>= λ client. as_event (Down peer client.0) (number_at 0 (2 ^ 32 - 1) client.1)

abbrev down_peer : ℕ → Read ℕ → Read Event
down_peer clients read = read >>= λ peer. down_client peer.0 (client_at clients peer.1)

abbrev forge_frame : ℕ → Read ℕ → Read Event
forge_frame client read = read >>= λ frame. as_event (Forge client frame.0) (hash_at frame.1)

abbrev forge_client : Read ℕ → Read Event
forge_client read = read >>= λ client. forge_frame client.0 (number_at 0 (2 ^ 32 - 1) client.1)

abbrev tick_peer : Result ℕ WordFault → Result Event WordFault
tick_peer read = read >>= λ peer. Ok (Tick peer)

ticker_back :
    (clients peer : ℕ) → clients ≤ MAX_CLIENTS → nat_lt peer clients
    ≡ true → ticker_of clients (decimal peer) ≡ Ok (Tick peer)
ticker_back clients peer few fits =
    let low : peer < clients = ltb-true peer clients fits in
    ap (λ b. cond b (Ok TickServer) (tick_peer (client_of clients (decimal peer))))
    (decimal_not_server peer (omega (arith, low, few)))
    ∙ ap tick_peer (client_of-decimal clients peer low (omega (arith, low, few)))

-- The canonical words of an event are read as this event.
pub event_back :
    (clients : ℕ) (event : Event) → clients ≤ MAX_CLIENTS → event_fits clients event
    ≡ true → event_in_range event ≡ true →
    event_of clients (event_words event) ≡ Ok event
unfolding event_of event_word_at event_word event_at ticker_at
event_back clients (Seal peer orders) few fits range =
    let parts =
    and_parts (nat_le (length orders) MAX_ORDERS) (list_all order_in_range orders) range in
    ap (λ r. ended (seal_peer r)) (client_back clients peer (orders_words orders) few fits)
    ∙ ap (λ r. ended (seal_orders peer r))
    (orders_back orders (leb-true (length orders) MAX_ORDERS parts.0) parts.1)
event_back clients (Up packet) few fits range =
    ap (λ r. ended (as_event Up r)) (number_back packet [] range)
event_back clients (Down peer client frame) few fits range =
    let parts = and_parts (nat_lt peer clients) (nat_lt client clients) fits in
    ap (λ r. ended (down_peer clients r))
    (client_back clients peer (decimal client ∷ decimal frame ∷ []) few parts.0)
    ∙ ap (λ r. ended (down_client peer r))
    (client_back clients client (decimal frame ∷ []) few parts.1)
    ∙ ap (λ r. ended (as_event (Down peer client) r)) (number_back frame [] range)
event_back clients (Tick peer) few fits range =
    ap (λ r. ended (with_rest [] r)) (ticker_back clients peer few fits)
event_back clients TickServer few fits range = refl
event_back clients (DropClient client) few fits range =
    ap (λ r. ended (as_event DropClient r)) (client_back clients client [] few fits)
event_back clients (Report peer) few fits range =
    ap (λ r. ended (as_event Report r)) (client_back clients peer [] few fits)
event_back clients (Forge client frame hash) few fits range =
    let parts = and_parts (nat_lt frame (2 ^ 32)) (nat_lt hash (2 ^ 64)) range in
    ap (λ r. ended (forge_client r))
    (client_back clients client (decimal frame ∷ hash_digits hash ∷ []) few fits)
    ∙ ap (λ r. ended (forge_frame client r)) (number_back frame (hash_digits hash ∷ []) parts.0)
    ∙ ap (λ r. ended (as_event (Forge client frame) r))
    (hash_at-digits hash [] (ltb-true hash (2 ^ 64) parts.1))
event_back clients (Bye peer) few fits range =
    ap (λ r. ended (as_event Bye r)) (client_back clients peer [] few fits)

-- So are those of a match.
abbrev match_of_parts : (clients lag seed : ℕ) → MatchLine
match_of_parts clients lag seed = record { clients = clients; lag = lag; seed = seed }

abbrev match_seed : ℕ → ℕ → Read ℕ → Result MatchLine WordFault
match_seed clients lag read = read >>= λ seed. at_end (match_of_parts clients lag seed.0) seed.1

abbrev match_lag : ℕ → Read ℕ → Result MatchLine WordFault
match_lag clients read = read >>= λ lag. match_seed clients lag.0 (number_at 0 (2 ^ 32 - 1) lag.1)

abbrev match_clients : Read ℕ → Result MatchLine WordFault
match_clients read = read >>= λ clients. match_lag clients.0 (number_at 1 MAX_LAG clients.1)

pub match_back :
    (clients lag seed : ℕ) → 1 ≤ clients → clients ≤ MAX_CLIENTS → 1 ≤ lag → lag ≤ MAX_LAG →
    seed < 2 ^ 32 →
    match_line_of (match_words clients lag seed)
    ≡ Ok (record { clients = clients; lag = lag; seed = seed })
unfolding match_line_of after_word
match_back clients lag seed some few least most fits =
    ap match_clients
    (number_at-decimal 1 MAX_CLIENTS clients (decimal lag ∷ decimal seed ∷ []) some few
    (omega (arith, few)))
    ∙ ap (match_lag clients)
    (number_at-decimal 1 MAX_LAG lag (decimal seed ∷ []) least most (omega (arith, most)))
    ∙ ap (match_seed clients lag)
    (number_at-decimal 0 (2 ^ 32 - 1) seed [] (omega arith) (omega (arith, fits))
    (omega (arith, fits)))

-- They are words without blanks, and the first begins no comment.
has_bytes-some : (word : List ℕ) → 0 < length word → has_bytes word ≡ true
has_bytes-some [] some = absurd (omega (arith, some))
has_bytes-some (byte ∷ word) some = refl

decimal_word : (n : ℕ) → n < 2 ^ 64 → is_word (decimal n) ≡ true
decimal_word n small =
    is_word-from (decimal n) (has_bytes-some (decimal n) (decimal_nonempty n small))
    (decimal_all (nat_lt 32) refl n small)

hash_word : (hash : ℕ) → is_word (hash_digits hash) ≡ true
unfolding hash_digits
hash_word hash =
    let some : 0 < length (hex_from HASH_DIGITS hash) =
    omega (arith, hex_length HASH_DIGITS hash) in
    is_word-from (hex_from HASH_DIGITS hash) (has_bytes-some (hex_from HASH_DIGITS hash) some)
    (hex_all (nat_lt 32) refl HASH_DIGITS hash)

-- Two lists of words, and one more word.
more_words :
    (word : List ℕ) (words : List (List ℕ)) → is_word word ≡ true → list_all is_word words
    ≡ true → list_all is_word (word ∷ words) ≡ true
more_words word words here all = and_from (is_word word) (list_all is_word words) here all

pub number_word : (n bound : ℕ) (words : List (List ℕ)) → n < bound → bound ≤ 2 ^ 64 →
    list_all is_word words ≡ true → list_all is_word (decimal n ∷ words) ≡ true
number_word n bound words low high all =
    more_words (decimal n) words (decimal_word n (omega (arith, low, high))) all

pub client_word :
    (clients n : ℕ) (words : List (List ℕ)) → clients ≤ MAX_CLIENTS → nat_lt n clients
    ≡ true → list_all is_word words ≡ true →
    list_all is_word (decimal n ∷ words) ≡ true
client_word clients n words few fits all =
    number_word n clients words (ltb-true n clients fits) (omega (arith, few)) all

u32_word :
    (n : ℕ) (words : List (List ℕ)) → nat_lt n (2 ^ 32) ≡ true → list_all is_word words
    ≡ true → list_all is_word (decimal n ∷ words) ≡ true
u32_word n words fits all =
    number_word n (2 ^ 32) words (ltb-true n (2 ^ 32) fits) (omega arith) all

cell_words :
    (cell : CPos) → cell_in_range cell ≡ true →
    list_all is_word (decimal cell.x ∷ decimal cell.y ∷ []) ≡ true
cell_words cell fits =
    let parts = and_parts (nat_lt cell.x (2 ^ 8)) (nat_lt cell.y (2 ^ 8)) fits in
    number_word cell.x (2 ^ 8) (decimal cell.y ∷ []) (ltb-true cell.x (2 ^ 8) parts.0) (omega arith)
    (number_word cell.y (2 ^ 8) [] (ltb-true cell.y (2 ^ 8) parts.1) (omega arith) refl)

order_words-are :
    (order : Order) → order_in_range order ≡ true → list_all is_word (order_words order) ≡ true
order_words-are (Move actor cell true) fits =
    let parts = and_parts (nat_lt actor (2 ^ 32)) (cell_in_range cell) fits in
    u32_word actor (decimal cell.x ∷ decimal cell.y ∷ []) parts.0 (cell_words cell parts.1)
order_words-are (Move actor cell false) fits =
    let parts = and_parts (nat_lt actor (2 ^ 32)) (cell_in_range cell) fits in
    u32_word actor (decimal cell.x ∷ decimal cell.y ∷ []) parts.0 (cell_words cell parts.1)
order_words-are (Attack actor target true) fits =
    let parts = and_parts (nat_lt actor (2 ^ 32)) (nat_lt target (2 ^ 32)) fits in
    u32_word actor (decimal target ∷ []) parts.0 (u32_word target [] parts.1 refl)
order_words-are (Attack actor target false) fits =
    let parts = and_parts (nat_lt actor (2 ^ 32)) (nat_lt target (2 ^ 32)) fits in
    u32_word actor (decimal target ∷ []) parts.0 (u32_word target [] parts.1 refl)
order_words-are (Harvest actor cell true) fits =
    let parts = and_parts (nat_lt actor (2 ^ 32)) (cell_in_range cell) fits in
    u32_word actor (decimal cell.x ∷ decimal cell.y ∷ []) parts.0 (cell_words cell parts.1)
order_words-are (Harvest actor cell false) fits =
    let parts = and_parts (nat_lt actor (2 ^ 32)) (cell_in_range cell) fits in
    u32_word actor (decimal cell.x ∷ decimal cell.y ∷ []) parts.0 (cell_words cell parts.1)
order_words-are (Stop actor) fits = u32_word actor [] fits refl
order_words-are (Produce actor kind) fits =
    let parts = and_parts (nat_lt actor (2 ^ 32)) (nat_lt kind (2 ^ 16)) fits in
    u32_word actor (decimal kind ∷ []) parts.0
    (number_word kind (2 ^ 16) [] (ltb-true kind (2 ^ 16) parts.1) (omega arith) refl)
order_words-are (Cancel actor) fits = u32_word actor [] fits refl
order_words-are (Donate to amount) fits =
    let parts = and_parts (nat_lt to (2 ^ 8)) (nat_lt amount (2 ^ 32)) fits in
    number_word to (2 ^ 8) (decimal amount ∷ []) (ltb-true to (2 ^ 8) parts.0) (omega arith)
    (u32_word amount [] parts.1 refl)
order_words-are (Pace ticks) fits =
    number_word ticks (2 ^ 8) [] (ltb-true ticks (2 ^ 8) fits) (omega arith) refl

following_orders-are :
    (orders : List Order) → list_all order_in_range orders ≡ true →
    list_all is_word (flat_map (λ next. codes ";" ∷ order_words next) orders) ≡ true
following_orders-are [] fits = refl
following_orders-are (order ∷ orders) fits =
    let parts = and_parts (order_in_range order) (list_all order_in_range orders) fits in
    list_all-append is_word (order_words order)
    (flat_map (λ next. codes ";" ∷ order_words next) orders)
    ∙ and_from (list_all is_word (order_words order))
    (list_all is_word (flat_map (λ next. codes ";" ∷ order_words next) orders))
    (order_words-are order parts.0) (following_orders-are orders parts.1)

pub orders_words-are : (orders : List Order) → list_all order_in_range orders
    ≡ true → list_all is_word (orders_words orders) ≡ true
orders_words-are [] fits = refl
orders_words-are (order ∷ orders) fits = following_orders-are (order ∷ orders) fits

pub event_words-are :
    (clients : ℕ) (event : Event) → clients ≤ MAX_CLIENTS → event_fits clients event
    ≡ true → event_in_range event ≡ true →
    list_all is_word (event_words event) ≡ true
event_words-are clients (Seal peer orders) few fits range =
    let parts =
    and_parts (nat_le (length orders) MAX_ORDERS) (list_all order_in_range orders) range in
    client_word clients peer (orders_words orders) few fits (orders_words-are orders parts.1)
event_words-are clients (Up packet) few fits range = u32_word packet [] range refl
event_words-are clients (Down peer client frame) few fits range =
    let parts = and_parts (nat_lt peer clients) (nat_lt client clients) fits in
    client_word clients peer (decimal client ∷ decimal frame ∷ []) few parts.0
    (client_word clients client (decimal frame ∷ []) few parts.1 (u32_word frame [] range refl))
event_words-are clients (Tick peer) few fits range = client_word clients peer [] few fits refl
event_words-are clients TickServer few fits range = refl
event_words-are clients (DropClient client) few fits range =
    client_word clients client [] few fits refl
event_words-are clients (Report peer) few fits range = client_word clients peer [] few fits refl
event_words-are clients (Forge client frame hash) few fits range =
    let parts = and_parts (nat_lt frame (2 ^ 32)) (nat_lt hash (2 ^ 64)) range in
    client_word clients client (decimal frame ∷ hash_digits hash ∷ []) few fits
    (u32_word frame (hash_digits hash ∷ []) parts.0
    (more_words (hash_digits hash) [] (hash_word hash) refl))
event_words-are clients (Bye peer) few fits range = client_word clients peer [] few fits refl

pub event_words-kept : (event : Event) → is_kept (event_words event) ≡ true
event_words-kept (Seal peer orders) = refl
event_words-kept (Up packet) = refl
event_words-kept (Down peer client frame) = refl
event_words-kept (Tick peer) = refl
event_words-kept TickServer = refl
event_words-kept (DropClient client) = refl
event_words-kept (Report peer) = refl
event_words-kept (Forge client frame hash) = refl
event_words-kept (Bye peer) = refl

pub match_words-are :
    (clients lag seed : ℕ) → clients ≤ MAX_CLIENTS → lag ≤ MAX_LAG → seed < 2 ^ 32 →
    list_all is_word (match_words clients lag seed) ≡ true
match_words-are clients lag seed few most fits =
    number_word clients (2 ^ 8) (decimal lag ∷ decimal seed ∷ []) (omega (arith, few)) (omega arith)
    (number_word lag (2 ^ 8) (decimal seed ∷ []) (omega (arith, most)) (omega arith)
    (number_word seed (2 ^ 32) [] fits (omega arith) refl))
