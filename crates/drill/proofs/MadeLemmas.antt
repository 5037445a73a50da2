-- A made drill is within the limits of a drill.
use Rattle.std.proofs.Common.{◌≡◌, ◌<◌, ◌≤◌, ◌+◌, ◌&&◌, ◌∙◌, arith, refl, ℕ, zero, suc, Bool, true, false, cond, List, [], ◌∷◌, ◌++◌, length}
use Rattle.std.specs.Prelude.{◌^◌, ◌*◌, nat_lt, nat_le, ◌==◌, Ok}
use Rattle.std.specs.List.{list_all}
use Rattle.std.proofs.lemmas.Bool.{and_from, lt-ltb}
use Rattle.std.proofs.lemmas.List.Folds.{list_all-append}
use Rattle.game_orders.specs.declared.limits.TheConstants.{MAX_ORDERS}
use Rattle.game_orders.specs.declared.order.Order.{Order}
use Rattle.twister.specs.Place.{Place, after_word}
use Rattle.twister.specs.Sequence.{draw_of}
use Rattle.drill_words.specs.declared.event.Event.{Event}
use Rattle.drill_words.specs.declared.event.Event.TheVariants.{Seal, Up, Down, Tick, TickServer, DropClient, Report}
use Rattle.drill_words.specs.declared.limits.TheConstants.{MAX_EVENTS}
use Rattle.drill_words.specs.Drill.{IsDrill, read_of}
use Rattle.drill_words.specs.Event.{event_fits, event_in_range, cell_in_range, order_in_range}
use Rattle.drill_words.specs.Text.{drill_text}
use Rattle.drill_words.proofs.TextLemmas.{drill_text-back}
use Rattle.drill.specs.declared.made_limits.TheConstants.{MADE_CLIENTS, MADE_ROUNDS, DEPARTURE_ROUND, DRAWN_ACTORS, DRAWN_SIDE, DRAWN_KINDS, DRAWN_CASH, LOSS_CHOICES, ORDER_CHOICES}
use Rattle.drill.specs.Drawing.{Drawing, below}
use Rattle.drill.specs.MadeOrders.{drawn_actor, drawn_cell, drawn_move, drawn_harvest, drawn_produce, drawn_donate, drawn_attack, just, orders_by, drawn_orders}
use Rattle.drill.specs.Draft.{DraftState, fresh_draft, with_event, with_packet, with_seal, with_event_unless_lost, size}
use Rattle.drill.specs.MadeRound.{rising, falling, leaver, sealing_in, told_in, with_seals, with_some_packets_up, with_packets_up_again, with_some_entries_to, with_entries_to, with_some_entries, with_entries_again, with_ticks, with_reports, with_reports_up, with_plays, with_echoes, with_checks, with_departure, with_round}
use Rattle.drill.specs.MadeDrill.{made_drill_of}
use Rattle.drill.proofs.DraftLemmas.{one_longer}

-- ---- drafts

-- A draft of at most so many draws, packets and events, each of which fits and is in range.
record IsMade (most : ℕ) (d : DraftState) : Type 0 where
  few : size d ≤ most
  fit : list_all (event_fits MADE_CLIENTS) d.events ≡ true
  range : list_all event_in_range d.events ≡ true

wider : (few most : ℕ) (d : DraftState) → few ≤ most → IsMade few d → IsMade most d
wider few most d more is = record { few = omega (arith, more, is.few); fit = is.fit; range = is.range }

pushed : (test : Event → Bool) (events : List Event) (event : Event) → list_all test events ≡ true → test event ≡ true → list_all test (events ++ event ∷ []) ≡ true
pushed test events event all here =
    list_all-append test events (event ∷ [])
    ∙ and_from (list_all test events) (list_all test (event ∷ [])) all (and_from (test event) true here refl)

event_made : (most : ℕ) (d : DraftState) (event : Event) → event_fits MADE_CLIENTS event ≡ true → event_in_range event ≡ true → IsMade most d → IsMade (most + 1) (with_event event d)
event_made most d event fits ranges is = record {
  few = omega (arith, is.few, one_longer d.events event);
  fit = pushed (event_fits MADE_CLIENTS) d.events event is.fit fits;
  range = pushed event_in_range d.events event is.range ranges;
}

packet_made : (most : ℕ) (d : DraftState) (event : Event) → event_fits MADE_CLIENTS event ≡ true → event_in_range event ≡ true → IsMade most d → IsMade (most + 2) (with_packet event d)
packet_made most d event fits ranges is = record {
  few = omega (arith, is.few, one_longer d.events event);
  fit = pushed (event_fits MADE_CLIENTS) d.events event is.fit fits;
  range = pushed event_in_range d.events event is.range ranges;
}

-- ---- draws

-- Orders for which at most so many words were drawn.
record AreDrawn (most : ℕ) (place : Place) (drawn : List Order × Place) : Type 0 where
  few : drawn.1.drawn ≤ place.drawn + most
  range : (nat_le (length drawn.0) MAX_ORDERS && list_all order_in_range drawn.0) ≡ true

one_order : (order : Order) → order_in_range order ≡ true → (nat_le (length (order ∷ [])) MAX_ORDERS && list_all order_in_range (order ∷ [])) ≡ true
one_order order ranges = and_from true (order_in_range order && true) refl (and_from (order_in_range order) true ranges refl)

small : (n most : ℕ) → n < most → nat_lt n most ≡ true
small n most less = lt-ltb n most less

actor_range : (place : Place) → nat_lt (drawn_actor place).0 (2 ^ 32) ≡ true
unfolding drawn_actor
actor_range place = small (1 + (below DRAWN_ACTORS place).0) (2 ^ 32) (omega arith)

cell_range : (place : Place) → cell_in_range (drawn_cell place).0 ≡ true
unfolding drawn_cell
cell_range place =
    let x : ℕ = (below DRAWN_SIDE place).0 in
    let y : ℕ = (below DRAWN_SIDE (after_word place)).0 in
    and_from (nat_lt x (2 ^ 8)) (nat_lt y (2 ^ 8)) (small x (2 ^ 8) (omega arith)) (small y (2 ^ 8) (omega arith))

move_range : (place : Place) → order_in_range (drawn_move place).0 ≡ true
unfolding drawn_move
move_range place =
    and_from (nat_lt (drawn_actor place).0 (2 ^ 32)) (cell_in_range (drawn_cell (drawn_actor place).1).0) (actor_range place) (cell_range (drawn_actor place).1)

harvest_range : (place : Place) → order_in_range (drawn_harvest place).0 ≡ true
unfolding drawn_harvest
harvest_range place =
    and_from (nat_lt (drawn_actor place).0 (2 ^ 32)) (cell_in_range (drawn_cell (drawn_actor place).1).0) (actor_range place) (cell_range (drawn_actor place).1)

produce_range : (place : Place) → order_in_range (drawn_produce place).0 ≡ true
unfolding drawn_produce
produce_range place =
    let kind : ℕ = (below DRAWN_KINDS (drawn_actor place).1).0 in
    and_from (nat_lt (drawn_actor place).0 (2 ^ 32)) (nat_lt kind (2 ^ 16)) (actor_range place) (small kind (2 ^ 16) (omega arith))

donate_range : (place : Place) → order_in_range (drawn_donate place).0 ≡ true
unfolding drawn_donate
donate_range place =
    let to : ℕ = (below MADE_CLIENTS place).0 in
    let amount : ℕ = (below DRAWN_CASH (after_word place)).0 in
    and_from (nat_lt to (2 ^ 8)) (nat_lt amount (2 ^ 32)) (small to (2 ^ 8) (omega arith)) (small amount (2 ^ 32) (omega arith))

attack_range : (place : Place) → order_in_range (drawn_attack place).0 ≡ true
unfolding drawn_attack
attack_range place =
    and_from (nat_lt (drawn_actor place).0 (2 ^ 32)) (nat_lt (drawn_actor (drawn_actor place).1).0 (2 ^ 32)) (actor_range place) (actor_range (drawn_actor place).1)

move_few : (place : Place) → (drawn_move place).1.drawn ≤ place.drawn + 3
unfolding drawn_move drawn_actor drawn_cell
move_few place = omega arith

harvest_few : (place : Place) → (drawn_harvest place).1.drawn ≤ place.drawn + 3
unfolding drawn_harvest drawn_actor drawn_cell
harvest_few place = omega arith

produce_few : (place : Place) → (drawn_produce place).1.drawn ≤ place.drawn + 3
unfolding drawn_produce drawn_actor
produce_few place = omega arith

donate_few : (place : Place) → (drawn_donate place).1.drawn ≤ place.drawn + 3
unfolding drawn_donate
donate_few place = omega arith

attack_few : (place : Place) → (drawn_attack place).1.drawn ≤ place.drawn + 3
unfolding drawn_attack drawn_actor
attack_few place = omega arith

one_drawn : (draw : Drawing Order) (place : Place) → order_in_range (draw place).0 ≡ true → (draw place).1.drawn ≤ place.drawn + 3 → AreDrawn 3 place (just draw place)
one_drawn draw place ranges few = record { few = few; range = one_order (draw place).0 ranges }

by_choice : (b : Bool) (one other : Drawing (List Order)) (place : Place) → AreDrawn 3 place (one place) → AreDrawn 3 place (other place) → AreDrawn 3 place (cond b one other place)
by_choice true one other place first rest = first
by_choice false one other place first rest = rest

choice_drawn : (choice : ℕ) (place : Place) → AreDrawn 3 place (orders_by choice place)
unfolding orders_by
choice_drawn choice place =
    by_choice (choice == 0) (just drawn_move) _ place (one_drawn drawn_move place (move_range place) (move_few place))
    (by_choice (choice == 1) (just drawn_harvest) _ place (one_drawn drawn_harvest place (harvest_range place) (harvest_few place))
    (by_choice (choice == 2) (just drawn_produce) _ place (one_drawn drawn_produce place (produce_range place) (produce_few place))
    (by_choice (choice == 3) (just drawn_donate) _ place (one_drawn drawn_donate place (donate_range place) (donate_few place))
    (by_choice (choice == 4) (just drawn_attack) _ place (one_drawn drawn_attack place (attack_range place) (attack_few place))
    (record { few = omega arith; range = refl })))))

orders_drawn : (place : Place) → AreDrawn 4 place (drawn_orders place)
unfolding drawn_orders
orders_drawn place =
    let drawn : AreDrawn 3 (after_word place) (orders_by (draw_of place.seed place.drawn ORDER_CHOICES) (after_word place)) = choice_drawn (draw_of place.seed place.drawn ORDER_CHOICES) (after_word place) in
    record { few = omega (arith, drawn.few); range = drawn.range }

-- ---- one event

seal_made : (client most : ℕ) (d : DraftState) → client < MADE_CLIENTS → IsMade most d → IsMade (most + 6) (with_seal client d)
seal_made client most d own is =
    let drawn : AreDrawn 4 d.dice (drawn_orders d.dice) = orders_drawn d.dice in
    let after : IsMade (most + 4) (record d { dice = (drawn_orders d.dice).1 }) = record { few = omega (arith, is.few, drawn.few); fit = is.fit; range = is.range } in
    wider (most + 4 + 2) (most + 6) (with_seal client d) (omega arith)
    (packet_made (most + 4) (record d { dice = (drawn_orders d.dice).1 }) (Seal client (drawn_orders d.dice).0) (small client MADE_CLIENTS own) drawn.range after)

lossy_made : (most : ℕ) (d : DraftState) (event : Event) → event_fits MADE_CLIENTS event ≡ true → event_in_range event ≡ true → IsMade most d → IsMade (most + 2) (with_event_unless_lost event d)
lossy_made most d event fits ranges is = go ((below LOSS_CHOICES d.dice).0 == 0)
  where
    after : DraftState
    after = record d { dice = after_word d.dice }

    made : IsMade (most + 1) after
    made = record { few = omega (arith, is.few); fit = is.fit; range = is.range }

    go : (lost : Bool) → IsMade (most + 2) (cond lost after (with_event event after))
    go true = wider (most + 1) (most + 2) after (omega arith) made
    go false = wider (most + 1 + 1) (most + 2) (with_event event after) (omega arith) (event_made (most + 1) after event fits ranges made)

-- ---- many steps

-- So much, as often as this.
abbrev times : (each count : ℕ) → ℕ
times each zero = 0
times each (suc count) = times each count + each

times_grow : (each count limit : ℕ) → count ≤ limit → times each count ≤ times each limit
times_grow each zero limit fits = omega arith
times_grow each (suc count) zero fits = absurd (omega (arith, fits))
times_grow each (suc count) (suc limit) fits = omega (arith, times_grow each count limit (omega (arith, fits)))

-- A step for a number below the limit adds at most `each`, while no more than the cap is there.
abbrev Adds : (cap each limit : ℕ) → (ℕ → DraftState → DraftState) → Type 0
Adds cap each limit step = (c most : ℕ) (d : DraftState) → c < limit → most ≤ cap → IsMade most d → IsMade (most + each) (step c d)

rises : (cap each limit count : ℕ) (step : ℕ → DraftState → DraftState) → Adds cap each limit step → count ≤ limit
    → (most : ℕ) (d : DraftState) → most + times each count ≤ cap → IsMade most d → IsMade (most + times each count) (rising step count d)
rises cap each limit zero step adds fits most d room is = wider most (most + 0) d (omega arith) is
rises cap each limit (suc count) step adds fits most d room is =
    wider (most + times each count + each) (most + (times each count + each)) (step count (rising step count d)) (omega arith)
    (adds count (most + times each count) (rising step count d) (omega (arith, fits)) (omega (arith, room))
    (rises cap each limit count step adds (omega (arith, fits)) most d (omega (arith, room)) is))

falls : (cap each limit count : ℕ) (step : ℕ → DraftState → DraftState) → Adds cap each limit step → count ≤ limit
    → (most : ℕ) (d : DraftState) → most + times each count ≤ cap → IsMade most d → IsMade (most + times each count) (falling step count d)
falls cap each limit zero step adds fits most d room is = wider most (most + 0) d (omega arith) is
falls cap each limit (suc count) step adds fits most d room is =
    wider (most + each + times each count) (most + (times each count + each)) (falling step count (step count d)) (omega arith)
    (falls cap each limit count step adds (omega (arith, fits)) (most + each) (step count d) (omega (arith, room))
    (adds count most d (omega (arith, fits)) (omega (arith, room)) is))

-- ---- the parts of a round

seals_made : (sealing most : ℕ) (d : DraftState) → sealing ≤ MADE_CLIENTS → most ≤ MAX_EVENTS → IsMade most d → IsMade (most + 24) (with_seals sealing d)
unfolding with_seals
seals_made sealing most d few room is =
    let less : times 6 sealing ≤ times 6 MADE_CLIENTS = times_grow 6 sealing MADE_CLIENTS few in
    wider (most + times 6 sealing) (most + 24) (rising with_seal sealing d) (omega (arith, less))
    (rises (MAX_EVENTS + 24) 6 MADE_CLIENTS sealing with_seal (λ c m e own within made. seal_made c m e own made) few most d (omega (arith, less, room)) is)

-- A packet's number, which is at most `first` and a client more, is in range.
up_range : (first client : ℕ) → first ≤ MAX_EVENTS + 200 → client < MADE_CLIENTS → nat_lt (first + client) (2 ^ 32) ≡ true
up_range first client few own = small (first + client) (2 ^ 32) (omega (arith, few, own))

some_packets_made : (first sealing most : ℕ) (d : DraftState) → first ≤ MAX_EVENTS + 200 → sealing ≤ MADE_CLIENTS → most ≤ MAX_EVENTS + 24 → IsMade most d
    → IsMade (most + 8) (with_some_packets_up first sealing d)
unfolding with_some_packets_up
some_packets_made first sealing most d numbers few room is =
    let less : times 2 sealing ≤ times 2 MADE_CLIENTS = times_grow 2 sealing MADE_CLIENTS few in
    wider (most + times 2 sealing) (most + 8) (rising (λ client. with_event_unless_lost (Up (first + client))) sealing d) (omega (arith, less))
    (rises (MAX_EVENTS + 32) 2 MADE_CLIENTS sealing (λ client. with_event_unless_lost (Up (first + client)))
    (λ c m e own within made. lossy_made m e (Up (first + c)) refl (up_range first c numbers own) made) few most d (omega (arith, less, room)) is)

packets_again_made : (first sealing most : ℕ) (d : DraftState) → first ≤ MAX_EVENTS + 200 → sealing ≤ MADE_CLIENTS → most ≤ MAX_EVENTS + 32 → IsMade most d
    → IsMade (most + 4) (with_packets_up_again first sealing d)
unfolding with_packets_up_again
packets_again_made first sealing most d numbers few room is =
    let less : times 1 sealing ≤ times 1 MADE_CLIENTS = times_grow 1 sealing MADE_CLIENTS few in
    wider (most + times 1 sealing) (most + 4) (falling (λ client. with_event (Up (first + client))) sealing d) (omega (arith, less))
    (falls (MAX_EVENTS + 36) 1 MADE_CLIENTS sealing (λ client. with_event (Up (first + client)))
    (λ c m e own within made. event_made m e (Up (first + c)) refl (up_range first c numbers own) made) few most d (omega (arith, less, room)) is)

-- A number of packets is at most the size.
sent_few : (most : ℕ) (d : DraftState) → IsMade most d → d.sent ≤ most
sent_few most d is = omega (arith, is.few)

plays_made : (sealing most : ℕ) (d : DraftState) → sealing ≤ MADE_CLIENTS → most ≤ MAX_EVENTS → IsMade most d → IsMade (most + 36) (with_plays sealing d)
unfolding with_plays
plays_made sealing most d few room is =
    let numbers : d.sent ≤ MAX_EVENTS + 200 = omega (arith, sent_few most d is, room) in
    let sealed : IsMade (most + 24) (with_seals sealing d) = seals_made sealing most d few room is in
    let some : IsMade (most + 24 + 8) (with_some_packets_up d.sent sealing (with_seals sealing d)) =
    some_packets_made d.sent sealing (most + 24) (with_seals sealing d) numbers few (omega (arith, room)) sealed in
    wider (most + 24 + 8 + 4) (most + 36) _ (omega arith)
    (packets_again_made d.sent sealing (most + 24 + 8) (with_some_packets_up d.sent sealing (with_seals sealing d)) numbers few (omega (arith, room)) some)

-- An entry of a frame that goes to a peer.
down_fits : (peer client frame : ℕ) → peer < MADE_CLIENTS → client < MADE_CLIENTS → event_fits MADE_CLIENTS (Down peer client frame) ≡ true
down_fits peer client frame one other = and_from _ _ (small peer MADE_CLIENTS one) (small client MADE_CLIENTS other)

some_entries_to_made : (told frame peer most : ℕ) (d : DraftState) → told ≤ MADE_CLIENTS → frame < MADE_ROUNDS → peer < MADE_CLIENTS → most ≤ MAX_EVENTS + 100 → IsMade most d
    → IsMade (most + 8) (with_some_entries_to told frame peer d)
unfolding with_some_entries_to
some_entries_to_made told frame peer most d few early own room is =
    let less : times 2 told ≤ times 2 MADE_CLIENTS = times_grow 2 told MADE_CLIENTS few in
    wider (most + times 2 told) (most + 8) (rising (λ client. with_event_unless_lost (Down peer client frame)) told d) (omega (arith, less))
    (rises (MAX_EVENTS + 108) 2 MADE_CLIENTS told (λ client. with_event_unless_lost (Down peer client frame))
    (λ c m e other within made. lossy_made m e (Down peer c frame) (down_fits peer c frame own other) (small frame (2 ^ 32) (omega (arith, early))) made) few most d (omega (arith, less, room)) is)

entries_to_made : (told frame peer most : ℕ) (d : DraftState) → told ≤ MADE_CLIENTS → frame < MADE_ROUNDS → peer < MADE_CLIENTS → most ≤ MAX_EVENTS + 100 → IsMade most d
    → IsMade (most + 4) (with_entries_to told frame peer d)
unfolding with_entries_to
entries_to_made told frame peer most d few early own room is =
    let less : times 1 told ≤ times 1 MADE_CLIENTS = times_grow 1 told MADE_CLIENTS few in
    wider (most + times 1 told) (most + 4) (falling (λ client. with_event (Down peer client frame)) told d) (omega (arith, less))
    (falls (MAX_EVENTS + 108) 1 MADE_CLIENTS told (λ client. with_event (Down peer client frame))
    (λ c m e other within made. event_made m e (Down peer c frame) (down_fits peer c frame own other) (small frame (2 ^ 32) (omega (arith, early))) made) few most d (omega (arith, less, room)) is)

some_entries_made : (told frame most : ℕ) (d : DraftState) → told ≤ MADE_CLIENTS → frame < MADE_ROUNDS → most ≤ MAX_EVENTS + 50 → IsMade most d → IsMade (most + 32) (with_some_entries told frame d)
unfolding with_some_entries
some_entries_made told frame most d few early room is =
    rises (MAX_EVENTS + 100) 8 MADE_CLIENTS MADE_CLIENTS (with_some_entries_to told frame)
    (λ peer m e own within made. some_entries_to_made told frame peer m e few early own within made) (omega arith) most d (omega (arith, room)) is

entries_again_made : (told frame most : ℕ) (d : DraftState) → told ≤ MADE_CLIENTS → frame < MADE_ROUNDS → most ≤ MAX_EVENTS + 84 → IsMade most d → IsMade (most + 16) (with_entries_again told frame d)
unfolding with_entries_again
entries_again_made told frame most d few early room is =
    falls (MAX_EVENTS + 100) 4 MADE_CLIENTS MADE_CLIENTS (with_entries_to told frame)
    (λ peer m e own within made. entries_to_made told frame peer m e few early own within made) (omega arith) most d (omega (arith, room)) is

ticks_made : (most : ℕ) (d : DraftState) → most ≤ MAX_EVENTS + 100 → IsMade most d → IsMade (most + 4) (with_ticks d)
unfolding with_ticks
ticks_made most d room is =
    rises (MAX_EVENTS + 104) 1 MADE_CLIENTS MADE_CLIENTS (λ peer. with_event (Tick peer))
    (λ peer m e own within made. event_made m e (Tick peer) (small peer MADE_CLIENTS own) refl made) (omega arith) most d (omega (arith, room)) is

reports_made : (most : ℕ) (d : DraftState) → most ≤ MAX_EVENTS + 100 → IsMade most d → IsMade (most + 8) (with_reports d)
unfolding with_reports
reports_made most d room is =
    rises (MAX_EVENTS + 108) 2 MADE_CLIENTS MADE_CLIENTS (λ peer. with_packet (Report peer))
    (λ peer m e own within made. packet_made m e (Report peer) (small peer MADE_CLIENTS own) refl made) (omega arith) most d (omega (arith, room)) is

reports_up_made : (first most : ℕ) (d : DraftState) → first ≤ MAX_EVENTS + 200 → most ≤ MAX_EVENTS + 108 → IsMade most d → IsMade (most + 4) (with_reports_up first d)
unfolding with_reports_up
reports_up_made first most d numbers room is =
    rises (MAX_EVENTS + 112) 1 MADE_CLIENTS MADE_CLIENTS (λ peer. with_event (Up (first + peer)))
    (λ peer m e own within made. event_made m e (Up (first + peer)) refl (up_range first peer numbers own) made) (omega arith) most d (omega (arith, room)) is

echoes_made : (told frame most : ℕ) (d : DraftState) → told ≤ MADE_CLIENTS → frame < MADE_ROUNDS → most ≤ MAX_EVENTS + 37 → IsMade most d → IsMade (most + 56) (with_echoes told frame d)
unfolding with_echoes
echoes_made told frame most d few early room is =
    let some : IsMade (most + 32) (with_some_entries told frame d) = some_entries_made told frame most d few early (omega (arith, room)) is in
    let first : IsMade (most + 32 + 4) (with_ticks (with_some_entries told frame d)) = ticks_made (most + 32) (with_some_entries told frame d) (omega (arith, room)) some in
    let again : IsMade (most + 32 + 4 + 16) (with_entries_again told frame (with_ticks (with_some_entries told frame d))) =
    entries_again_made told frame (most + 32 + 4) (with_ticks (with_some_entries told frame d)) few early (omega (arith, room)) first in
    wider (most + 32 + 4 + 16 + 4) (most + 56) _ (omega arith)
    (ticks_made (most + 32 + 4 + 16) (with_entries_again told frame (with_ticks (with_some_entries told frame d))) (omega (arith, room)) again)

checks_made : (most : ℕ) (d : DraftState) → most ≤ MAX_EVENTS + 94 → IsMade most d → IsMade (most + 12) (with_checks d)
unfolding with_checks
checks_made most d room is =
    wider (most + 8 + 4) (most + 12) _ (omega arith)
    (reports_up_made d.sent (most + 8) (with_reports d) (omega (arith, sent_few most d is, room)) (omega (arith, room)) (reports_made most d (omega (arith, room)) is))

departure_made : (round most : ℕ) (d : DraftState) → IsMade most d → IsMade (most + 1) (with_departure round d)
unfolding with_departure
departure_made round most d is = go (round == DEPARTURE_ROUND)
  where
    go : (here : Bool) → IsMade (most + 1) (cond here (with_event (DropClient leaver) d) d)
    go true = event_made most d (DropClient leaver) refl refl is
    go false = wider most (most + 1) d (omega arith) is

sealing_few : (round : ℕ) → sealing_in round ≤ MADE_CLIENTS
sealing_few round = go (nat_lt round DEPARTURE_ROUND)
  where
    go : (b : Bool) → cond b MADE_CLIENTS leaver ≤ MADE_CLIENTS
    go true = omega arith
    go false = omega arith

told_few : (round : ℕ) → told_in round ≤ MADE_CLIENTS
told_few round = go (round == DEPARTURE_ROUND)
  where
    go : (b : Bool) → cond b MADE_CLIENTS (sealing_in round) ≤ MADE_CLIENTS
    go true = omega arith
    go false = sealing_few round

round_made : (round most : ℕ) (d : DraftState) → round < MADE_ROUNDS → most + 106 ≤ MAX_EVENTS → IsMade most d → IsMade (most + 106) (with_round round d)
unfolding with_round
round_made round most d early room is =
    let begun : DraftState = with_departure round d in
    let played : DraftState = with_plays (sealing_in round) begun in
    let echoed : DraftState = with_echoes (told_in round) round played in
    let departed : IsMade (most + 1) begun = departure_made round most d is in
    let plays : IsMade (most + 1 + 36) played = plays_made (sealing_in round) (most + 1) begun (sealing_few round) (omega (arith, room)) departed in
    let echoes : IsMade (most + 1 + 36 + 56) echoed = echoes_made (told_in round) round (most + 1 + 36) played (told_few round) early (omega (arith, room)) plays in
    let ticked : IsMade (most + 1 + 36 + 56 + 1) (with_event TickServer echoed) = event_made (most + 1 + 36 + 56) echoed TickServer refl refl echoes in
    wider (most + 1 + 36 + 56 + 1 + 12) (most + 106) _ (omega arith)
    (checks_made (most + 1 + 36 + 56 + 1) (with_event TickServer echoed) (omega (arith, room)) ticked)

-- ---- the drill

rounds_made : (rounds : ℕ) → rounds ≤ MADE_ROUNDS → (d : DraftState) → IsMade 0 d → IsMade (106 * rounds) (rising with_round rounds d)
rounds_made zero few d is = is
rounds_made (suc rounds) few d is =
    wider (106 * rounds + 106) (106 * suc rounds) (with_round rounds (rising with_round rounds d)) (omega arith)
    (round_made rounds (106 * rounds) (rising with_round rounds d) (omega (arith, few)) (omega (arith, few)) (rounds_made rounds (omega (arith, few)) d is))

fresh_made : (seed : ℕ) → IsMade 0 (fresh_draft seed)
fresh_made seed = record { few = omega arith; fit = refl; range = refl }

events_few : (most : ℕ) (d : DraftState) → IsMade most d → most ≤ MAX_EVENTS → length d.events ≤ MAX_EVENTS
events_few most d is room = omega (arith, is.few, room)

is_drill : (number : ℕ) → number < 2 ^ 32 → IsDrill (made_drill_of number)
unfolding made_drill_of
is_drill number fits =
    let made : IsMade (106 * MADE_ROUNDS) (rising with_round MADE_ROUNDS (fresh_draft number)) = rounds_made MADE_ROUNDS (omega arith) (fresh_draft number) (fresh_made number) in
    record {
      least_clients = omega arith;
      most_clients = omega arith;
      least_lag = omega arith;
      most_lag = omega arith;
      seed = fits;
      most_events = events_few (106 * MADE_ROUNDS) (rising with_round MADE_ROUNDS (fresh_draft number)) made (omega arith);
      fit = made.fit;
      range = made.range;
    }

pub made_drills_are_read : (number : ℕ) → number < 2 ^ 32 → read_of (drill_text (made_drill_of number)) ≡ Ok (made_drill_of number)
made_drills_are_read number fits = drill_text-back (made_drill_of number) (is_drill number fits)
