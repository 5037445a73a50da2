-- The frames of kept plays are those of a match, so only such a frame is ever ready.
use Rattle.std.proofs.Common.{◌≡◌, ℕ, ◌<◌, Bool, true, false, cond, not, ◌&&◌, ◌||◌}
use Rattle.std.proofs.Common.{nat_lt, ◌==◌, List, [], ◌∷◌, refl, ap, arith}
use Rattle.std.proofs.Common.{subst}
use Rattle.std.specs.Prelude.{if◌then◌else◌, Option, Some, None}
use Rattle.std.specs.Option.{option_map}
use Rattle.std.specs.List.{find, list_all}
use Rattle.std.proofs.lemmas.Bool.{and_parts, and_from, not-true, eqb-true}
use Rattle.std.proofs.lemmas.Bool.Decides.{nat_tests}
use Rattle.game_orders.specs.declared.order.Order.{Order}
use Rattle.game_orders.specs.declared.entry.Entry.{Entry}
use Rattle.game_orders.specs.declared.entry.Entry.TheVariants.{Play, Leave}
use Rattle.game_orders.specs.declared.limits.TheConstants.{MAX_FRAMES}
use Rattle.game_orders.specs.Entry.{is_play}
use Rattle.frame_core.specs.declared.input.Input.TheVariants.{Played}
use Rattle.frame_core.specs.Input.{input_of}
use Rattle.peer_core.specs.declared.arrived.Arrived.{Arrived}
use Rattle.peer_core.specs.declared.delivered.Delivered.{Delivered}
use Rattle.peer_core.specs.declared.delivered.Delivered.TheVariants.{Kept, Repeat, Conflict, Past}
use Rattle.peer_core.specs.declared.delivered.Delivered.TheVariants.{Beyond}
use Rattle.peer_core.specs.Arrived.{is_of, kept_at, left_before, or_left, has_of}
use Rattle.peer_core.specs.Arrived.{stands_before, with_arrived}
use Rattle.peer_core.specs.Delivery.{is_beyond, is_in_match, past_of, against, after_delivery}
use Rattle.peer_core.specs.Delivery.{delivery_of, arrived_after}

-- The frame of a play that is within a match.
play_in_match : (n : ℕ) (entry : Entry) → not (is_beyond n entry) ≡ true → is_play entry ≡ true →
    n < MAX_FRAMES
play_in_match n (Play orders) in_match play =
    let low : (nat_lt MAX_FRAMES n || ((n == MAX_FRAMES) && true)) ≡ false = not-true _ in_match in
    grind (arith, nat_tests)
play_in_match n Leave in_match play = absurd cc

kept_step :
    (a : Arrived) (xs : List Arrived) (c n : ℕ) (orders : List Order) (here : Bool) →
    is_of c n a ≡ here →
    is_in_match a ≡ true → (option_map (λ u. u.entry) (find (is_of c n) xs) ≡ Some (Play orders) →
    n < MAX_FRAMES) →
    option_map (λ u. u.entry) (cond here (Some a) (find (is_of c n) xs)) ≡ Some (Play orders) →
    n < MAX_FRAMES
kept_step a xs c n orders true is in_match rest found =
    let entry : a.entry ≡ Play orders = cc in
    let frame : a.frame ≡ n = eqb-true a.frame n (and_parts (a.client == c) (a.frame == n) is).1 in
    subst (λ k. k < MAX_FRAMES) frame (play_in_match a.frame a.entry in_match (ap is_play entry))
kept_step a xs c n orders false is in_match rest found = rest found

kept_play :
    (xs : List Arrived) (c n : ℕ) (orders : List Order) → list_all is_in_match xs ≡ true →
    kept_at xs c n ≡ Some (Play orders) → n < MAX_FRAMES
kept_play [] c n orders in_match kept = absurd cc
kept_play (a ∷ xs) c n orders in_match kept =
    let parts = and_parts (is_in_match a) (list_all is_in_match xs) in_match in
    kept_step a xs c n orders (is_of c n a) refl parts.0 (kept_play xs c n orders parts.1) kept

only_kept : (kept : Option Entry) (left : Option ℕ) (orders : List Order) →
    or_left kept left ≡ Some (Play orders) → kept ≡ Some (Play orders)
only_kept (Some entry) left orders has = has
only_kept None (Some at) orders has = absurd cc
only_kept None None orders has = absurd cc

has_play :
    (xs : List Arrived) (c n : ℕ) (orders : List Order) → list_all is_in_match xs ≡ true →
    has_of xs c n ≡ Some (Play orders) → n < MAX_FRAMES
has_play xs c n orders in_match has =
    kept_play xs c n orders in_match (only_kept (kept_at xs c n) (left_before xs c n) orders has)

played_entry : (has : Option Entry) → input_of has ≡ Played →
    (orders : List Order) × (has ≡ Some (Play orders))
played_entry None played = absurd cc
played_entry (Some (Play orders)) played = (orders, refl)
played_entry (Some Leave) played = absurd cc

-- Only for a frame of a match a client has a play.
pub played_in_match :
    (xs : List Arrived) (c n : ℕ) → list_all is_in_match xs ≡ true →
    input_of (has_of xs c n) ≡ Played → n < MAX_FRAMES
played_in_match xs c n in_match played =
    let play = played_entry (has_of xs c n) played in
    has_play xs c n play.0 in_match play.1

-- A delivery keeps what has arrived within the frames of a match.
with_in_match : (a : Arrived) (xs : List Arrived) → is_in_match a ≡ true →
    list_all is_in_match xs ≡ true → list_all is_in_match (with_arrived a xs) ≡ true
with_in_match a [] here all = and_from (is_in_match a) true here refl
with_in_match a (u ∷ xs) here all =
    let parts = and_parts (is_in_match u) (list_all is_in_match xs) all in
    elim (stands_before a u) as (λ b. list_all is_in_match
    (if b then a ∷ u ∷ xs else u ∷ with_arrived a xs) ≡ true) [
      | true ↦ and_from (is_in_match a) (is_in_match u && list_all is_in_match xs) here all
      | false ↦ and_from (is_in_match u) (list_all is_in_match (with_arrived a xs)) parts.0
          (with_in_match a xs here parts.1)
    ]

answer_in_match :
    (answer : Delivered) (a : Arrived) (xs : List Arrived) →
    (answer ≡ Kept → is_in_match a ≡ true) →
    list_all is_in_match xs ≡ true → list_all is_in_match (after_delivery answer a xs) ≡ true
answer_in_match Kept a xs here all = with_in_match a xs (here cc) all
answer_in_match Repeat a xs here all = all
answer_in_match (Conflict kept) a xs here all = all
answer_in_match (Past at) a xs here all = all
answer_in_match Beyond a xs here all = all

kept_in_match : (beyond : Bool) (answer : Delivered) → (if beyond then Beyond else answer) ≡ Kept →
    not beyond ≡ true
kept_in_match true answer kept = absurd cc
kept_in_match false answer kept = refl

pub delivered_in_match :
    (xs : List Arrived) (c n : ℕ) (entry : Entry) → list_all is_in_match xs ≡ true →
    list_all is_in_match (arrived_after xs c n entry) ≡ true
delivered_in_match xs c n entry all =
    answer_in_match (delivery_of xs c n entry) (record { client = c; frame = n; entry = entry }) xs
    (λ kept. kept_in_match (is_beyond n entry)
    (against (kept_at xs c n) (past_of xs c n entry) entry) kept) all
