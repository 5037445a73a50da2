-- The events of heads and a pool, where both grow.
use Rattle.std.proofs.Common.{◌≡◌, ℕ, ◌+◌, ◌≤◌, true, List, [], ◌∷◌, ◌++◌, length, take, drop}
use Rattle.std.proofs.Common.{refl, ap, ap₂, sym, ◌∙◌, arith, append_assoc, length-append}
use Rattle.std.proofs.Common.{length-drop}
use Rattle.std.specs.Prelude.{nat_le, Some, slice_get}
use Rattle.std.specs.List.{list_all}
use Rattle.std.proofs.lemmas.Bool.{and_parts, and_from, leb-true, le-leb}
use Rattle.std.proofs.lemmas.List.{take-append-le, drop-append-le, drop_at, take_all, take_more}
use Rattle.std.proofs.lemmas.List.{map_push}
use Rattle.std.proofs.lemmas.List.Folds.{list_all-append}
use Rattle.std.proofs.lemmas.Option.{slice_get_within, get_or_from_slice_get}
use Rattle.game_orders.specs.declared.order.Order.{Order}
use Rattle.game_orders.specs.declared.limits.TheConstants.{MAX_ORDERS}
use Rattle.drill_words.specs.declared.event.Event.{Event}
use Rattle.drill_words.specs.declared.event.Event.TheVariants.{Seal, Up, Down, Tick, TickServer}
use Rattle.drill_words.specs.declared.event.Event.TheVariants.{DropClient, Report, Forge, Bye}
use Rattle.drill_words.specs.declared.event_head.EventHead.{EventHead}
use Rattle.drill_words.specs.declared.event_head.EventHead.TheVariants as head
use Rattle.drill_words.specs.EventList.{event_from, stored_events, is_stored, orders_in, head_of}

-- A longer pool has the parts of a shorter one.
event_from-more :
    (pool more : List Order) (h : EventHead) → is_stored (length pool) h ≡ true →
    event_from (pool ++ more) h ≡ event_from pool h
event_from-more pool more (head.Seal peer count first) stored =
    let parts = and_parts (nat_le (first + count) (length pool)) (nat_le count MAX_ORDERS) stored in
    let low : first + count ≤ length pool = leb-true (first + count) (length pool) parts.0 in
    let dropped : drop first (pool ++ more) ≡ drop first pool ++ more = drop-append-le first pool more (omega (arith, low)) in
    ap (Seal peer)
    (ap (take count) dropped ∙ take-append-le count (drop first pool) more (omega (arith, low, length-drop first pool)))
event_from-more pool more (head.Up packet) stored = refl
event_from-more pool more (head.Down peer client frame) stored = refl
event_from-more pool more (head.Tick peer) stored = refl
event_from-more pool more head.TickServer stored = refl
event_from-more pool more (head.DropClient client) stored = refl
event_from-more pool more (head.Report peer) stored = refl
event_from-more pool more (head.Forge client frame hash) stored = refl
event_from-more pool more (head.Bye peer) stored = refl

stored_events-more :
    (pool more : List Order) (heads : List EventHead) → list_all (is_stored (length pool)) heads ≡ true →
    stored_events (pool ++ more) heads ≡ stored_events pool heads
stored_events-more pool more [] stored = refl
stored_events-more pool more (h ∷ heads) stored =
    let parts = and_parts (is_stored (length pool) h) (list_all (is_stored (length pool)) heads) stored in
    ap₂ (λ e es. e ∷ es) (event_from-more pool more h parts.0) (stored_events-more pool more heads parts.1)

is_stored-more : (size more : ℕ) (h : EventHead) → size ≤ more → is_stored size h ≡ true → is_stored more h ≡ true
is_stored-more size more (head.Seal peer count first) longer stored =
    let parts = and_parts (nat_le (first + count) size) (nat_le count MAX_ORDERS) stored in
    and_from (nat_le (first + count) more) (nat_le count MAX_ORDERS)
    (le-leb (first + count) more (omega (arith, longer, leb-true (first + count) size parts.0))) parts.1
is_stored-more size more (head.Up packet) longer stored = refl
is_stored-more size more (head.Down peer client frame) longer stored = refl
is_stored-more size more (head.Tick peer) longer stored = refl
is_stored-more size more head.TickServer longer stored = refl
is_stored-more size more (head.DropClient client) longer stored = refl
is_stored-more size more (head.Report peer) longer stored = refl
is_stored-more size more (head.Forge client frame hash) longer stored = refl
is_stored-more size more (head.Bye peer) longer stored = refl

all_stored-more :
    (size more : ℕ) (heads : List EventHead) → size ≤ more →
    list_all (is_stored size) heads ≡ true → list_all (is_stored more) heads ≡ true
all_stored-more size more [] longer stored = refl
all_stored-more size more (h ∷ heads) longer stored =
    let parts = and_parts (is_stored size h) (list_all (is_stored size) heads) stored in
    and_from (is_stored more h) (list_all (is_stored more) heads)
    (is_stored-more size more h longer parts.0) (all_stored-more size more heads longer parts.1)

-- The head of one more event gives it back.
event_from-new : (pool : List Order) (event : Event) → event_from (pool ++ orders_in event) (head_of (length pool) event) ≡ event
event_from-new pool (Seal peer orders) =
    ap (Seal peer) (ap (take (length orders)) (drop_at pool orders (length pool) refl) ∙ take_all (length orders) orders (omega arith))
event_from-new pool (Up packet) = refl
event_from-new pool (Down peer client frame) = refl
event_from-new pool (Tick peer) = refl
event_from-new pool TickServer = refl
event_from-new pool (DropClient client) = refl
event_from-new pool (Report peer) = refl
event_from-new pool (Forge client frame hash) = refl
event_from-new pool (Bye peer) = refl

is_stored-new :
    (pool : List Order) (event : Event) → length (orders_in event) ≤ MAX_ORDERS →
    is_stored (length (pool ++ orders_in event)) (head_of (length pool) event) ≡ true
is_stored-new pool (Seal peer orders) few =
    and_from (nat_le (length pool + length orders) (length (pool ++ orders))) (nat_le (length orders) MAX_ORDERS)
    (le-leb (length pool + length orders) (length (pool ++ orders)) (omega (arith, length-append pool orders)))
    (le-leb (length orders) MAX_ORDERS few)
is_stored-new pool (Up packet) few = refl
is_stored-new pool (Down peer client frame) few = refl
is_stored-new pool (Tick peer) few = refl
is_stored-new pool TickServer few = refl
is_stored-new pool (DropClient client) few = refl
is_stored-new pool (Report peer) few = refl
is_stored-new pool (Forge client frame hash) few = refl
is_stored-new pool (Bye peer) few = refl

all_stored-new :
    (pool : List Order) (heads : List EventHead) (event : Event) → list_all (is_stored (length pool)) heads ≡ true →
    length (orders_in event) ≤ MAX_ORDERS →
    list_all (is_stored (length (pool ++ orders_in event))) (heads ++ head_of (length pool) event ∷ []) ≡ true
all_stored-new pool heads event stored few =
    let size : ℕ = length (pool ++ orders_in event) in
    let h : EventHead = head_of (length pool) event in
    list_all-append (is_stored size) heads (h ∷ [])
    ∙ and_from (list_all (is_stored size) heads) (list_all (is_stored size) (h ∷ []))
    (all_stored-more (length pool) size heads (omega (arith, length-append pool (orders_in event))) stored)
    (and_from (is_stored size h) true (is_stored-new pool event few) refl)

stored_events-new :
    (pool : List Order) (heads : List EventHead) (event : Event) → list_all (is_stored (length pool)) heads ≡ true →
    stored_events (pool ++ orders_in event) (heads ++ head_of (length pool) event ∷ []) ≡ stored_events pool heads ++ event ∷ []
stored_events-new pool heads event stored =
    map_push (event_from (pool ++ orders_in event)) heads (head_of (length pool) event)
    ∙ ap₂ (λ es e. es ++ e ∷ []) (stored_events-more pool (orders_in event) heads stored) (event_from-new pool event)

-- A list with one more event, its orders at the end of the pool.
pub record Pushed (pool pool' : List Order) (heads heads' : List EventHead) (event : Event) : Type 0 where
  pub stored : list_all (is_stored (length pool')) heads' ≡ true
  pub seen : stored_events pool' heads' ≡ stored_events pool heads ++ event ∷ []

pub pushed :
    (pool pool' : List Order) (heads reserved heads' : List EventHead) (h : EventHead) (event : Event) (first : ℕ) →
    list_all (is_stored (length pool)) heads ≡ true → reserved ≡ heads → heads' ≡ reserved ++ h ∷ [] →
    pool' ≡ pool ++ orders_in event → h ≡ head_of first event → first ≡ length pool → length (orders_in event) ≤ MAX_ORDERS →
    Pushed pool pool' heads heads' event
pushed pool pool' heads reserved heads' h event first stored reserved_is heads_are pool_is h_is first_is few =
    let both : heads' ≡ heads ++ head_of (length pool) event ∷ [] =
    heads_are ∙ ap₂ (λ hs x. hs ++ x ∷ []) reserved_is (h_is ∙ ap (λ n. head_of n event) first_is) in
    record {
      stored = ap₂ (λ p hs. list_all (is_stored (length p)) hs) pool_is both ∙ all_stored-new pool heads event stored few;
      seen = ap₂ stored_events pool_is both ∙ stored_events-new pool heads event stored;
    }

-- One more of the orders that are added.
pub added-more :
    (old pool pool' orders : List Order) (i : ℕ) (order : Order) → pool ≡ old ++ take i orders → pool' ≡ pool ++ order ∷ [] →
    Some order ≡ slice_get orders i → pool' ≡ old ++ take (i + 1) orders
added-more old pool pool' orders i order so_far one_more got =
    let is : slice_get orders i ≡ Some order = sym got in
    let more : take (i + 1) orders ≡ take i orders ++ order ∷ [] =
    take_more orders i order (slice_get_within orders i order is)
    ∙ ap (λ o. take i orders ++ o ∷ []) (get_or_from_slice_get orders i order order is) in
    one_more ∙ ap (λ p. p ++ order ∷ []) so_far ∙ append_assoc old (take i orders) (order ∷ []) ∙ ap (λ os. old ++ os) (sym more)
