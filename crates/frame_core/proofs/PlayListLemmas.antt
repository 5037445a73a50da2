-- The plays of parts and a pool, where both grow.
use Rattle.std.proofs.Common.{◌≡◌, ℕ, ◌+◌, ◌≤◌, true, List, [], ◌∷◌, ◌++◌, length, take, drop}
use Rattle.std.proofs.Common.{refl, ap, ap₂, ◌∙◌, arith, length-append, length-drop}
use Rattle.std.specs.Prelude.{nat_le}
use Rattle.std.specs.List.{list_all}
use Rattle.std.proofs.lemmas.Bool.{and_parts, and_from, leb-true, le-leb}
use Rattle.std.proofs.lemmas.List.{take-append-le, drop-append-le, drop_at, take_all, map_push}
use Rattle.std.proofs.lemmas.List.Folds.{list_all-append}
use Rattle.game_orders.specs.declared.order.Order.{Order}
use Rattle.game_orders.specs.declared.limits.TheConstants.{MAX_ORDERS}
use Rattle.frame_core.specs.declared.play_part.PlayPart.{PlayPart}
use Rattle.frame_core.specs.PlayList.{part_in, stored_plays, is_stored}

-- A longer pool has the parts of a shorter one.
part_in-more :
    (pool more : List Order) (part : PlayPart) → is_stored (length pool) part ≡ true →
    part_in (pool ++ more) part ≡ part_in pool part
part_in-more pool more part stored =
    let parts = and_parts (nat_le (part.first + part.count) (length pool)) (nat_le part.count MAX_ORDERS) stored in
    let low : part.first + part.count ≤ length pool = leb-true (part.first + part.count) (length pool) parts.0 in
    ap (take part.count) (drop-append-le part.first pool more (omega (arith, low)))
    ∙ take-append-le part.count (drop part.first pool) more (omega (arith, low, length-drop part.first pool))

stored_plays-more :
    (pool more : List Order) (parts : List PlayPart) → list_all (is_stored (length pool)) parts ≡ true →
    stored_plays (pool ++ more) parts ≡ stored_plays pool parts
stored_plays-more pool more [] stored = refl
stored_plays-more pool more (p ∷ parts) stored =
    let both = and_parts (is_stored (length pool) p) (list_all (is_stored (length pool)) parts) stored in
    ap₂ (λ x xs. x ∷ xs) (part_in-more pool more p both.0) (stored_plays-more pool more parts both.1)

is_stored-more : (size more : ℕ) (part : PlayPart) → size ≤ more → is_stored size part ≡ true → is_stored more part ≡ true
is_stored-more size more part longer stored =
    let parts = and_parts (nat_le (part.first + part.count) size) (nat_le part.count MAX_ORDERS) stored in
    and_from (nat_le (part.first + part.count) more) (nat_le part.count MAX_ORDERS)
    (le-leb (part.first + part.count) more (omega (arith, longer, leb-true (part.first + part.count) size parts.0))) parts.1

all_stored-more :
    (size more : ℕ) (parts : List PlayPart) → size ≤ more → list_all (is_stored size) parts ≡ true →
    list_all (is_stored more) parts ≡ true
all_stored-more size more [] longer stored = refl
all_stored-more size more (p ∷ parts) longer stored =
    let both = and_parts (is_stored size p) (list_all (is_stored size) parts) stored in
    and_from (is_stored more p) (list_all (is_stored more) parts)
    (is_stored-more size more p longer both.0) (all_stored-more size more parts longer both.1)

-- A list with one more play, its orders at the end of the pool.
pub record Pushed (pool pool' : List Order) (parts parts' : List PlayPart) (orders : List Order) : Type 0 where
  pub stored : list_all (is_stored (length pool')) parts' ≡ true
  pub seen : stored_plays pool' parts' ≡ stored_plays pool parts ++ orders ∷ []

abbrev new_part : List Order → List Order → PlayPart
new_part pool orders = record { first = length pool; count = length orders }

pushed_at :
    (pool orders : List Order) (parts : List PlayPart) → list_all (is_stored (length pool)) parts ≡ true →
    length orders ≤ MAX_ORDERS → Pushed pool (pool ++ orders) parts (parts ++ new_part pool orders ∷ []) orders
pushed_at pool orders parts stored few =
    let long = length-append pool orders in
    let size : ℕ = length (pool ++ orders) in
    record {
      stored =
          list_all-append (is_stored size) parts (new_part pool orders ∷ [])
          ∙ and_from (list_all (is_stored size) parts) (list_all (is_stored size) (new_part pool orders ∷ []))
          (all_stored-more (length pool) size parts (omega arith) stored)
          (and_from (is_stored size (new_part pool orders)) true
          (and_from (nat_le (length pool + length orders) size) (nat_le (length orders) MAX_ORDERS)
          (le-leb (length pool + length orders) size (omega arith)) (le-leb (length orders) MAX_ORDERS few)) refl);
      seen =
          map_push (part_in (pool ++ orders)) parts (new_part pool orders)
          ∙ ap₂ (λ xs x. xs ++ x ∷ []) (stored_plays-more pool orders parts stored)
          (ap (take (length orders)) (drop_at pool orders (length pool) refl) ∙ take_all (length orders) orders (omega arith));
    }

pub pushed :
    (pool pool' : List Order) (parts reserved parts' : List PlayPart) (orders added : List Order) (first count : ℕ) →
    list_all (is_stored (length pool)) parts ≡ true → reserved ≡ parts →
    parts' ≡ reserved ++ (record { first = first; count = count }) ∷ [] →
    pool' ≡ pool ++ added → added ≡ orders → first ≡ length pool → count ≡ length orders →
    length orders ≤ MAX_ORDERS → Pushed pool pool' parts parts' orders
pushed pool pool' parts reserved parts' orders added first count stored same parts_are pool_is added_is first_is count_is few =
    rw parts_are (rw same (rw pool_is (rw added_is (rw first_is (rw count_is (pushed_at pool orders parts stored few))))))
