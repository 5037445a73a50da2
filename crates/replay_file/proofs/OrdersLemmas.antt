-- Orders of a version that are read one by one.
use Rattle.std.specs.Prelude.{◌≡◌, ℕ, suc, ◌+◌, ◌-◌, ◌<◌, ◌≤◌, ◌^◌, nat_lt, List, [], ◌∷◌, ◌++◌}
use Rattle.std.specs.Prelude.{length, Result, Ok, Err, false}
use Rattle.std.specs.List.{AllByRecursion}
use Rattle.std.proofs.Common.{refl, sym, ap, ◌∙◌, arith, append_assoc}
use Rattle.std.proofs.lemmas.Bool.{le-ltb}
use Rattle.std.proofs.lemmas.List.{append-nil}
use Rattle.wire_bytes.specs.declared.short.Short.{Short}
use Rattle.wire_bytes.specs.Field.{field_bytes}
use Rattle.wire_bytes.specs.Read.{field_at}
use Rattle.wire_bytes.proofs.ReadLemmas.{written_is_read}
use Rattle.game_orders.specs.declared.limits.TheConstants.{MAX_ORDERS}
use Rattle.game_orders.specs.declared.order.Order.{Order}
use Rattle.game_orders.specs.declared.order.Order.TheVariants.{Move, Attack, Harvest, Stop}
use Rattle.game_orders.specs.declared.order.Order.TheVariants.{Produce, Cancel, Donate, Pace}
use Rattle.game_orders.specs.OrderBytes.{tag_of, fields_bytes, order_bytes, each_order, orders_bytes}
use Rattle.game_orders.specs.OrderBytes.{FitsOrder, FitsOrders}
use Rattle.game_orders.proofs.OrderBytesLemmas.{order_again}
use Rattle.game_orders.proofs.OrdersLemmas.{each_spelled}
use Rattle.replay_file.specs.declared.limits.TheConstants.{GREATEST_TAG}
use Rattle.replay_file.specs.declared.part_fault.PartFault.{PartFault}
use Rattle.replay_file.specs.PartReading.{PartRead, order_in, orders_after, orders_in}
use Rattle.replay_file.specs.PartRules.{HasTagUpTo}

tag_small : (order : Order) → tag_of order < 256 ^ 1
tag_small (Move actor cell queued) = omega arith
tag_small (Attack actor target queued) = omega arith
tag_small (Harvest actor cell queued) = omega arith
tag_small (Stop actor) = omega arith
tag_small (Produce actor kind) = omega arith
tag_small (Cancel actor) = omega arith
tag_small (Donate to amount) = omega arith
tag_small (Pace ticks) = omega arith

-- Every order has one of the known tags.
pub tag_known : (order : Order) → tag_of order ≤ GREATEST_TAG
tag_known (Move actor cell queued) = omega arith
tag_known (Attack actor target queued) = omega arith
tag_known (Harvest actor cell queued) = omega arith
tag_known (Stop actor) = omega arith
tag_known (Produce actor kind) = omega arith
tag_known (Cancel actor) = omega arith
tag_known (Donate to amount) = omega arith
tag_known (Pace ticks) = omega arith

-- An order's spelling begins with its tag.
tag_at : (order : Order) (rest : List ℕ) →
    field_at 1 (order_bytes order ++ rest) ≡ Ok (tag_of order, fields_bytes order ++ rest)
unfolding order_bytes
tag_at order rest =
    ap (field_at 1) (append_assoc (field_bytes 1 (tag_of order)) (fields_bytes order) rest)
    ∙ written_is_read 1 (tag_of order) (fields_bytes order ++ rest) (tag_small order)

one_tag :
    (tag other : ℕ) (rest more : List ℕ) (read : Result (ℕ × List ℕ) Short) →
    read ≡ Ok (tag, rest) → read ≡ Ok (other, more) → tag ≡ other
one_tag tag other rest more read is also =
    let both : (tag, rest) ≡ (other, more) = cc in
    ap (λ (pair : ℕ × List ℕ). pair.0) both

-- The tag that was read first is that of the order.
pub first_tag :
    (greatest tag : ℕ) (bytes left rest : List ℕ) (order : Order) →
    field_at 1 bytes ≡ Ok (tag, left) → bytes ≡ order_bytes order ++ rest → tag ≤ greatest →
    tag_of order ≤ greatest
first_tag greatest tag bytes left rest order read spelled small =
    let both : field_at 1 bytes ≡ Ok (tag_of order, fields_bytes order ++ rest) =
    ap (field_at 1) spelled ∙ tag_at order rest in
    let same : tag ≡ tag_of order =
    one_tag tag (tag_of order) left (fields_bytes order ++ rest) (field_at 1 bytes) read both in
    omega (arith, same, small)

-- One more order was read of so many.
pub next_is_held :
    (greatest : ℕ) (held : List Order) (count done : ℕ) (bytes after : List ℕ) (order : Order)
    (total : PartRead (List Order)) → done < count → order_in greatest bytes ≡ Ok (order, after) →
    orders_after greatest held (count - done) bytes ≡ total →
    orders_after greatest (held ++ order ∷ []) (count - (done + 1)) after ≡ total
unfolding orders_after
next_is_held greatest held count done bytes after order total some read so_far =
    let left : count - done ≡ suc (count - (done + 1)) = omega arith in
    let step : orders_after greatest held (count - done) bytes
    ≡ orders_after greatest (held ++ order ∷ []) (count - (done + 1)) after =
    rw (left, read) refl in
    sym step ∙ so_far

-- The next order is none.
pub next_is_bad :
    (greatest : ℕ) (held : List Order) (count done : ℕ) (bytes : List ℕ) (fault : PartFault)
    (total : PartRead (List Order)) → done < count → order_in greatest bytes ≡ Err fault →
    orders_after greatest held (count - done) bytes ≡ total → total ≡ Err fault
unfolding orders_after
next_is_bad greatest held count done bytes fault total some read so_far =
    let left : count - done ≡ suc (count - (done + 1)) = omega arith in
    let step : orders_after greatest held (count - done) bytes ≡ Err fault =
    rw (left, read) refl in
    sym so_far ∙ step

-- All were read.
pub all_are_held :
    (greatest : ℕ) (held : List Order) (count done : ℕ) (bytes : List ℕ)
    (total : PartRead (List Order)) → count ≤ done →
    orders_after greatest held (count - done) bytes ≡ total → total ≡ Ok (held, bytes)
unfolding orders_after
all_are_held greatest held count done bytes total all so_far =
    let none : count - done ≡ 0 = omega arith in
    let end : orders_after greatest held (count - done) bytes ≡ Ok (held, bytes) =
    rw none refl in
    sym so_far ∙ end

pub ruleset reading_steps = (next_is_held, next_is_bad, all_are_held, each_spelled)

-- One more item has the property.
pub all_added : {A : Type 0} (P : A → Type 0) (items : List A) (item : A) →
    AllByRecursion P items → P item → AllByRecursion P (items ++ item ∷ [])
all_added P [] item all one = (one, tt)
all_added P (first ∷ items) item all one = (all.0, all_added P items item all.1 one)

order_again_in : (greatest : ℕ) (order : Order) (rest : List ℕ) → FitsOrder order →
    HasTagUpTo greatest order → order_in greatest (order_bytes order ++ rest) ≡ Ok (order, rest)
unfolding order_in
order_again_in greatest order rest fits known =
    rw (tag_at order rest, le-ltb greatest (tag_of order) known, order_again order rest fits) refl

each_again :
    (greatest : ℕ) (held orders : List Order) (rest : List ℕ) → AllByRecursion FitsOrder orders →
    AllByRecursion (HasTagUpTo greatest) orders →
    orders_after greatest held (length orders) (each_order orders ++ rest)
    ≡ Ok (held ++ orders, rest)
unfolding orders_after
each_again greatest held [] rest fits known =
    ap (λ (all : List Order). Ok (all, rest)) (sym (append-nil held))
each_again greatest held (order ∷ orders) rest fits known =
    ap (orders_after greatest held (suc (length orders)))
    (append_assoc (order_bytes order) (each_order orders) rest)
    ∙ rw (order_again_in greatest order (each_order orders ++ rest) fits.0 known.0)
    (each_again greatest (held ++ order ∷ []) orders rest fits.1 known.1
    ∙ ap (λ (all : List Order). Ok (all, rest)) (append_assoc held (order ∷ []) orders))

-- The spelling of a client's orders reads as the orders, whatever follows it.
pub orders_again_in :
    (greatest : ℕ) (orders : List Order) (rest : List ℕ) → FitsOrders orders →
    AllByRecursion (HasTagUpTo greatest) orders →
    orders_in greatest (orders_bytes orders ++ rest) ≡ Ok (orders, rest)
unfolding orders_in orders_bytes
orders_again_in greatest orders rest fits known =
    let few : nat_lt MAX_ORDERS (length orders) ≡ false =
    le-ltb MAX_ORDERS (length orders) fits.0 in
    ap (orders_in greatest) (append_assoc (field_bytes 1 (length orders)) (each_order orders) rest)
    ∙ rw (
      written_is_read 1 (length orders) (each_order orders ++ rest)
          (omega (arith, fits.0)),
      few,
    )
    (each_again greatest [] orders rest fits.1 known)
