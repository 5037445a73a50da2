-- Lists of orders that are read one by one.
use Rattle.std.specs.Prelude.{◌≡◌, ℕ, suc, ◌+◌, ◌-◌, ◌*◌, ◌<◌, ◌≤◌, nat_lt, List, [], ◌∷◌, ◌++◌}
use Rattle.std.specs.Prelude.{length, take, Ok, Err, false}
use Rattle.std.specs.List.{AllByRecursion}
use Rattle.std.proofs.Common.{refl, sym, ap, subst, ◌∙◌, arith, append_assoc, get_or}
use Rattle.std.proofs.lemmas.Bool.{le-ltb}
use Rattle.std.proofs.lemmas.List.{append-nil, length-append, take_more, take_all}
use Rattle.wire_bytes.specs.Field.{field_bytes}
use Rattle.wire_bytes.proofs.FieldLemmas.{field_length}
use Rattle.wire_bytes.proofs.ReadLemmas.{written_is_read}
use Rattle.wire_bytes.proofs.WriteLemmas.{extends_once}
use Rattle.game_orders.specs.declared.limits.TheConstants.{MAX_ORDERS}
use Rattle.game_orders.specs.declared.order.Order.{Order}
use Rattle.game_orders.specs.declared.order.Order.TheVariants.{Move, Attack, Harvest, Stop}
use Rattle.game_orders.specs.declared.order.Order.TheVariants.{Produce, Cancel, Donate, Pace}
use Rattle.game_orders.specs.declared.order_fault.OrderFault.{OrderFault}
use Rattle.game_orders.specs.OrderBytes.{order_bytes, each_order, orders_bytes}
use Rattle.game_orders.specs.OrderBytes.{FitsOrder, FitsOrders}
use Rattle.game_orders.proofs.OrderBytesLemmas.{order_again, order_size, order_bytes_size}
use Rattle.game_orders.specs.OrderReading.{OrdersRead, list_fault, order_at}
use Rattle.game_orders.specs.OrderReading.{orders_after, orders_at}

-- One more order was read of so many.
pub next_is_held :
    (held : List Order) (count done : ℕ) (bytes after : List ℕ) (order : Order)
    (total : OrdersRead) → done < count → order_at bytes ≡ Ok (order, after) →
    orders_after held (count - done) bytes ≡ total →
    orders_after (held ++ order ∷ []) (count - (done + 1)) after ≡ total
unfolding orders_after
next_is_held held count done bytes after order total some read so_far =
    let left : count - done ≡ suc (count - (done + 1)) = omega arith in
    let step : orders_after held (count - done) bytes
    ≡ orders_after (held ++ order ∷ []) (count - (done + 1)) after = rw (left, read) refl in
    sym step ∙ so_far

-- The next order is none.
pub next_is_bad :
    (held : List Order) (count done : ℕ) (bytes : List ℕ) (fault : OrderFault)
    (total : OrdersRead) → done < count → order_at bytes ≡ Err fault →
    orders_after held (count - done) bytes ≡ total → total ≡ Err (list_fault fault)
unfolding orders_after
next_is_bad held count done bytes fault total some read so_far =
    let left : count - done ≡ suc (count - (done + 1)) = omega arith in
    let step : orders_after held (count - done) bytes ≡ Err (list_fault fault) =
    rw (left, read) refl in
    sym so_far ∙ step

-- All were read.
pub all_are_held :
    (held : List Order) (count done : ℕ) (bytes : List ℕ) (total : OrdersRead) → count ≤ done →
    orders_after held (count - done) bytes ≡ total → total ≡ Ok (held, bytes)
unfolding orders_after
all_are_held held count done bytes total all so_far =
    let none : count - done ≡ 0 = omega arith in
    let end : orders_after held (count - done) bytes ≡ Ok (held, bytes) = rw none refl in
    sym so_far ∙ end

-- The spellings of orders read as the orders, whatever follows them.
each_again :
    (held orders : List Order) (rest : List ℕ) → AllByRecursion FitsOrder orders →
    orders_after held (length orders) (each_order orders ++ rest) ≡ Ok (held ++ orders, rest)
unfolding orders_after
each_again held [] rest fits = ap (λ (all : List Order). Ok (all, rest)) (sym (append-nil held))
each_again held (order ∷ orders) rest fits =
    ap (orders_after held (suc (length orders)))
    (append_assoc (order_bytes order) (each_order orders) rest)
    ∙ rw (order_again order (each_order orders ++ rest) fits.0)
    (each_again (held ++ order ∷ []) orders rest fits.1
    ∙ ap (λ (all : List Order). Ok (all, rest)) (append_assoc held (order ∷ []) orders))

-- The spelling of a client's orders reads as the orders, whatever follows it.
pub orders_again : (orders : List Order) (rest : List ℕ) → FitsOrders orders →
    orders_at (orders_bytes orders ++ rest) ≡ Ok (orders, rest)
unfolding orders_at orders_bytes
orders_again orders rest fits =
    let few : nat_lt MAX_ORDERS (length orders) ≡ false =
    le-ltb MAX_ORDERS (length orders) fits.0 in
    ap orders_at (append_assoc (field_bytes 1 (length orders)) (each_order orders) rest)
    ∙ rw (
      written_is_read 1 (length orders) (each_order orders ++ rest)
          (omega (arith, fits.0)),
      few,
    )
    (each_again [] orders rest fits.1)

-- The spelling of one order more.
pub each_more : (held : List Order) (order : Order) →
    each_order (held ++ order ∷ []) ≡ each_order held ++ order_bytes order
each_more [] order = append-nil (order_bytes order)
each_more (first ∷ held) order =
    ap (λ (bytes : List ℕ). order_bytes first ++ bytes) (each_more held order)
    ∙ sym (append_assoc (order_bytes first) (each_order held) (order_bytes order))

-- The bytes of one order more.
pub each_spelled :
    (held : List Order) (order : Order) (all bytes after : List ℕ) →
    all ≡ each_order held ++ bytes → bytes ≡ order_bytes order ++ after →
    all ≡ each_order (held ++ order ∷ []) ++ after
each_spelled held order all bytes after so_far spelled =
    so_far ∙ ap (λ (rest : List ℕ). each_order held ++ rest) spelled
    ∙ sym (append_assoc (each_order held) (order_bytes order) after)
    ∙ ap (λ (front : List ℕ). front ++ after) (sym (each_more held order))

pub ruleset reading_steps = (next_is_held, next_is_bad, all_are_held, each_spelled)

-- One order more was written.
pub each_written :
    (orders : List Order) (i : ℕ) (order : Order) (old mid new : List ℕ) → i < length orders →
    order ≡ get_or orders i order → mid ≡ old ++ each_order (take i orders) →
    new ≡ mid ++ order_bytes order → new ≡ old ++ each_order (take (i + 1) orders)
each_written orders i order old mid new within at so_far is =
    let more : take (i + 1) orders ≡ take i orders ++ order ∷ [] =
    take_more orders i order within
    ∙ ap (λ (last : Order). take i orders ++ last ∷ []) (sym at) in
    rw more (is ∙ ap (λ (front : List ℕ). front ++ order_bytes order) so_far
    ∙ append_assoc old (each_order (take i orders)) (order_bytes order)
    ∙ ap (λ (tail : List ℕ). old ++ tail) (sym (each_more (take i orders) order)))

pub ruleset writing_steps = (extends_once, each_written)

-- The length of one order more.
pub each_longer :
    (orders : List Order) (i : ℕ) (order : Order) (before now more : ℕ) → i < length orders →
    order ≡ get_or orders i order → before ≡ 1 + length (each_order (take i orders)) →
    more ≡ length (order_bytes order) → now ≡ before + more →
    now ≡ 1 + length (each_order (take (i + 1) orders))
each_longer orders i order before now more within at so_far more_is is =
    let taken : take (i + 1) orders ≡ take i orders ++ order ∷ [] =
    take_more orders i order within
    ∙ ap (λ (last : Order). take i orders ++ last ∷ []) (sym at) in
    let whole : each_order (take (i + 1) orders)
    ≡ each_order (take i orders) ++ order_bytes order =
    ap each_order taken ∙ each_more (take i orders) order in
    let size = length-append (each_order (take i orders)) (order_bytes order) in
    rw whole (omega (arith, size, so_far, more_is, is))

-- The length of the count and all orders.
pub all_long : (orders : List Order) →
    length (field_bytes 1 (length orders) ++ each_order orders) ≡ 1 + length (each_order orders)
all_long orders =
    length-append (field_bytes 1 (length orders)) (each_order orders)
    ∙ rw (field_length 1 (length orders)) refl

pub ruleset length_steps = (order_bytes_size, each_longer, all_long)

-- The length of the count and of all orders that were gone over.
pub all_counted :
    (orders items : List Order) (i count : ℕ) → items ≡ orders → length items ≤ i →
    count ≡ 1 + length (each_order (take i items)) → count ≡ length (orders_bytes orders)
unfolding orders_bytes
all_counted orders items i count same past is =
    is ∙ ap (λ (all : List Order). 1 + length (each_order all)) (take_all i items past ∙ same)
    ∙ sym (all_long orders)

-- No order's spelling has more than ten bytes.
order_is_short : (order : Order) → length (order_bytes order) ≤ 10
order_is_short order = rw (order_bytes_size order) (short order)
  where
    short : (order : Order) → order_size order ≤ 10
    short (Move actor cell queued) = omega arith
    short (Attack actor target queued) = omega arith
    short (Harvest actor cell queued) = omega arith
    short (Stop actor) = omega arith
    short (Produce actor kind) = omega arith
    short (Cancel actor) = omega arith
    short (Donate to amount) = omega arith
    short (Pace ticks) = omega arith

each_is_short : (orders : List Order) → length (each_order orders) ≤ 10 * length orders
each_is_short [] = omega arith
each_is_short (order ∷ orders) =
    omega (
      arith,
      length-append (order_bytes order) (each_order orders),
      order_is_short order,
      each_is_short orders,
    )

-- The spelling of a client's orders has at most 161 bytes.
pub orders_are_short : (orders : List Order) → length orders ≤ MAX_ORDERS →
    length (orders_bytes orders) ≤ 161
unfolding orders_bytes
orders_are_short orders few =
    omega (arith, all_long orders, each_is_short orders, few)

all_added : (orders : List Order) (order : Order) → AllByRecursion FitsOrder orders →
    FitsOrder order → AllByRecursion FitsOrder (orders ++ order ∷ [])
all_added [] order fit fits = (fits, tt)
all_added (first ∷ orders) order fit fits = (fit.0, all_added orders order fit.1 fits)

-- One order more fits.
pub one_more_fits :
    (orders : List Order) (i : ℕ) (order : Order) → i < length orders →
    order ≡ get_or orders i order → AllByRecursion FitsOrder (take i orders) → FitsOrder order →
    AllByRecursion FitsOrder (take (i + 1) orders)
one_more_fits orders i order within at so_far fits =
    let more : take (i + 1) orders ≡ take i orders ++ order ∷ [] =
    take_more orders i order within
    ∙ ap (λ (last : Order). take i orders ++ last ∷ []) (sym at) in
    subst (AllByRecursion FitsOrder) (sym more) (all_added (take i orders) order so_far fits)

-- All that were gone over fit.
pub all_fit :
    (orders items : List Order) (i : ℕ) → items ≡ orders → length items ≤ i →
    length items ≤ MAX_ORDERS → AllByRecursion FitsOrder (take i items) → FitsOrders orders
all_fit orders items i same past few fits =
    subst FitsOrders same
    (few, subst (AllByRecursion FitsOrder) (take_all i items past) fits)

pub ruleset fitting_steps = (one_more_fits, all_fit)
