-- Orders, read one after another.
use Rattle.std.proofs.Common.{◌≡◌, ℕ, zero, suc, ◌+◌, ◌-◌, ◌<◌, Bool, true, false, List, [], ◌∷◌}
use Rattle.std.proofs.Common.{◌++◌, Ok, Err, refl, ap, sym, ◌∙◌, arith, cond, append_assoc}
use Rattle.std.specs.Prelude.{codes, IsTrue, ◌↔◌}
use Rattle.std.specs.Bool.{OnTrue}
use Rattle.std.specs.Str.{bytes_eq}
use Rattle.std.proofs.lemmas.Bool.{false≢true}
use Rattle.game_orders.specs.declared.order.Order.{Order}
use Rattle.drill_words.specs.declared.order_word.OrderWord.{OrderWord}
use Rattle.drill_words.specs.declared.word_fault.WordFault.{WordFault}
use Rattle.drill_words.specs.declared.word_fault.WordFault.TheVariants.{BadWord, TooManyOrders}
use Rattle.base.specs.Steps.{◌>>=◌}
use Rattle.drill_words.specs.Read.{Read}
use Rattle.drill_words.proofs.EventLineLemmas.{orders_at-done, orders_at-some}
use Rattle.drill_words.specs.OrderList.{order_word_at, order_at, further_orders, orders_from}

-- What is read after some orders, with these before it.
abbrev pub prefixed_orders : List Order → Read (List Order) → Read (List Order)
prefixed_orders prefix read = read >>= λ orders. Ok (prefix ++ orders.0, orders.1)

pub prefixed_orders-nil : (read : Read (List Order)) → prefixed_orders [] read ≡ read
prefixed_orders-nil (Ok orders) = refl
prefixed_orders-nil (Err fault) = refl

prefixed_orders-push :
    (prefix : List Order) (order : Order) (read : Read (List Order)) →
    prefixed_orders prefix (read >>= λ others. Ok (order ∷ others.0, others.1)) ≡ prefixed_orders (prefix ++ order ∷ []) read
prefixed_orders-push prefix order (Ok others) = ap (λ orders. Ok (orders, others.1)) (sym (append_assoc prefix (order ∷ []) others.0))
prefixed_orders-push prefix order (Err fault) = refl

-- Where there is room, an order is read, and then what comes after it.
orders_from-order :
    (prefix : List Order) (room more : ℕ) (words tail rest : List (List ℕ)) (word : OrderWord) (order : Order) →
    room ≡ suc more → order_word_at words ≡ Ok (word, tail) → order_at word tail ≡ Ok (order, rest) →
    prefixed_orders prefix (orders_from room words) ≡ prefixed_orders (prefix ++ order ∷ []) (further_orders (orders_from more) rest)
unfolding orders_from
orders_from-order prefix room more words tail rest word order has_room first read =
    let step = λ (w : OrderWord × List (List ℕ)) (o : Order × List (List ℕ)). further_orders (orders_from more) o.1 >>= λ others. Ok (o.0 ∷ others.0, others.1) in
    ap (λ n. prefixed_orders prefix (orders_from n words)) has_room
    ∙ ap (λ (r : Read OrderWord). prefixed_orders prefix (r >>= λ w. order_at w.0 w.1 >>= step w)) first
    ∙ ap (λ (r : Read Order). prefixed_orders prefix (r >>= step (word, tail))) read
    ∙ prefixed_orders-push prefix order (further_orders (orders_from more) rest)

-- One more order, and another after it.
orders_from-more :
    (prefix : List Order) (room more : ℕ) (words tail rest others : List (List ℕ)) (separator : List ℕ) (word : OrderWord) (order : Order) →
    room ≡ suc more → order_word_at words ≡ Ok (word, tail) → order_at word tail ≡ Ok (order, rest) →
    rest ≡ separator ∷ others → bytes_eq separator (codes ";") ≡ true →
    prefixed_orders (prefix ++ order ∷ []) (orders_from more others) ≡ prefixed_orders prefix (orders_from room words)
unfolding further_orders
orders_from-more prefix room more words tail rest others separator word order has_room first read left separates =
    sym (orders_from-order prefix room more words tail rest word order has_room first read
    ∙ ap (λ ws. prefixed_orders (prefix ++ order ∷ []) (further_orders (orders_from more) ws)) left
    ∙ ap (λ b. prefixed_orders (prefix ++ order ∷ []) (cond b (orders_from more others) (Err BadWord))) separates)

-- The last order of a line.
orders_from-last :
    (prefix : List Order) (room more : ℕ) (words tail rest : List (List ℕ)) (word : OrderWord) (order : Order) →
    room ≡ suc more → order_word_at words ≡ Ok (word, tail) → order_at word tail ≡ Ok (order, rest) → rest ≡ [] →
    prefixed_orders prefix (orders_from room words) ≡ Ok (prefix ++ order ∷ [], [])
unfolding further_orders
orders_from-last prefix room more words tail rest word order has_room first read none =
    orders_from-order prefix room more words tail rest word order has_room first read
    ∙ ap (λ ws. prefixed_orders (prefix ++ order ∷ []) (further_orders (orders_from more) ws)) none
    ∙ ap (λ orders. Ok (orders, [])) (append_assoc prefix (order ∷ []) [])

-- A word after an order that isn't `;`.
orders_from-separator :
    (prefix : List Order) (room more : ℕ) (words tail rest others : List (List ℕ)) (separator : List ℕ) (word : OrderWord) (order : Order) →
    room ≡ suc more → order_word_at words ≡ Ok (word, tail) → order_at word tail ≡ Ok (order, rest) →
    rest ≡ separator ∷ others → bytes_eq separator (codes ";") ≡ false →
    prefixed_orders prefix (orders_from room words) ≡ Err BadWord
unfolding further_orders
orders_from-separator prefix room more words tail rest others separator word order has_room first read left differs =
    orders_from-order prefix room more words tail rest word order has_room first read
    ∙ ap (λ ws. prefixed_orders (prefix ++ order ∷ []) (further_orders (orders_from more) ws)) left
    ∙ ap (λ b. prefixed_orders (prefix ++ order ∷ []) (cond b (orders_from more others) (Err BadWord))) differs

-- A word that begins no order, whether there is room or not.
pub orders_from-word :
    (prefix : List Order) (room : ℕ) (words : List (List ℕ)) (fault : WordFault) → order_word_at words ≡ Err fault →
    prefixed_orders prefix (orders_from room words) ≡ Err fault
unfolding orders_from
orders_from-word prefix zero words fault first =
    ap (λ (r : Read OrderWord). prefixed_orders prefix (r >>= λ w. Err TooManyOrders)) first
orders_from-word prefix (suc more) words fault first =
    ap (λ (r : Read OrderWord). prefixed_orders prefix (r >>= λ w. order_at w.0 w.1 >>= λ o. further_orders (orders_from more) o.1 >>= λ others. Ok (o.0 ∷ others.0, others.1))) first

-- A fault after the first word of an order.
orders_from-fault :
    (prefix : List Order) (room more : ℕ) (words tail : List (List ℕ)) (word : OrderWord) (fault : WordFault) →
    room ≡ suc more → order_word_at words ≡ Ok (word, tail) → order_at word tail ≡ Err fault →
    prefixed_orders prefix (orders_from room words) ≡ Err fault
unfolding orders_from
orders_from-fault prefix room more words tail word fault has_room first read =
    let step = λ (w : OrderWord × List (List ℕ)) (o : Order × List (List ℕ)). further_orders (orders_from more) o.1 >>= λ others. Ok (o.0 ∷ others.0, others.1) in
    ap (λ n. prefixed_orders prefix (orders_from n words)) has_room
    ∙ ap (λ (r : Read OrderWord). prefixed_orders prefix (r >>= λ w. order_at w.0 w.1 >>= step w)) first
    ∙ ap (λ (r : Read Order). prefixed_orders prefix (r >>= step (word, tail))) read

-- One order too many.
pub orders_from-full :
    (prefix : List Order) (room : ℕ) (words tail : List (List ℕ)) (word : OrderWord) →
    room ≡ 0 → order_word_at words ≡ Ok (word, tail) →
    prefixed_orders prefix (orders_from room words) ≡ Err TooManyOrders
unfolding orders_from
orders_from-full prefix room words tail word full first =
    ap (λ n. prefixed_orders prefix (orders_from n words)) full
    ∙ ap (λ (r : Read OrderWord). prefixed_orders prefix (r >>= λ w. Err TooManyOrders)) first

-- Where one more is left, what is left is one more than what is left then.
one_left : (most count : ℕ) → count < most → most - count ≡ suc (most - (count + 1))
one_left most count left = omega arith

-- The same facts, where so many of the most orders are read.
pub read-more :
    (most count : ℕ) (prefix : List Order) (words tail rest others : List (List ℕ)) (separator : List ℕ) (word : OrderWord) (order : Order) →
    count < most → order_word_at words ≡ Ok (word, tail) → order_at word tail ≡ Ok (order, rest) →
    rest ≡ separator ∷ others → bytes_eq separator (codes ";") ≡ true →
    prefixed_orders (prefix ++ order ∷ []) (orders_from (most - (count + 1)) others) ≡ prefixed_orders prefix (orders_from (most - count) words)
read-more most count prefix words tail rest others separator word order left =
    orders_from-more prefix (most - count) (most - (count + 1)) words tail rest others separator word order (one_left most count left)

pub read-last :
    (most count : ℕ) (prefix : List Order) (words tail rest : List (List ℕ)) (word : OrderWord) (order : Order) →
    count < most → order_word_at words ≡ Ok (word, tail) → order_at word tail ≡ Ok (order, rest) → rest ≡ [] →
    prefixed_orders prefix (orders_from (most - count) words) ≡ Ok (prefix ++ order ∷ [], [])
read-last most count prefix words tail rest word order left =
    orders_from-last prefix (most - count) (most - (count + 1)) words tail rest word order (one_left most count left)

pub read-separator :
    (most count : ℕ) (prefix : List Order) (words tail rest others : List (List ℕ)) (separator : List ℕ) (word : OrderWord) (order : Order) →
    count < most → order_word_at words ≡ Ok (word, tail) → order_at word tail ≡ Ok (order, rest) →
    rest ≡ separator ∷ others → bytes_eq separator (codes ";") ≡ false →
    prefixed_orders prefix (orders_from (most - count) words) ≡ Err BadWord
read-separator most count prefix words tail rest others separator word order left =
    orders_from-separator prefix (most - count) (most - (count + 1)) words tail rest others separator word order (one_left most count left)

pub read-fault :
    (most count : ℕ) (prefix : List Order) (words tail : List (List ℕ)) (word : OrderWord) (fault : WordFault) →
    count < most → order_word_at words ≡ Ok (word, tail) → order_at word tail ≡ Err fault →
    prefixed_orders prefix (orders_from (most - count) words) ≡ Err fault
read-fault most count prefix words tail word fault left =
    orders_from-fault prefix (most - count) (most - (count + 1)) words tail word fault (one_left most count left)

-- Where there is room, the order is added.
pub pushed : (result : Bool) (Room Added : Type 0) → IsTrue result ↔ Room → Room → OnTrue result Added → Added
pushed true Room Added room has added = added
pushed false Room Added room has added = absurd (false≢true (room.1 has))

pub ruleset order_steps = (prefixed_orders-nil, read-more, read-last, read-separator, orders_from-word, read-fault, orders_from-full, orders_at-done, orders_at-some)
