use Rattle.std.proofs.Common.{◌≡◌, ◌+◌, ◌++◌, ◌∷◌, [], Ok, sym, ap, ap₂, ◌∙◌, arith}
use Rattle.std.specs.Str.{bytes_eq}
use Rattle.std.proofs.lemmas.List.{length_push}
use Rattle.game_orders.specs.declared.limits.TheConstants.{MAX_ORDERS}
use Rattle.drill_words.proofs.OrderListLemmas.{read-more, read-last, read-separator, pushed}
use Rattle.drill_words.proofs.order_list.take_some_orders.Goals as goal

-- The line ends after an order.
pub returns-in-None : goal.returns-in-None
returns-in-None c =
    let added : c.try_push.new.self ≡ c.loop-room.orders ++ c.in_ok-order.order ∷ [] =
    pushed _ _ _ c.try_push.ensures.room (omega arith) c.try_push.ensures.added in
    sym c.loop-room.invariant.whole
    ∙ read-last MAX_ORDERS c.loop-room._room c.loop-room.orders c.loop-room.cursor _ _ _ _ (omega arith) c.in_ok-word.ensures c.in_ok-order.ensures
    c.in-None.ensures.0
    ∙ ap₂ (λ orders words. Ok (orders, words)) (sym added) (sym c.in-None.ensures.1)

-- Another word than `;` follows an order.
pub returns-in-Some-2 : goal.returns-in-Some-2
returns-in-Some-2 c =
    sym c.loop-room.invariant.whole
    ∙ read-separator MAX_ORDERS c.loop-room._room c.loop-room.orders c.loop-room.cursor _ _ _ _ _ _ (omega arith) c.in_ok-word.ensures
    c.in_ok-order.ensures c.in-Some.ensures
    (ap (bytes_eq c.in-Some.word.now) (sym c.as_slice.ensures) ∙ sym c.is_text.ensures ∙ c.if-is_text.false)

-- One more order, and `;`.
pub loop-room-preserved : goal.loop-room-preserved
loop-room-preserved c =
    let added : c.try_push.new.self ≡ c.loop-room.orders ++ c.in_ok-order.order ∷ [] =
    pushed _ _ _ c.try_push.ensures.room (omega arith) c.try_push.ensures.added in
    rw added (
    record {
      whole = read-more MAX_ORDERS c.loop-room._room c.loop-room.orders c.loop-room.cursor _ _ _ _ _ _ (omega arith) c.in_ok-word.ensures
          c.in_ok-order.ensures c.in-Some.ensures (ap (bytes_eq c.in-Some.word.now) (sym c.as_slice.ensures) ∙ sym c.is_text.ensures ∙ c.if-is_text.true)
          ∙ c.loop-room.invariant.whole;
      count = length_push c.loop-room.orders c.in_ok-order.order ∙ ap (λ n. n + 1) c.loop-room.invariant.count;
    }
    )
