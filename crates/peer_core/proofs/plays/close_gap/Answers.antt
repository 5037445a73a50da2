use Rattle.std.proofs.Common.{◌≡◌, ◌∷◌, length, ap, sym, ◌∙◌, arith, subst}
use Rattle.peer_core.specs.Entries.{stored_plays, IsFrom}
use Rattle.peer_core.proofs.PlaysLemmas.{one_moved}
use Rattle.peer_core.proofs.plays.close_gap.Goals as goal

pub loop-orders-preserved : goal.loop-orders-preserved
loop-orders-preserved c =
    let column = c.loop-orders.column.items in
    let here : c.len.result ≡ length column = omega arith in
    let step =
    one_moved column c.in-Some.orders c.loop-orders.early.entries c.take_at.new.early.entries
    (c.in-Some.ensures.taken ∙ ap (λ n. (n, c.in-Some.orders)
    ∷ c.take_at.new.early.entries) here) c.loop-orders.invariant.1 in (
      omega (arith, c.loop-orders.invariant.0, c.push_reserved.ensures.len, c.push_reserved.ensures.capacity, ap length c.in-Some.ensures.taken),
      subst (λ orders. IsFrom (length orders) c.take_at.new.early.entries)
          (sym c.push_reserved.ensures.items) step.0,
      ap (λ orders. stored_plays orders c.take_at.new.early.entries) c.push_reserved.ensures.items
          ∙ step.1 ∙ c.loop-orders.invariant.2,
    )
