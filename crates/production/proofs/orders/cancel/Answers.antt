use Rattle.std.proofs.Common.{◌≡◌, ◌-◌, Some, slice_get, length, sym, ap, ◌∙◌}
use Rattle.std.specs.List.{remove}
use Rattle.game_tick.specs.Orders.{Goods}
use Rattle.game_tick.specs.Harvesting.{paid_to}
use Rattle.production.proofs.OrderLemmas.{cancel_done}
use Rattle.production.proofs.orders.cancel.Goals as goal

pub returns : goal.returns
returns c =
    let at : slice_get c.copy-builds.result (length c.copy-builds.result - 1) ≡ Some c.remove-last.result = rw c.len.ensures.value at c.remove-last.ensures.value in
    let made : c.remove-last.new.self ≡ remove c.copy-builds.result (length c.copy-builds.result - 1) = rw c.len.ensures.value at c.remove-last.ensures.rest in
    let done = cancel_done c.args.rules.now (record { actors = c.args.t.now.actors; cash = c.args.purse.now }) c.args.client c.args.id c.in-Some.a.now c.copy-builds.result c.remove-last.new.self c.remove-last.result c.in-Some.ensures.own c.in-Some.ensures.found (sym c.is_producer.ensures ∙ c.if-not-is_producer.false) c.copy-builds.ensures (λ none. absurd (let empty = c.is_empty.ensures.1 none in let not_empty = c.if-is_empty.false in cc)) at made in
    record {
      table = c.give_builds.ensures ∙ ap (λ (goods : Goods). record c.args.t.now { actors = goods.actors }) (sym done);
      purse = c.pay.ensures ∙ ap (paid_to c.args.purse.now c.args.client) c.cost_of.ensures ∙ ap (λ (goods : Goods). goods.cash) (sym done);
    }
