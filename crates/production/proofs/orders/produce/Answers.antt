use Rattle.std.proofs.Common.{◌≡◌, ◌<◌, [], ◌∷◌, ◌++◌, set, length, true, sym, ap, ◌∙◌}
use Rattle.game_tick.specs.Orders.{Goods}
use Rattle.production.proofs.OrderLemmas.{produce_done}
use Rattle.production.proofs.orders.produce.Goals as goal

pub returns : goal.returns
returns c =
    let room : length c.in-Some.a.now.body.builds < 8 = rw c.if-not-produce_fits.false at c.produce_fits.ensures.room in
    let fits : length c.copy-builds.result < 8 = rw c.copy-builds.ensures room in
    let added : c.try_push-added.result ≡ true = c.try_push-added.ensures.room.1 fits in
    let made : c.try_push-added.new.self ≡ c.copy-builds.result ++ (record { kind = c.args.kind; left = c.duration_of-left.result }) ∷ [] = rw added at c.try_push-added.ensures.after in
    let done = produce_done c.args.rules.now (record { actors = c.args.t.now.actors; cash = c.args.purse.now }) c.args.client c.args.kind c.args.id c.duration_of-left.result c.cost_of.result c.get.result c.in-Some.a.now c.copy-builds.result c.try_push-added.new.self c.in-Some.ensures.own c.in-Some.ensures.found (sym c.produce_fits.ensures.value ∙ c.if-not-produce_fits.false) c.copy-builds.ensures c.duration_of-left.ensures c.cost_of.ensures c.get.ensures made in
    record {
      table = c.give_builds.ensures ∙ ap (λ (goods : Goods). record c.args.t.now { actors = goods.actors }) (sym done);
      purse = c.set.ensures ∙ ap (set c.args.purse.now c.args.client) c.saturating_sub-cash.ensures ∙ ap (λ (goods : Goods). goods.cash) (sym done);
    }
