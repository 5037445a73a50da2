use Rattle.std.proofs.Common.{ℕ, Bool, subst, sym}
use Rattle.std.specs.Prelude.{List, slice_index}
use Rattle.std.proofs.lemmas.Option.{get_or_from_slice_get}
use Rattle.rule_traits.specs.declared.kind.Kind.{Kind}
use Rattle.game_model.specs.declared.actor.Actor.{Actor}
use Rattle.game_tick.specs.Orders.{Goods}
use Rattle.bot_player.specs.Products.{AreReady, ProductState}
use Rattle.bot_player.specs.Survey.{owned_of}
use Rattle.bot_player.proofs.ProductLemmas.{products_of}
use Rattle.bot_player.proofs.survey.find_products.Goals as goal

pub returns : goal.returns
returns g c =
    let actors : List Actor = g.A.LendsActors.actors_of c.args.actors.now in
    let rules : List Kind = c.args.rules.now in
    let goods : Goods = record { actors = actors; cash = c.args.cash.now } in
    let p : ProductState = c.of.result in
    let flagged : AreReady rules (owned_of c.args.c actors) c.get.result p.ready =
    subst (λ (owned : List Bool). AreReady rules owned c.get.result p.ready) c.owned_kinds.ensures c.of.ensures.ready in
    let ready : AreReady rules (owned_of c.args.c actors) (slice_index c.args.cash.now c.args.c) p.ready =
    subst (λ (n : ℕ). AreReady rules (owned_of c.args.c actors) n p.ready)
    (sym (get_or_from_slice_get c.args.cash.now c.args.c c.get.result 0 c.get.ensures)) flagged in
    products_of p rules goods c.args.c c.of.ensures.rules c.of.ensures.valid ready
