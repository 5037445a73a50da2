use Rattle.std.proofs.Common.{◌≡◌, List, ap, ◌∙◌}
use Rattle.rule_traits.specs.declared.kind.Kind.{Kind}
use Rattle.game_model.specs.Kinds.{costs_in, kind_of}
use Rattle.c_worlds.proofs.RouteLemmas.{way_found, way_sized}
use Rattle.c_worlds.proofs.routes.way_of.Goals as goal

pub walk-requires-clause-sizes : goal.walk-requires-clause-sizes
walk-requires-clause-sizes c =
    let game = c.args.game.now in
    way_sized game.setup game.world.actors c.map-map.result.now c.in_ok-router.router c.in_ok-blocks.blocks c.map-map.ensures c.in_ok-router.ensures
    c.requires.ground c.in_ok-blocks.ensures

pub returns : goal.returns
returns c =
    let game = c.args.game.now in
    let cost : c.costs_of-costs.result ≡ costs_in (kind_of game.setup.rules c.args.ask.kind).mobile =
    c.costs_of-costs.ensures.value ∙ ap (λ (rs : List Kind). costs_in (kind_of rs c.args.ask.kind).mobile) c.rules.ensures in
    way_found game.setup game.world c.map-map.result.now c.args.ask.kind c.args.ask.from c.args.ask.goal c.costs_of-costs.result c.in_ok-blocks.blocks c.walk.result
    c.map-map.ensures cost c.in_ok-blocks.ensures c.walk.ensures.route
