-- What a bot orders: a client that plays by a rule, from nothing but the world as it is.
use Rattle.std.specs.Prelude.{ℕ, ◌==◌, not, ◌&&◌, if◌then◌else◌, Bool, List, length, take, filter}
use Rattle.std.specs.Prelude.{false, Option, Some, None, is_some, option_map, find, filter_map}
use Rattle.std.specs.List.{range_with_len, reduce}
use Rattle.std.specs.Option.{option_or}
use Rattle.world_units.specs.declared.cell.CPos.{CPos}
use Rattle.rule_traits.specs.declared.kind.Kind.{Kind}
use Rattle.game_orders.specs.declared.limits.TheConstants.{MAX_ORDERS}
use Rattle.game_orders.specs.declared.order.Order.{Order}
use Rattle.game_orders.specs.declared.order.Order.TheVariants.{Attack, Harvest, Produce}
use Rattle.game_model.specs.declared.actor.Actor.{Actor}
use Rattle.game_model.specs.declared.limits.TheConstants.{NEUTRAL}
use Rattle.game_model.specs.declared.world.World.{World}
use Rattle.game_model.specs.Kinds.{gathers, kind_of}
use Rattle.game_model.specs.NearestActor.{is_nearer}
use Rattle.game_model.specs.Setup.{Setup}
use Rattle.game_model.specs.World.{is_alive}
use Rattle.game_tick.specs.Orders.{Goods, goods_of, produce_fits}

-- The least number of a kind of which a Produce by the client fits on the actor.
abbrev pub least_product : List Kind → Goods → (c : ℕ) → Actor → Option ℕ
least_product rules goods c a =
    find (λ (number : ℕ). produce_fits rules goods c number a) (range_with_len 0 (length rules))

-- The first case: the kind has Production, and the actor has no builds. It is to produce the least
-- kind that fits, if one does.
abbrev pub produce_order : List Kind → Goods → (c : ℕ) → Actor → Option Order
produce_order rules goods c a =
    if is_some (kind_of rules a.kind).production && (length a.body.builds == 0)
    then option_map (Produce a.id) (least_product rules goods c a)
    else None

-- The second case: the kind gathers ore, and the actor has no activities. It is to harvest, at its
-- own cell first.
abbrev pub harvest_order : List Kind → Actor → Option Order
harvest_order rules a =
    if gathers (kind_of rules a.kind) && (length a.body.acts == 0)
    then Some (Harvest a.id a.cell false)
    else None

-- An enemy of a client: a living actor that neither the client nor nobody owns, and whose kind has
-- Health.
abbrev pub is_enemy : List Kind → (c : ℕ) → Actor → Bool
is_enemy rules c x =
    is_alive x && not (x.body.owner == c) && not (x.body.owner == NEUTRAL)
    && is_some (kind_of rules x.kind).health

-- The nearer of two actors, the first of equals.
abbrev pub nearer_of : CPos → Actor → Actor → Actor
nearer_of from x y = if is_nearer from y x then y else x

-- The enemy at the least distance from a cell. Of those that are equally far, the least id decides.
abbrev pub nearest_enemy : List Kind → List Actor → (c : ℕ) → CPos → Option Actor
nearest_enemy rules actors c from = reduce (nearer_of from) (filter (is_enemy rules c) actors)

-- The third case: the kind has Armament, and the actor has no activities. It is to attack the
-- nearest enemy, if there is one.
abbrev pub attack_order : List Kind → List Actor → (c : ℕ) → Actor → Option Order
attack_order rules actors c a =
    if is_some (kind_of rules a.kind).armament && (length a.body.acts == 0)
    then option_map (λ (enemy : Actor). Attack a.id enemy.id false)
    (nearest_enemy rules actors c a.cell)
    else None

-- The order for an actor, if it gets one: the first applicable case decides.
abbrev pub order_for : List Kind → Goods → (c : ℕ) → Actor → Option Order
order_for rules goods c a =
    option_or (produce_order rules goods c a)
    (option_or (harvest_order rules a) (attack_order rules goods.actors c a))

-- The client owns the actor, and it lives.
abbrev pub is_own : (c : ℕ) → Actor → Bool
is_own c a = is_alive a && (a.body.owner == c)

-- The orders of a bot that is client c: of those for its living actors, in the order of the actors,
-- the first `MAX_ORDERS`.
unfoldable pub bot_orders_by : List Kind → Goods → (c : ℕ) → List Order
bot_orders_by rules goods c =
    take MAX_ORDERS (filter_map (order_for rules goods c) (filter (is_own c) goods.actors))

-- The same in a world, whose actors stand by rising id.
abbrev pub bot_orders_of : Setup → World → (c : ℕ) → List Order
bot_orders_of setup w c = bot_orders_by setup.rules (goods_of w) c
