-- The orders of a bot before all enemies were looked at.
use Rattle.std.specs.Prelude.{ℕ, ◌==◌, nat_lt, ◌&&◌, ◌||◌, if◌then◌else◌, Bool, true, false, List}
use Rattle.std.specs.Prelude.{length, Option, None, is_some, option_map, filter_map, map, take}
use Rattle.std.specs.Option.{option_or}
use Rattle.world_units.specs.declared.cell.CPos.{CPos}
use Rattle.world_units.specs.Cells.{dist_sq_of}
use Rattle.rule_traits.specs.declared.kind.Kind.{Kind}
use Rattle.game_orders.specs.declared.limits.TheConstants.{MAX_ORDERS}
use Rattle.game_orders.specs.declared.order.Order.{Order}
use Rattle.game_orders.specs.declared.order.Order.TheVariants as order
use Rattle.game_model.specs.declared.actor.Actor.{Actor}
use Rattle.game_model.specs.Kinds.{kind_of}
use Rattle.bot_player.specs.declared.draft.Draft.{Draft}
use Rattle.bot_player.specs.declared.draft.Draft.TheVariants.{Whole, Attack}
use Rattle.bot_player.specs.declared.draft.Aim.{Aim}
use Rattle.bot_player.specs.declared.survey.Enemy.{Enemy}
use Rattle.bot_player.specs.BotOrders.{harvest_order, is_enemy, is_own, produce_order}
use Rattle.bot_player.specs.Survey.{enemy_of, first_enemy, Sight}

-- An enemy, seen from a cell.
abbrev pub aim_at : CPos → Enemy → Aim
aim_at from enemy = record { far = dist_sq_of from enemy.cell; id = enemy.id }

-- The nearer of the two, the first of equals.
abbrev pub nearer_aim : Aim → Aim → Aim
nearer_aim x y =
    if nat_lt y.far x.far || ((y.far == x.far) && nat_lt y.id x.id) then y else x

-- A draft after one enemy more.
abbrev pub seeing : Enemy → Draft → Draft
seeing enemy (Whole order) = Whole order
seeing enemy (Attack actor from aim) = Attack actor from (nearer_aim aim (aim_at from enemy))

-- The order of a draft.
abbrev pub ordered : Draft → Order
ordered (Whole order) = order
ordered (Attack actor from aim) = order.Attack actor aim.id false

-- The drafts after one actor more, and after all of these.
abbrev pub shown : List Kind → (c : ℕ) → List Draft → Actor → List Draft
shown rules c drafts x =
    if is_enemy rules c x then map (seeing (enemy_of x)) drafts else drafts

-- The third case, before any enemy but the first was looked at.
abbrev pub attack_draft : List Kind → Option Enemy → Actor → Option Draft
attack_draft rules first a =
    if is_some (kind_of rules a.kind).armament && (length a.body.acts == 0)
    then option_map (λ (enemy : Enemy). Attack a.id a.cell (aim_at a.cell enemy)) first
    else None

-- The draft for an actor, if it gets an order.
abbrev pub draft_for : Sight → Actor → Option Draft
draft_for s a =
    option_or (option_map Whole (produce_order s.rules s.goods s.c a))
    (option_or (option_map Whole (harvest_order s.rules a))
    (attack_draft s.rules (first_enemy s.rules s.goods.actors s.c) a))

-- The same, for the client's living actors alone.
abbrev pub own_draft : Sight → Actor → Option Draft
own_draft s a = if is_own s.c a then draft_for s a else None

-- The first drafts for the actors, as many as a client can order.
abbrev pub drafts_of : Sight → List Draft
drafts_of s = take MAX_ORDERS (filter_map (own_draft s) s.goods.actors)

-- It is a draft to attack.
abbrev pub is_attack : Draft → Bool
is_attack (Whole order) = false
is_attack (Attack actor from aim) = true
