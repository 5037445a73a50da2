-- What an order does to a world. An order that does not fit has no effect.
use Rattle.std.specs.Prelude.{ℕ, ◌+◌, ◌-◌, ◌==◌, nat_lt, nat_le, Bool, true, false, not, ◌&&◌}
use Rattle.std.specs.Prelude.{if◌then◌else◌}
use Rattle.std.specs.Prelude.{List, [], ◌∷◌, ◌++◌, Option, Some, None, is_some, fold, length, take}
use Rattle.std.specs.Prelude.{slice_get, slice_index, slice_set}
use Rattle.std.specs.List.{list_any, list_all}
use Rattle.world_units.specs.declared.cell.CPos.{CPos}
use Rattle.activities.specs.declared.activity.Activity.{Activity}
use Rattle.activities.specs.declared.activity.Activity.TheVariants as act
use Rattle.game_orders.specs.declared.order.Order.{Order}
use Rattle.game_orders.specs.declared.order.Order.TheVariants.{Move, Attack, Harvest, Stop}
use Rattle.game_orders.specs.declared.order.Order.TheVariants.{Produce, Cancel, Donate, Pace}
use Rattle.rule_traits.specs.declared.kind.Kind.{Kind}
use Rattle.rule_traits.specs.Rules.{moves, cost_of, builds}
use Rattle.game_model.specs.declared.actor.Actor.{Actor}
use Rattle.game_model.specs.declared.builds.Build.{Build}
use Rattle.game_model.specs.declared.limits.TheConstants.{MAX_BUILDS, MAX_CASH, MAX_PACE}
use Rattle.game_model.specs.declared.world.World.{World}
use Rattle.game_model.specs.ActorChanges.{changed_at}
use Rattle.game_model.specs.Flags.{is_gone}
use Rattle.game_model.specs.Grid.{is_on}
use Rattle.game_model.specs.Setup.{Setup}
use Rattle.game_model.specs.Kinds.{gathers, is_unit, duration_in, kind_of, needs_in}
use Rattle.game_model.specs.World.{is_alive, living_of}
use Rattle.game_tick.specs.Acts.{acts_after, with_acts}
use Rattle.game_tick.specs.Building.{with_builds}
use Rattle.game_tick.specs.Harvesting.{paid_to}

-- The living actor of an id, where this client owns it.
abbrev pub if_owned : (client : ℕ) → Option Actor → Option Actor
if_owned client None = None
if_owned client (Some a) = if a.body.owner == client then Some a else None

abbrev pub own_of : List Actor → (client id : ℕ) → Option Actor
own_of actors client id = if_owned client (living_of actors id)

-- What an order on an actor asks and does: whether it fits, and the actor then.
pub record Doing : Type 0 where
  pub fits : Kind → Actor → Bool
  pub change : Actor → Actor

-- The actors after an order on one of them.
abbrev pub changed_if : List Kind → List Actor → Doing → Option Actor → List Actor
changed_if rules actors doing None = actors
changed_if rules actors doing (Some a) =
    if doing.fits (kind_of rules a.kind) a then changed_at actors a.id doing.change else actors

abbrev pub with_order : Setup → World → (client id : ℕ) → Doing → World
with_order setup w client id doing =
    record w { actors = changed_if setup.rules w.actors doing (own_of w.actors client id) }

-- The actor is to do this, at once or after what it has to do.
abbrev pub told : (queued : Bool) → Activity → Actor → Actor
told queued activity a = with_acts (acts_after queued activity a.body.acts) a

-- A Move fits where the kind moves and the cell is on the map.
abbrev pub moving : Setup → CPos → (queued : Bool) → Doing
moving setup cell queued =
    record {
      fits = λ kind a. moves kind && is_on setup.map.width setup.map.height cell;
      change = told queued (act.Move cell 0);
    }

-- The target is another living actor, whose kind has Health.
abbrev pub is_target : List Kind → Actor → Option Actor → Bool
is_target rules a None = false
is_target rules a (Some target) =
    not (target.id == a.id) && is_some (kind_of rules target.kind).health

-- An Attack fits where the kind has Armament and the target is one.
abbrev pub attacking : Setup → List Actor → (target : ℕ) → (queued : Bool) → Doing
attacking setup actors target queued =
    record {
      fits = λ kind a. is_some kind.armament && is_target setup.rules a (living_of actors target);
      change = told queued (act.Attack target 0);
    }

-- A Harvest fits where the kind gathers ore and the cell is on the map.
abbrev pub harvesting : Setup → CPos → (queued : Bool) → Doing
harvesting setup cell queued =
    record {
      fits = λ kind a. gathers kind && is_on setup.map.width setup.map.height cell;
      change = told queued (act.Harvest cell 0 0);
    }

-- A Stop always fits.
abbrev pub stopping : Doing
stopping = record { fits = λ kind a. true; change = with_acts [] }

-- The client owns a living actor of the kind.
abbrev pub has_kind : List Actor → (client kind : ℕ) → Bool
has_kind actors client kind =
    list_any (λ (a : Actor). is_alive a && (a.body.owner == client) && (a.kind == kind)) actors

-- The client owns what it needs to build the product.
abbrev pub has_needs : List Actor → (client : ℕ) → Kind → Bool
has_needs actors client product = list_all (has_kind actors client) (needs_in product.buildable)

-- What orders to build change: the actors, and the cash of each client.
pub record Goods : Type 0 where
  pub actors : List Actor
  pub cash : List ℕ

abbrev pub goods_of : World → Goods
goods_of w = record { actors = w.actors; cash = w.cash }

abbrev pub with_goods : World → Goods → World
with_goods w goods = record w { actors = goods.actors; cash = goods.cash }

-- A Produce fits where the actor's kind builds the product, which is a unit; the client has what it
-- needs and the cash; and the actor has fewer than `MAX_BUILDS` builds.
abbrev pub produce_fits : List Kind → Goods → (client number : ℕ) → Actor → Bool
produce_fits rules goods client number a =
    let product = kind_of rules number in
    is_some (kind_of rules a.kind).production && is_unit product && builds rules a.kind number
    && has_needs goods.actors client product && nat_lt (length a.body.builds) MAX_BUILDS
    && nat_le (cost_of product) (slice_index goods.cash client)

-- The price is paid and the build added last.
abbrev pub produced : List Kind → Goods → (client number : ℕ) → Actor → Goods
produced rules goods client number a =
    let product = kind_of rules number in
    let build : Build = record { kind = number; left = duration_in product.buildable } in
    record {
      actors = changed_at goods.actors a.id (with_builds (a.body.builds ++ build ∷ []));
      cash = slice_set goods.cash client (slice_index goods.cash client - cost_of product);
    }

abbrev pub with_produce : List Kind → Goods → (client number : ℕ) → Option Actor → Goods
with_produce rules goods client number None = goods
with_produce rules goods client number (Some a) =
    if produce_fits rules goods client number a then produced rules goods client number a else goods

abbrev pub after_produce : Setup → World → (client number : ℕ) → Option Actor → World
after_produce setup w client number a =
    with_goods w (with_produce setup.rules (goods_of w) client number a)

-- All builds but the last, and the last.
abbrev pub but_last : List Build → List Build
but_last builds = take (length builds - 1) builds

abbrev pub last_of : List Build → Option Build
last_of builds = slice_get builds (length builds - 1)

-- The last build is dropped and its price paid back, up to `MAX_CASH`.
abbrev pub cancelled : List Kind → Goods → (client : ℕ) → Actor → Option Build → Goods
cancelled rules goods client a None = goods
cancelled rules goods client a (Some build) =
    record {
      actors = changed_at goods.actors a.id (with_builds (but_last a.body.builds));
      cash = paid_to goods.cash client (cost_of (kind_of rules build.kind));
    }

-- A Cancel fits where the kind has Production and there is a build.
abbrev pub with_cancel : List Kind → Goods → (client : ℕ) → Option Actor → Goods
with_cancel rules goods client None = goods
with_cancel rules goods client (Some a) =
    if is_some (kind_of rules a.kind).production
    then cancelled rules goods client a (last_of a.body.builds)
    else goods

abbrev pub after_cancel : Setup → World → (client : ℕ) → Option Actor → World
after_cancel setup w client a = with_goods w (with_cancel setup.rules (goods_of w) client a)

-- The receiver is another client of the match that has not departed.
abbrev pub can_receive : World → ℕ → ℕ → Bool
can_receive w client to = nat_lt to (length w.cash) && not (to == client) && not (is_gone w.gone to)

-- A donation fits where the receiver can receive, the giver has the amount, and the receiver's cash
-- with it is at most `MAX_CASH`.
abbrev pub donation_fits : World → ℕ → ℕ → ℕ → Bool
donation_fits w client to amount =
    can_receive w client to && nat_le amount (slice_index w.cash client)
    && nat_le (slice_index w.cash to + amount) MAX_CASH

-- The world after the amount has moved from one client to another.
abbrev pub after_donation : World → ℕ → ℕ → ℕ → World
after_donation w client to amount =
    record w {
      cash =
          slice_set (slice_set w.cash client (slice_index w.cash client - amount)) to
          (slice_index w.cash to + amount);
    }

-- A pace fits where the host, client 0, sets it within 1 and `MAX_PACE`.
abbrev pub pace_fits : ℕ → ℕ → Bool
pace_fits client ticks = (client == 0) && nat_le 1 ticks && nat_le ticks MAX_PACE

-- The world after one order of a client.
abbrev pub after_order : Setup → World → (client : ℕ) → Order → World
after_order setup w client (Move actor cell queued) =
    with_order setup w client actor (moving setup cell queued)
after_order setup w client (Attack actor target queued) =
    with_order setup w client actor (attacking setup w.actors target queued)
after_order setup w client (Harvest actor cell queued) =
    with_order setup w client actor (harvesting setup cell queued)
after_order setup w client (Stop actor) = with_order setup w client actor stopping
after_order setup w client (Produce actor kind) =
    after_produce setup w client kind (own_of w.actors client actor)
after_order setup w client (Cancel actor) =
    after_cancel setup w client (own_of w.actors client actor)
after_order setup w client (Donate to amount) =
    if donation_fits w client to amount then after_donation w client to amount else w
after_order setup w client (Pace ticks) =
    if pace_fits client ticks then record w { pace = ticks } else w

-- The world after the orders of a client, first to last.
abbrev pub after_orders : Setup → World → (client : ℕ) → List Order → World
after_orders setup w client orders =
    fold (λ world order. after_order setup world client order) w orders
