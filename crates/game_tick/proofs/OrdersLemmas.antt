-- Proofs that orders keep a world valid.
use Rattle.std.specs.Prelude.{◌≡◌, ℕ, ◌==◌, ◌≤◌, ◌&&◌, nat_lt, nat_le, Bool, true, false}
use Rattle.std.specs.Prelude.{if◌then◌else◌, List, [], ◌∷◌, ◌++◌, length, Option, Some, None}
use Rattle.std.specs.Prelude.{is_some, refl}
use Rattle.std.specs.List.{All}
use Rattle.std.proofs.Common.{inl, arith}
use Rattle.std.proofs.lemmas.Bool.{and_parts, ltb-true, leb-true}
use Rattle.std.proofs.lemmas.List.{length-append}
use Rattle.std.proofs.lemmas.List.Elements.{All-cons, All-nil, All-push}
use Rattle.world_units.specs.declared.cell.CPos.{CPos}
use Rattle.activities.specs.declared.activity.Activity.{Activity}
use Rattle.activities.specs.declared.queue.TheConstants.{MAX_ACTIVITIES}
use Rattle.game_orders.specs.declared.order.Order.{Order}
use Rattle.game_orders.specs.declared.order.Order.TheVariants.{Move, Attack, Harvest, Stop, Produce}
use Rattle.game_orders.specs.declared.order.Order.TheVariants.{Cancel, Donate, Pace}
use Rattle.rule_traits.specs.Rules.{moves}
use Rattle.game_model.specs.declared.actor.Actor.{Actor}
use Rattle.game_model.specs.declared.world.World.{World}
use Rattle.game_model.specs.declared.limits.TheConstants.{MAX_PACE}
use Rattle.game_model.specs.ActorChanges.{changed_at}
use Rattle.game_model.specs.Grid.{is_on}
use Rattle.game_model.specs.ValidWorld.{IsActivityOf, IsHealthy, IsSoundActor, IsWorldWithin}
use Rattle.game_model.specs.World.{clients_of, living_of}
use Rattle.game_tick.specs.Acts.{acts_after}
use Rattle.game_tick.specs.Orders.{Doing, after_order, attacking, changed_if, harvesting, is_target}
use Rattle.game_tick.specs.Orders.{moving, own_of, stopping, told, with_order, donation_fits}
use Rattle.game_tick.specs.Orders.{pace_fits, after_donation}
use Rattle.game_tick.proofs.BuildOrdersLemmas.{cancel_valid, produce_valid}
use Rattle.game_tick.proofs.CashLemmas.{same_cash, donated_keeps}
use Rattle.game_tick.proofs.ChangesLemmas.{changed}
use Rattle.game_tick.proofs.OwnActorLemmas.{Lives, own_lives, valid_with}
use Rattle.game_tick.proofs.SoundLemmas.{body_of, sound_acts}
use Rattle.game_tick.proofs.WayLemmas.{on_from_test}
use Rattle.activities.specs.declared.activity.Activity.TheVariants as act
use Rattle.game_model.specs.Setup.{Setup}
use Rattle.game_model.specs.Kinds.{gathers, kind_of}

-- What an order on an actor changes keeps its id, its cell and its health, and makes no sound actor
-- unsound where it fits.
pub record IsDoing (setup : Setup) (doing : Doing) : Type 0 where
  pub id : (a : Actor) → (doing.change a).id ≡ a.id
  pub cell : (a : Actor) → (doing.change a).cell ≡ a.cell
  pub health : (a : Actor) → IsHealthy setup.rules a → IsHealthy setup.rules (doing.change a)
  pub sound :
      (clients next_id : ℕ) (a : Actor) → doing.fits (kind_of setup.rules a.kind) a ≡ true →
      IsSoundActor setup clients next_id a → IsSoundActor setup clients next_id (doing.change a)

told_acts :
    (queued few : Bool) (map_kind : Activity → Type 0) (activity : Activity)
    (acts : List Activity) →
    nat_lt (length acts) MAX_ACTIVITIES ≡ few → map_kind activity → length acts ≤ MAX_ACTIVITIES →
    All map_kind acts →
    (length (if queued then (if few then acts ++ activity ∷ [] else acts) else activity ∷ [])
    ≤ MAX_ACTIVITIES)
    × All map_kind (if queued then (if few then acts ++ activity ∷ [] else acts) else activity ∷ [])
told_acts false few P activity acts is fits count all =
    (omega arith, All-cons P activity [] fits (All-nil P))
told_acts true true P activity acts is fits count all =
    let less = ltb-true (length acts) MAX_ACTIVITIES is in
    (omega (arith, less, length-append acts (activity ∷ [])), All-push P acts activity all fits)
told_acts true false P activity acts is fits count all = (count, all)

told_sound :
    (queued : Bool) (setup : Setup) (clients next_id : ℕ) (a : Actor) (activity : Activity) →
    IsSoundActor setup clients next_id a →
    IsActivityOf setup.map (kind_of setup.rules a.kind) activity →
    IsSoundActor setup clients next_id (told queued activity a)
told_sound true setup clients next_id a activity sound fits =
    let is = body_of setup clients next_id a sound in
    let (count, all) =
    told_acts true (nat_lt (length a.body.acts) MAX_ACTIVITIES)
    (IsActivityOf setup.map (kind_of setup.rules a.kind)) activity a.body.acts refl fits
    is.act_count is.acts in
    sound_acts setup clients next_id a (acts_after true activity a.body.acts) sound count all
told_sound false setup clients next_id a activity sound fits =
    let is = body_of setup clients next_id a sound in
    let (count, all) =
    told_acts false true (IsActivityOf setup.map (kind_of setup.rules a.kind)) activity [] refl fits
    (omega arith) (All-nil (IsActivityOf setup.map (kind_of setup.rules a.kind))) in
    sound_acts setup clients next_id a (acts_after false activity a.body.acts) sound count all

moving_is : (setup : Setup) (cell : CPos) (queued : Bool) → IsDoing setup (moving setup cell queued)
moving_is setup cell queued =
    record {
      id = λ a. refl;
      cell = λ a. refl;
      health = λ a healthy. healthy;
      sound =
          λ clients next_id a fits sound.
          let parts =
          and_parts (moves (kind_of setup.rules a.kind))
          (is_on setup.map.width setup.map.height cell) fits in
          told_sound queued setup clients next_id a (act.Move cell 0) sound (
            parts.0,
            record {
              on_map = on_from_test setup.map.width setup.map.height cell parts.1;
              patience = omega arith;
            },
          );
    }

attacking_is :
    (setup : Setup) (actors : List Actor) (target : ℕ) (queued : Bool) →
    IsDoing setup (attacking setup actors target queued)
attacking_is setup actors target queued =
    record {
      id = λ a. refl;
      cell = λ a. refl;
      health = λ a healthy. healthy;
      sound =
          λ clients next_id a fits sound.
          let parts =
          and_parts (is_some (kind_of setup.rules a.kind).armament)
          (is_target setup.rules a (living_of actors target)) fits in
          told_sound queued setup clients next_id a (act.Attack target 0) sound
          (parts.0, omega arith);
    }

harvesting_is :
    (setup : Setup) (cell : CPos) (queued : Bool) → IsDoing setup (harvesting setup cell queued)
harvesting_is setup cell queued =
    record {
      id = λ a. refl;
      cell = λ a. refl;
      health = λ a healthy. healthy;
      sound =
          λ clients next_id a fits sound.
          let parts =
          and_parts (gathers (kind_of setup.rules a.kind))
          (is_on setup.map.width setup.map.height cell) fits in
          told_sound queued setup clients next_id a (act.Harvest cell 0 0) sound (
            parts.0,
            record {
              on_map = on_from_test setup.map.width setup.map.height cell parts.1;
              patience = omega arith;
            },
            omega arith,
          );
    }

stopping_is : (setup : Setup) → IsDoing setup stopping
stopping_is setup =
    record {
      id = λ a. refl;
      cell = λ a. refl;
      health = λ a healthy. healthy;
      sound =
          λ clients next_id a fits sound.
          sound_acts setup clients next_id a [] sound (omega arith) (All-nil _);
    }

done_valid :
    (fits : Bool) (setup : Setup) (least most draws : ℕ) (w : World) (doing : Doing) (a : Actor) →
    doing.fits (kind_of setup.rules a.kind) a ≡ fits → IsDoing setup doing → Lives setup w a →
    IsWorldWithin setup least most draws w →
    IsWorldWithin setup least most draws
    (record w { actors = if fits then changed_at w.actors a.id doing.change else w.actors })
done_valid true setup least most draws w doing a fits is lives valid =
    let after =
    changed setup (clients_of w) w.next_id (IsHealthy setup.rules) w.actors a doing.change lives
    (is.id a) (inl (is.cell a))
    (is.sound (clients_of w) w.next_id a fits lives.sound) (is.health a lives.fine) in
    valid_with setup least most draws w (changed_at w.actors a.id doing.change) w.cash valid
    (same_cash w.cash) after.ready after.all
done_valid false setup least most draws w doing a fits is lives valid = valid

doing_valid :
    (setup : Setup) (least most draws : ℕ) (w : World) (client id : ℕ) (doing : Doing)
    (found : Option Actor) →
    own_of w.actors client id ≡ found → IsDoing setup doing →
    IsWorldWithin setup least most draws w →
    IsWorldWithin setup least most draws
    (record w { actors = changed_if setup.rules w.actors doing found })
doing_valid setup least most draws w client id doing None found is valid = valid
doing_valid setup least most draws w client id doing (Some a) found is valid =
    done_valid (doing.fits (kind_of setup.rules a.kind) a) setup least most draws w doing a refl is
    (own_lives setup least most draws w client id a valid found).0 valid

with_order_valid :
    (setup : Setup) (least most draws : ℕ) (w : World) (client id : ℕ) (doing : Doing) →
    IsDoing setup doing →
    IsWorldWithin setup least most draws w →
    IsWorldWithin setup least most draws (with_order setup w client id doing)
with_order_valid setup least most draws w client id doing is valid =
    doing_valid setup least most draws w client id doing (own_of w.actors client id) refl is valid

donation_valid :
    (setup : Setup) (least most draws : ℕ) (w : World) (client to amount : ℕ) →
    donation_fits w client to amount ≡ true → IsWorldWithin setup least most draws w →
    IsWorldWithin setup least most draws (after_donation w client to amount)
donation_valid setup least most draws w client to amount fits valid =
    valid_with setup least most draws w w.actors (after_donation w client to amount).cash valid
    (donated_keeps w client to amount fits) valid.actors valid.health

pace_valid :
    (setup : Setup) (least most draws : ℕ) (w : World) (client ticks : ℕ) →
    pace_fits client ticks ≡ true → IsWorldWithin setup least most draws w →
    IsWorldWithin setup least most draws (record w { pace = ticks })
pace_valid setup least most draws w client ticks fits valid =
    let high = and_parts ((client == 0) && nat_le 1 ticks) (nat_le ticks MAX_PACE) fits in
    let low = and_parts (client == 0) (nat_le 1 ticks) high.0 in
    record {
      ore = valid.ore;
      least_tick = valid.least_tick;
      most_tick = valid.most_tick;
      drawn = valid.drawn;
      pace = record { least = leb-true 1 ticks low.1; most = leb-true ticks MAX_PACE high.1 };
      clients = valid.clients;
      cash = valid.cash;
      actors = valid.actors;
      health = valid.health;
    }

either_valid :
    (setup : Setup) (least most draws : ℕ) (fits : Bool) (w v : World) →
    (fits ≡ true → IsWorldWithin setup least most draws v) →
    IsWorldWithin setup least most draws w →
    IsWorldWithin setup least most draws (if fits then v else w)
either_valid setup least most draws true w v then_v valid = then_v refl
either_valid setup least most draws false w v then_v valid = valid

-- An order keeps a world valid.
pub order_valid :
    (setup : Setup) (least most draws : ℕ) (w : World) (client : ℕ) (order : Order) →
    IsWorldWithin setup least most draws w →
    IsWorldWithin setup least most draws (after_order setup w client order)
order_valid setup least most draws w client (Move actor cell queued) valid =
    with_order_valid setup least most draws w client actor (moving setup cell queued)
    (moving_is setup cell queued) valid
order_valid setup least most draws w client (Attack actor target queued) valid =
    with_order_valid setup least most draws w client actor (attacking setup w.actors target queued)
    (attacking_is setup w.actors target queued) valid
order_valid setup least most draws w client (Harvest actor cell queued) valid =
    with_order_valid setup least most draws w client actor (harvesting setup cell queued)
    (harvesting_is setup cell queued) valid
order_valid setup least most draws w client (Stop actor) valid =
    with_order_valid setup least most draws w client actor stopping (stopping_is setup) valid
order_valid setup least most draws w client (Produce actor kind) valid =
    produce_valid setup least most draws w client actor kind (own_of w.actors client actor) refl
    valid
order_valid setup least most draws w client (Cancel actor) valid =
    cancel_valid setup least most draws w client actor (own_of w.actors client actor) refl valid
order_valid setup least most draws w client (Donate to amount) valid =
    either_valid setup least most draws (donation_fits w client to amount) w
    (after_donation w client to amount)
    (λ fits. donation_valid setup least most draws w client to amount fits valid) valid
order_valid setup least most draws w client (Pace ticks) valid =
    either_valid setup least most draws (pace_fits client ticks) w (record w { pace = ticks })
    (λ fits. pace_valid setup least most draws w client ticks fits valid) valid
