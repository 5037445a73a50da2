-- Proofs of which part of an actor an order changes.
use Rattle.std.specs.Prelude.{◌≡◌, ℕ, ◌++◌, ◌==◌, Bool, true, false, if◌then◌else◌, List, [], ◌∷◌, Option}
use Rattle.std.specs.Prelude.{Some, None, is_some, refl}
use Rattle.std.specs.List.{AllZip}
use Rattle.game_orders.specs.declared.order.Order.{Order}
use Rattle.game_orders.specs.declared.order.Order.TheVariants.{Move, Attack, Harvest, Stop}
use Rattle.game_orders.specs.declared.order.Order.TheVariants.{Produce, Cancel, Donate, Pace}
use Rattle.game_model.specs.declared.actor.Actor.{Actor}
use Rattle.game_model.specs.declared.builds.Build.{Build}
use Rattle.game_model.specs.declared.world.World.{World}
use Rattle.game_model.specs.ActorChanges.{changed_at}
use Rattle.game_model.specs.Setup.{Setup}
use Rattle.game_model.specs.Kinds.{kind_of}
use Rattle.rule_traits.specs.declared.kind.Kind.{Kind}
use Rattle.game_tick.specs.OrderParts.{ChangesActs, ChangesBuilds, ChangesPart}
use Rattle.game_tick.specs.Orders.{Doing, Goods, after_order, attacking, cancelled, changed_if}
use Rattle.game_tick.specs.Orders.{donation_fits, after_donation, goods_of, harvesting, last_of, moving}
use Rattle.game_tick.specs.Orders.{own_of, pace_fits, produce_fits, produced, stopping, with_cancel}
use Rattle.game_tick.specs.Orders.{with_produce}

-- Each actor stands to itself so.
same_all :
    (R : Actor → Actor → Type 0) (actors : List Actor) → ((a : Actor) → R a a) → AllZip R actors actors
same_all R [] same = tt
same_all R (a ∷ actors) same = (same a, same_all R actors same)

-- Each actor stands so to what a change makes of it.
changed_all :
    (R : Actor → Actor → Type 0) (actors : List Actor) (id : ℕ) (change : Actor → Actor) →
    ((a : Actor) → R a a) → ((a : Actor) → R a (change a)) →
    AllZip R actors (changed_at actors id change)
changed_all R [] id change same changed = tt
changed_all R (a ∷ actors) id change same changed =
    (one (a.id == id), changed_all R actors id change same changed) where
      one : (here : Bool) → R a (if here then change a else a)
      one true = changed a
      one false = same a

-- An order on one actor changes it as it says, or no actor.
done_all :
    (R : Actor → Actor → Type 0) (rules : List Kind) (actors : List Actor) (doing : Doing)
    (found : Option Actor) → ((a : Actor) → R a a) → ((a : Actor) → R a (doing.change a)) →
    AllZip R actors (changed_if rules actors doing found)
done_all R rules actors doing None same changed = same_all R actors same
done_all R rules actors doing (Some a) same changed = by (doing.fits (kind_of rules a.kind) a) where
  by : (fits : Bool) → AllZip R actors (if fits then changed_at actors a.id doing.change else actors)
  by true = changed_all R actors a.id doing.change same changed
  by false = same_all R actors same

produce_all :
    (rules : List Kind) (goods : Goods) (client number : ℕ) (found : Option Actor) →
    AllZip ChangesBuilds goods.actors (with_produce rules goods client number found).actors
produce_all rules goods client number None = same_all ChangesBuilds goods.actors (λ a. refl)
produce_all rules goods client number (Some a) = by (produce_fits rules goods client number a) where
  by :
      (fits : Bool) →
      AllZip ChangesBuilds goods.actors
      (if fits then produced rules goods client number a else goods).actors
  by true = changed_all ChangesBuilds goods.actors a.id _ (λ b. refl) (λ b. refl)
  by false = same_all ChangesBuilds goods.actors (λ b. refl)

cancelled_all :
    (rules : List Kind) (goods : Goods) (client : ℕ) (a : Actor) (last : Option Build) →
    AllZip ChangesBuilds goods.actors (cancelled rules goods client a last).actors
cancelled_all rules goods client a None = same_all ChangesBuilds goods.actors (λ b. refl)
cancelled_all rules goods client a (Some build) =
    changed_all ChangesBuilds goods.actors a.id _ (λ b. refl) (λ b. refl)

cancel_all :
    (rules : List Kind) (goods : Goods) (client : ℕ) (found : Option Actor) →
    AllZip ChangesBuilds goods.actors (with_cancel rules goods client found).actors
cancel_all rules goods client None = same_all ChangesBuilds goods.actors (λ b. refl)
cancel_all rules goods client (Some a) = by (is_some (kind_of rules a.kind).production) where
  by :
      (can : Bool) →
      AllZip ChangesBuilds goods.actors
      (if can then cancelled rules goods client a (last_of a.body.builds) else goods).actors
  by true = cancelled_all rules goods client a (last_of a.body.builds)
  by false = same_all ChangesBuilds goods.actors (λ b. refl)

-- An order changes of each actor at most the part that it is about.
pub order_parts :
    (setup : Setup) (w : World) (client : ℕ) (order : Order) →
    AllZip (ChangesPart order) w.actors (after_order setup w client order).actors
order_parts setup w client (Move actor cell queued) =
    done_all ChangesActs setup.rules w.actors (moving setup cell queued)
    (own_of w.actors client actor) (λ a. refl) (λ a. refl)
order_parts setup w client (Attack actor target queued) =
    done_all ChangesActs setup.rules w.actors (attacking setup w.actors target queued)
    (own_of w.actors client actor) (λ a. refl) (λ a. refl)
order_parts setup w client (Harvest actor cell queued) =
    done_all ChangesActs setup.rules w.actors (harvesting setup cell queued)
    (own_of w.actors client actor) (λ a. refl) (λ a. refl)
order_parts setup w client (Stop actor) =
    done_all ChangesActs setup.rules w.actors stopping (own_of w.actors client actor) (λ a. refl)
    (λ a. refl)
order_parts setup w client (Produce actor kind) =
    produce_all setup.rules (goods_of w) client kind (own_of w.actors client actor)
order_parts setup w client (Cancel actor) =
    cancel_all setup.rules (goods_of w) client (own_of w.actors client actor)
order_parts setup w client (Donate to amount) = by (donation_fits w client to amount) where
  by :
      (fits : Bool) →
      AllZip (λ (old new : Actor). new ≡ old) w.actors
      (if fits then after_donation w client to amount else w).actors
  by true = same_all (λ (old new : Actor). new ≡ old) w.actors (λ a. refl)
  by false = same_all (λ (old new : Actor). new ≡ old) w.actors (λ a. refl)
order_parts setup w client (Pace ticks) = by (pace_fits client ticks) where
  by :
      (fits : Bool) →
      AllZip (λ (old new : Actor). new ≡ old) w.actors
      (if fits then record w { pace = ticks } else w).actors
  by true = same_all (λ (old new : Actor). new ≡ old) w.actors (λ a. refl)
  by false = same_all (λ (old new : Actor). new ≡ old) w.actors (λ a. refl)
