-- What orders and ticks keep, whatever they are. No order lifts a client above the greatest cash.
use Rattle.std.specs.Prelude.{◌≡◌, ◌≢◌, ℕ, ◌≤◌, ◌↔◌, max, true, ◌⊎◌, List, length, slice_index}
use Rattle.std.specs.Prelude.{slice_get, Option, Some, None}
use Rattle.game_orders.specs.declared.order.Order.{Order}
use Rattle.game_orders.specs.declared.order.Order.TheVariants.{Move, Attack, Harvest, Stop}
use Rattle.game_orders.specs.declared.order.Order.TheVariants.{Produce, Cancel, Donate, Pace}
use Rattle.game_orders.specs.declared.entry.Entry.{Entry}
use Rattle.game_orders.specs.declared.entry.Entry.TheVariants.{Leave}
use Rattle.game_model.specs.declared.world.World.{World}
use Rattle.game_model.specs.declared.limits.TheConstants.{MAX_CASH}
use Rattle.game_model.specs.Flags.{is_gone}
use Rattle.game_model.specs.declared.actor.Actor.{Actor}
use Rattle.game_model.specs.World.{ids_of}

-- The cash of the same clients, of whom none gets above the greatest cash by it.
pub record KeepsCash (old new : List ℕ) : Type 0 where
  pub clients : length new ≡ length old
  pub most : (c : ℕ) → slice_index new c ≤ max (slice_index old c) MAX_CASH

-- What orders keep: the seed, the clients, and who has departed.
pub record OrdersKeep (old new : World) : Type 0 where
  pub seed : new.seed ≡ old.seed
  pub cash : KeepsCash old.cash new.cash
  pub gone : new.gone ≡ old.gone

-- What a tick keeps, and who has departed after it: exactly who had before, or whose entry is a
-- departure.
pub record TickKeeps (old : World) (frame : List Entry) (new : World) : Type 0 where
  pub seed : new.seed ≡ old.seed
  pub cash : KeepsCash old.cash new.cash
  pub flags : length new.gone ≡ length old.gone
  pub gone :
      (c : ℕ) →
      (is_gone new.gone c ≡ true) ↔ ((is_gone old.gone c ≡ true) ⊎ (slice_get frame c ≡ Some Leave))

-- The client to which an order gives cash.
abbrev pub receiver_of : Order → Option ℕ
receiver_of (Move actor cell queued) = None
receiver_of (Attack actor target queued) = None
receiver_of (Harvest actor cell queued) = None
receiver_of (Stop actor) = None
receiver_of (Produce actor kind) = None
receiver_of (Cancel actor) = None
receiver_of (Donate to amount) = Some to
receiver_of (Pace ticks) = None

-- All that an order of a client may change: the client's own actors, its cash, the receiver's cash,
-- and the pace where the client is the host, client 0. Actors neither come nor go.
pub record ChangesOnlyOwn (client : ℕ) (order : Order) (old new : World) : Type 0 where
  pub tick : new.tick ≡ old.tick
  pub seed : new.seed ≡ old.seed
  pub drawn : new.drawn ≡ old.drawn
  pub next_id : new.next_id ≡ old.next_id
  pub pace : client ≢ 0 → new.pace ≡ old.pace
  pub clients : length new.cash ≡ length old.cash
  pub cash :
      (c : ℕ) → c ≢ client → receiver_of order ≢ Some c →
      slice_index new.cash c ≡ slice_index old.cash c
  pub gone : new.gone ≡ old.gone
  pub ids : ids_of new.actors ≡ ids_of old.actors
  pub others :
      (i : ℕ) (a : Actor) → slice_get old.actors i ≡ Some a → a.body.owner ≢ client →
      slice_get new.actors i ≡ Some a
  pub ore : new.ore ≡ old.ore
