-- Which part of an actor an order may change.
use Rattle.std.specs.Prelude.{◌≡◌}
use Rattle.game_orders.specs.declared.order.Order.{Order}
use Rattle.game_orders.specs.declared.order.Order.TheVariants.{Move, Attack, Harvest, Stop}
use Rattle.game_orders.specs.declared.order.Order.TheVariants.{Produce, Cancel, Donate, Pace}
use Rattle.game_model.specs.declared.actor.Actor.{Actor}
use Rattle.game_tick.specs.Acts.{with_acts}
use Rattle.game_tick.specs.Building.{with_builds}

-- Only its activities may have changed.
abbrev pub ChangesActs : Actor → Actor → Type 0
ChangesActs old new = new ≡ with_acts new.body.acts old

-- Only its builds may have changed.
abbrev pub ChangesBuilds : Actor → Actor → Type 0
ChangesBuilds old new = new ≡ with_builds new.body.builds old

-- An order to act changes activities alone, one to build builds alone, and the others no actor.
abbrev pub ChangesPart : Order → Actor → Actor → Type 0
ChangesPart (Move actor cell queued) old new = ChangesActs old new
ChangesPart (Attack actor target queued) old new = ChangesActs old new
ChangesPart (Harvest actor cell queued) old new = ChangesActs old new
ChangesPart (Stop actor) old new = ChangesActs old new
ChangesPart (Produce actor kind) old new = ChangesBuilds old new
ChangesPart (Cancel actor) old new = ChangesBuilds old new
ChangesPart (Donate to amount) old new = new ≡ old
ChangesPart (Pace ticks) old new = new ≡ old
