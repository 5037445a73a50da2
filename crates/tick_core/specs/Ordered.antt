-- What an order may change of the actors.
use Rattle.std.specs.Prelude.{◌≡◌, ℕ, ◌⊎◌, List, Option, Some, None}
use Rattle.game_orders.specs.declared.order.Order.{Order}
use Rattle.game_orders.specs.declared.order.Order.TheVariants.{Move, Attack, Harvest, Stop, Produce, Cancel, Donate, Pace}
use Rattle.game_model.specs.declared.actor.Actor.{Actor}
use Rattle.game_model.specs.declared.world.World.{World}
use Rattle.game_model.specs.ActorChanges.{changed_at}
use Rattle.game_model.specs.Setup.{Setup}
use Rattle.game_model.specs.ValidWorld.{IsWorldWithin}

-- The id of the actor to which an order is given, if it is given to one.
abbrev pub subject_of : Order → Option ℕ
subject_of (Move actor cell queued) = Some actor
subject_of (Attack actor target queued) = Some actor
subject_of (Harvest actor cell queued) = Some actor
subject_of (Stop actor) = Some actor
subject_of (Produce actor kind) = Some actor
subject_of (Cancel actor) = Some actor
subject_of (Donate to amount) = None
subject_of (Pace ticks) = None

-- The change keeps the id, the kind and the cell of an actor.
abbrev pub KeepsShape : (Actor → Actor) → Type 0
KeepsShape f = (a : Actor) → ((f a).id ≡ a.id) × ((f a).kind ≡ a.kind) × ((f a).cell ≡ a.cell)

-- The list is the same, or the actor of the id has changed in what it is to do.
abbrev pub IsChange : Option ℕ → List Actor → List Actor → Type 0
IsChange None old new = new ≡ old
IsChange (Some id) old new =
    (new ≡ old) ⊎ ((f : Actor → Actor) × KeepsShape f × (new ≡ changed_at old id f))

-- The world is valid, and has ticked and drawn as often as this one at most.
abbrev pub IsReady : Setup → (before w : World) → Type 0
IsReady setup before w = IsWorldWithin setup 0 before.tick before.drawn w
