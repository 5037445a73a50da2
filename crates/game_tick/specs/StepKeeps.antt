-- What a step of an actor keeps of a world, and how far it changes the rest.
use Rattle.std.specs.Prelude.{◌≡◌, ◌≢◌, ℕ, ◌+◌, ◌<◌, ◌≤◌, true, false, List, length, get_or}
use Rattle.std.specs.Prelude.{slice_index}
use Rattle.rule_traits.specs.declared.kind.Kind.{Kind}
use Rattle.rule_traits.specs.Rules.{moves}
use Rattle.game_model.specs.declared.actor.Actor.{Actor}
use Rattle.game_model.specs.declared.world.World.{World}
use Rattle.game_model.specs.Grid.{Grid}
use Rattle.game_model.specs.Kinds.{kind_of}
use Rattle.game_tick.specs.Keeps.{KeepsCash}

-- No cell has more ore than it had.
pub record HasNoMoreOre (old new : Grid ℕ) : Type 0 where
  pub width : new.width ≡ old.width
  pub height : new.height ≡ old.height
  pub count : length new.cells ≡ length old.cells
  pub most : (k : ℕ) → slice_index new.cells k ≤ slice_index old.cells k

-- What steps keep of a world whose actors may have changed: ticks, seed, pace and departures stay;
-- no client gets above the greatest cash, no cell gets ore, and at most so many words are drawn.
pub record StepKeeps (draws : ℕ) (old new : World) : Type 0 where
  pub tick : new.tick ≡ old.tick
  pub seed : new.seed ≡ old.seed
  pub pace : new.pace ≡ old.pace
  pub gone : new.gone ≡ old.gone
  pub cash : KeepsCash old.cash new.cash
  pub ore : HasNoMoreOre old.ore new.ore
  pub drawn_least : old.drawn ≤ new.drawn
  pub drawn_most : new.drawn ≤ old.drawn + draws
  pub next_id : old.next_id ≤ new.next_id

-- What the step of the actor of an id makes of an actor: its id, its kind and its owner stay, its
-- health does not rise, and what doesn't move stays on its cell. Of another actor than the one that
-- makes the step nothing changes but its health.
pub record ActorKeeps (rules : List Kind) (stepping : ℕ) (old new : Actor) : Type 0 where
  pub id : new.id ≡ old.id
  pub kind : new.kind ≡ old.kind
  pub owner : new.body.owner ≡ old.body.owner
  pub health : new.body.health ≤ old.body.health
  pub cell : moves (kind_of rules old.kind) ≡ false → new.cell ≡ old.cell
  pub others :
      old.id ≢ stepping → new ≡ record old { body = record old.body { health = new.body.health } }

-- What the step makes of the list of all actors: each stays at its place, and at most one comes
-- after them, which has the next id and moves.
pub record ActorsKeep
    (rules : List Kind) (stepping next_id : ℕ) (old new : List Actor) : Type 0 where
  pub least : length old ≤ length new
  pub most : length new ≤ length old + 1
  pub each :
      (k : ℕ) (d : Actor) → k < length old →
      ActorKeeps rules stepping (get_or old k d) (get_or new k d)
  pub added_id :
      (k : ℕ) (d : Actor) → length old ≤ k → k < length new → (get_or new k d).id ≡ next_id
  pub added_moves :
      (k : ℕ) (d : Actor) → length old ≤ k → k < length new →
      moves (kind_of rules (get_or new k d).kind) ≡ true
