-- The nearest refinery of an owner, found kind by kind.
use Rattle.std.specs.Prelude.{◌≡◌, ◌≢◌, ℕ, ◌<◌, ◌≤◌, ◌==◌, not, ◌&&◌, if◌then◌else◌, Bool, true}
use Rattle.std.specs.Prelude.{List, [], ◌∷◌}
use Rattle.std.specs.Prelude.{Option, Some, None, is_some}
use Rattle.world_units.specs.declared.cell.CPos.{CPos}
use Rattle.rule_traits.specs.declared.kind.Kind.{Kind}
use Rattle.game_model.specs.declared.actor.Actor.{Actor}
use Rattle.game_model.specs.Kinds.{kind_of}
use Rattle.game_model.specs.NearestActor.{is_nearer}
use Rattle.game_model.specs.World.{actor_of, is_alive}
use Rattle.actor_table.specs.declared.listed.Listed.{Listed}
use Rattle.actor_table.specs.Kinds.{listed_of}
use Rattle.game_tick.specs.Harvesting.{is_refinery_for}

-- The nearer of what was found and another actor.
abbrev pub nearer_of : CPos → Option Actor → Actor → Option Actor
nearer_of from None other = Some other
nearer_of from (Some first) other = Some (if is_nearer from other first then other else first)

-- The other actor lives.
abbrev pub is_other : Actor → Actor → Bool
is_other a x = not (x.id == a.id) && is_alive x

-- The nearer of what was found and an actor that was looked up, if that is another one that lives.
abbrev pub better_of : Actor → Option Actor → Option Actor → Option Actor
better_of a best None = best
better_of a best (Some other) = if is_other a other then nearer_of a.cell best other else best

-- The same after all of a list.
abbrev pub best_of : List Actor → Actor → Option Actor → List Listed → Option Actor
best_of actors a best [] = best
best_of actors a best (e ∷ entries) =
    best_of actors a (better_of a best (actor_of actors e.id)) entries

-- The same after the actors of the owner that are of one kind, if that takes in ore.
abbrev pub best_of_kind : List Kind → List Actor → Actor → (kind : ℕ) → Option Actor → Option Actor
best_of_kind rules actors a kind best =
    if is_some (kind_of rules kind).refinery
    then best_of actors a best (listed_of actors a.body.owner kind)
    else best

-- One of the actors is a refinery for another.
pub record IsRefinery (rules : List Kind) (actors : List Actor) (a x : Actor) : Type 0 where
  pub there : actor_of actors x.id ≡ Some x
  pub fits : is_refinery_for rules a x ≡ true

-- The same, of a kind whose number is below a bound.
pub record IsRefineryBelow (rules : List Kind) (actors : List Actor) (a : Actor) (bound : ℕ) (x : Actor)
    : Type 0 where
  pub refinery : IsRefinery rules actors a x
  pub below : x.kind < bound

-- The same in words: one of the actors, another one, that lives, has the same owner, and is of a kind
-- that takes in ore.
pub record IsOtherRefinery (rules : List Kind) (actors : List Actor) (a x : Actor) : Type 0 where
  pub there : actor_of actors x.id ≡ Some x
  pub other : x.id ≢ a.id
  pub health : 1 ≤ x.body.health
  pub owner : x.body.owner ≡ a.body.owner
  pub takes_ore : is_some (kind_of rules x.kind).refinery ≡ true
