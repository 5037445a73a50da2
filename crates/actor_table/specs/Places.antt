-- Where actors stand in a slab, and the list that they are seen as.
use Rattle.std.specs.Prelude.{◌≡◌, ℕ, ◌≤◌, List, [], ◌∷◌, map, length, Some}
use Rattle.std.specs.Option.{unwrap_or}
use Rattle.slab.specs.Slab.{Slab, slab_len, get}
use Rattle.game_model.specs.declared.actor.Actor.{Actor}
use Rattle.game_model.specs.declared.limits.TheConstants.{MAX_ACTORS}
use Rattle.game_model.specs.World.{new_body}
use Rattle.actor_table.specs.Rising.{RisesFrom}
use Rattle.actor_table.specs.declared.place.Place.{Place}

-- What a place without an actor would be seen as. There is none.
abbrev pub nobody : Actor
nobody = record { id = 0; kind = 0; cell = record { x = 0; y = 0 }; body = new_body 0 0 0 }

-- The actor at a place.
abbrev pub actor_in : Slab Actor → Place → Actor
actor_in slots p = unwrap_or (get slots p.key) nobody

-- The actors at these places, in order.
abbrev pub actors_in : Slab Actor → List Place → List Actor
actors_in slots order = map (actor_in slots) order

-- An actor of the place's id stands there.
pub record IsFiled (slots : Slab Actor) (p : Place) : Type 0 where
  pub there : get slots p.key ≡ Some (actor_in slots p)
  pub named : (actor_in slots p).id ≡ p.id

abbrev pub AreFiled : Slab Actor → List Place → Type 0
AreFiled slots [] = Unit {0}
AreFiled slots (p ∷ order) = IsFiled slots p × AreFiled slots order

-- The places have the actors of the slab by rising id, with room for `MAX_ACTORS`.
pub record IsRoster (slots : Slab Actor) (room : ℕ) (order : List Place) : Type 0 where
  pub rises : RisesFrom (λ (p : Place). p.id) 0 order
  pub filed : AreFiled slots order
  pub counted : slab_len slots ≡ length order
  pub limit : length order ≤ MAX_ACTORS
  pub slots_room : MAX_ACTORS ≤ slots.capacity
  pub order_room : MAX_ACTORS ≤ room
