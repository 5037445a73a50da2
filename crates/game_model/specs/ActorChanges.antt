-- Lists of actors in which one actor has changed.
use Rattle.std.specs.Prelude.{ℕ, ◌==◌, List, [], ◌∷◌, if◌then◌else◌}
use Rattle.world_units.specs.declared.cell.CPos.{CPos}
use Rattle.game_model.specs.declared.actor.Actor.{Actor}
use Rattle.game_model.specs.declared.actor.Body.{Body}

-- The list with the actors of this id changed so, and the others as they are.
abbrev pub changed_at : List Actor → ℕ → (Actor → Actor) → List Actor
changed_at [] id change = []
changed_at (a ∷ actors) id change =
    (if a.id == id then change a else a) ∷ changed_at actors id change

-- The list with another body of the actor of an id.
abbrev pub with_body : List Actor → ℕ → Body → List Actor
with_body actors id body = changed_at actors id (λ (a : Actor). record a { body = body })

-- The list with the actor of an id on another cell.
abbrev pub moved_to : List Actor → ℕ → CPos → List Actor
moved_to actors id cell = changed_at actors id (λ (a : Actor). record a { cell = cell })
