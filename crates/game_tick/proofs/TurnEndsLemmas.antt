-- Proofs of what the end of a turn makes of a world.
use Rattle.std.specs.Prelude.{◌≡◌, ℕ, ◌==◌, Bool, true, false, List, [], ◌∷◌, refl}
use Rattle.std.specs.List.{filter}
use Rattle.std.proofs.lemmas.List.Elements.{filter_passes}
use Rattle.game_model.specs.declared.actor.Actor.{Actor}
use Rattle.game_model.specs.declared.world.World.{World}
use Rattle.game_model.specs.Setup.{Setup}
use Rattle.game_model.specs.World.{ids_of, is_alive, living_of}
use Rattle.game_tick.specs.Turn.{after_steps, after_turn}
use Rattle.game_tick.specs.TurnEnds.{EndsTurn}

-- The living are found among the living as among all.
living_kept :
    (actors : List Actor) (id : ℕ) → living_of (filter is_alive actors) id ≡ living_of actors id
living_kept [] id = refl
living_kept (a ∷ actors) id =
    by_life (is_alive a) refl (a.id == id) refl (living_kept actors id) where
      by_life :
          (lives : Bool) → is_alive a ≡ lives → (here : Bool) → (a.id == id) ≡ here →
          living_of (filter is_alive actors) id ≡ living_of actors id →
          living_of (filter is_alive (a ∷ actors)) id ≡ living_of (a ∷ actors) id
      by_life true is true same rest = rw (is, same, is) refl
      by_life true is false same rest = rw (is, same) rest
      by_life false is true same rest = rw (is, same) rest
      by_life false is false same rest = rw (is, same) rest

pub turn_ends :
    (setup : Setup) (w : World) →
    EndsTurn (after_steps setup w (ids_of w.actors)) (after_turn setup w)
unfolding after_turn
turn_ends setup w =
    let stepped : World = after_steps setup w (ids_of w.actors) in
    record {
      all_live = filter_passes is_alive stepped.actors;
      living_stay = λ id. living_kept stepped.actors id;
      rest = refl;
    }
