-- Lists of actors in which the one of an id has changed.
use Rattle.std.proofs.Common.{◌≡◌, ℕ, zero, suc, ◌<◌, ◌||◌, List, [], ◌∷◌, length, All, inl}
use Rattle.std.proofs.Common.{inr, refl, ap, arith}
use Rattle.std.proofs.lemmas.Bool.Decides.{eqb_tells}
use Rattle.world_units.specs.declared.cell.CPos.{CPos}
use Rattle.world_units.specs.Cells.{same_cell}
use Rattle.game_model.specs.declared.actor.Actor.{Actor}
use Rattle.game_model.specs.ActorChanges.{changed_at}
use Rattle.game_model.specs.World.{is_occupied}

-- the same cells are held where a change moves nobody
pub changed_occupied : (actors : List Actor) (id : ℕ) (f : Actor → Actor) (p : CPos) → ((a : Actor) → (f a).cell ≡ a.cell) → is_occupied (changed_at actors id f) p ≡ is_occupied actors p
changed_occupied [] id f p stays = refl
changed_occupied (b ∷ actors) id f p stays =
    let rest = changed_occupied actors id f p stays in
    elim (eqb_tells b.id id) [
      | inl hit ↦ rw (hit.0, stays b) (ap (λ o. same_cell b.cell p || o) rest)
      | inr miss ↦ rw miss.0 (ap (λ o. same_cell b.cell p || o) rest)
    ]

pub changed_length : (actors : List Actor) (id : ℕ) (f : Actor → Actor) → length (changed_at actors id f) ≡ length actors
changed_length [] id f = refl
changed_length (b ∷ actors) id f = ap suc (changed_length actors id f)

-- ids stay below a bound where a change keeps them
pub changed_below : (actors : List Actor) (id bound : ℕ) (f : Actor → Actor) → ((a : Actor) → (f a).id ≡ a.id) → All (λ (a : Actor). a.id < bound) actors → All (λ (a : Actor). a.id < bound) (changed_at actors id f)
changed_below [] id bound f keeps below i d within = below i d within
changed_below (b ∷ actors) id bound f keeps below zero d within = elim (eqb_tells b.id id) [
  | inl hit ↦ rw (hit.0, keeps b) (below 0 d (omega arith))
  | inr miss ↦ rw miss.0 (below 0 d (omega arith))
]
changed_below (b ∷ actors) id bound f keeps below (suc i) d within =
    changed_below actors id bound f keeps (λ j e w. below (suc j) e (omega arith)) i d (omega (arith, within))
