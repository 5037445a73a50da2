-- Proofs about idle actors, and about cells after a move.
use Rattle.std.specs.Prelude.{◌≡◌, ◌≢◌, ℕ, ◌==◌, ◌<◌, ◌&&◌, Bool, true, false, if◌then◌else◌, cond}
use Rattle.std.specs.Prelude.{List, [], ◌∷◌, Option, Some, None, refl}
use Rattle.std.specs.List.{AllPairs}
use Rattle.std.specs.Option.{option_map}
use Rattle.std.proofs.Common.{eqb, ◌∙◌, ap, inl, inr}
use Rattle.std.proofs.lemmas.Bool.Decides.{eqb_tells}
use Rattle.world_units.specs.declared.cell.CPos.{CPos}
use Rattle.world_units.specs.Angles.{dir_angle_of}
use Rattle.world_units.specs.Directions.{step_of}
use Rattle.rule_traits.specs.declared.kind.Kind.{Kind}
use Rattle.game_model.specs.declared.actor.Actor.{Actor}
use Rattle.game_model.specs.declared.actor.Body.{Body}
use Rattle.game_model.specs.declared.world.World.{World}
use Rattle.game_model.specs.ActorChanges.{changed_at, with_body}
use Rattle.game_model.specs.BestDirection.{best_dir_of}
use Rattle.game_model.specs.Grid.{Grid}
use Rattle.game_model.specs.Setup.{Setup}
use Rattle.game_model.specs.Walks.{land_of}
use Rattle.game_model.specs.World.{is_alive, is_occupied, living_of}
use Rattle.game_model.specs.Kinds.{kind_of, costs_in}
use Rattle.game_tick.specs.declared.moving.Moving.TheVariants.{Going}
use Rattle.game_tick.specs.Building.{after_build}
use Rattle.game_tick.specs.Idle.{IsIdle}
use Rattle.game_tick.specs.Moving.{Moved, moved_in, moved_into, moved_towards, set_out}
use Rattle.game_tick.specs.Moving.{waiting_after}
use Rattle.game_tick.specs.Turn.{after_step, reloaded, with_reload}
use Rattle.game_tick.proofs.ChangesLemmas.{IsOnly, apart_after, is_only}
use Rattle.game_tick.proofs.WayLemmas.{free_cell}

-- No two actors hold one cell.
abbrev pub IsApart : List Actor → Type 0
IsApart actors = AllPairs (λ (x y : Actor). x.cell ≢ y.cell) actors

abbrev pub LeavesApart : Moved → Type 0
LeavesApart moved = IsApart moved.actors

module _ (kind : Kind) (actors : List Actor) (a : Actor) (only : IsOnly actors a)
    (rise : AllPairs (λ (x y : Actor). x.id < y.id) actors) (apart : IsApart actors) where
  into_by :
      (occupied : Bool) (waits d : ℕ) (next : CPos) → is_occupied actors next ≡ occupied →
      LeavesApart
      (if occupied then record { actors = actors; answer = waiting_after waits } else record
      { actors = changed_at actors a.id (set_out kind d next); answer = Going 0 })
  into_by true waits d next is = apart
  into_by false waits d next is =
      apart_after actors a (set_out kind d next) only (inr (free_cell actors next is)) rise apart

  into_apart :
      (waits d : ℕ) (next : Option CPos) → LeavesApart (moved_into kind actors a.id waits d next)
  into_apart waits d None = apart
  into_apart waits d (Some next) = into_by (is_occupied actors next) waits d next refl

  body_apart : (body : Body) → IsApart (with_body actors a.id body)
  body_apart body =
      apart_after actors a (λ (x : Actor). record x { body = body }) only (inl refl) rise apart

  facing_by :
      (faces : Bool) (waits d : ℕ) (body : Body) →
      LeavesApart
      (if faces then moved_into kind actors a.id waits d (step_of a.cell d) else record
      { actors = with_body actors a.id body; answer = Going waits })
  facing_by true waits d body = into_apart waits d (step_of a.cell d)
  facing_by false waits d body = body_apart body

  best_apart : (waits : ℕ) (best : Option ℕ) → LeavesApart (moved_in kind actors a waits best)
  best_apart waits None = apart
  best_apart waits (Some d) = facing_by (a.body.facing == dir_angle_of d) waits d _

pub moves_apart :
    (setup : Setup) (built : Grid Bool) (actors : List Actor) (id : ℕ) (a : Actor) (goal : CPos)
    (waits : ℕ) →
    living_of actors id ≡ Some a → AllPairs (λ (x y : Actor). x.id < y.id) actors → IsApart actors →
    IsApart (moved_towards setup built actors a goal waits).actors
unfolding moved_towards
moves_apart setup built actors id a goal waits found rise apart =
    best_apart (kind_of setup.rules a.kind) actors a (is_only actors id a rise found) rise apart
    waits
    (best_dir_of setup.map
    (land_of setup.map built (costs_in (kind_of setup.rules a.kind).mobile) goal) a.cell)

-- The living actor of an id after a change that leaves ids and life as they are.
living_by :
    (lives : Bool) (f : Actor → Actor) (b : Actor) (after before : Option Actor) →
    after ≡ option_map f before →
    cond lives (Some (f b)) after ≡ option_map f (cond lives (Some b) before)
living_by true f b after before rest = refl
living_by false f b after before rest = rest

pub living_changed :
    (actors : List Actor) (id : ℕ) (f : Actor → Actor) → ((x : Actor) → (f x).id ≡ x.id) →
    ((x : Actor) → is_alive (f x) ≡ is_alive x) →
    living_of (changed_at actors id f) id ≡ option_map f (living_of actors id)
living_changed [] id f same lives = refl
living_changed (b ∷ actors) id f same lives = elim (eqb_tells b.id id) [
  | inl hit ↦
      rw hit.0
      (ap (λ t. cond t (Some (f b)) (living_of (changed_at actors id f) id)) (test hit.0)
      ∙ living_by (is_alive b) f b (living_of (changed_at actors id f) id) (living_of actors id)
      (living_changed actors id f same lives))
  | inr miss ↦ rw miss.0 (rw miss.0 (living_changed actors id f same lives))
]
  where
    test : eqb b.id id ≡ true → (eqb (f b).id id && is_alive (f b)) ≡ is_alive b
    test hit = rw (same b, hit, lives b) refl

pub idle_stays :
    (setup : Setup) (w : World) (id : ℕ) (a : Actor) → living_of w.actors id ≡ Some a → IsIdle a →
    after_step setup w id ≡ with_reload w id
unfolding after_step after_build
idle_stays setup w id a found idle =
    let next : living_of (changed_at w.actors id reloaded) id ≡ Some (reloaded a) =
    living_changed w.actors id reloaded (λ x. refl) (λ x. refl) ∙ ap (option_map reloaded) found in
    rw found (rw next (rw idle.builds (rw next (rw idle.leg (rw idle.acts refl)))))
