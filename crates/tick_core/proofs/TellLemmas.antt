-- What is kept after a hasher was told of some actors.
use Rattle.std.specs.Prelude.{IfSome, ◌⊎◌}
use Rattle.std.specs.List.{All, AllPairs, filter}
use Rattle.std.proofs.Common.{◌≡◌, ℕ, suc, ◌+◌, ◌<◌, ◌≤◌, true, List, [], ◌∷◌, length, map, Option, Some, ap}
use Rattle.std.proofs.Common.{None, inl, inr, refl, sym, subst, arith}
use Rattle.std.proofs.lemmas.List.Elements.{All-head}
use Rattle.game_model.specs.declared.actor.Actor.{Actor}
use Rattle.game_model.specs.declared.limits.TheConstants.{MAX_ACTORS}
use Rattle.game_model.specs.declared.world.World.{World}
use Rattle.game_model.specs.Grid.{Grid}
use Rattle.game_model.specs.World.{actor_of, is_alive}
use Rattle.game_model.proofs.FoundLemmas.{found_id, IdsRise}
use Rattle.actor_table.specs.Rising.{RisesFrom}
use Rattle.sync_hash.specs.Kept.{IsKeptOf, Kept, actor_number, has_id, kept_of, numbered, with_number}
use Rattle.sync_hash.proofs.KeptLemmas.{kept_begins}
use Rattle.tick_core.specs.Burial.{AreNumberedIf, without_dead_if}
use Rattle.sync_hash.specs.declared.actor_number.ActorNumber.{ActorNumber}
use Rattle.tick_core.proofs.TouchedLemmas.{has_place, told, untold}
use Rattle.tick_core.specs.Telling.{HasPlaceFor, IsKeptIf, told_if, told_of, with_some}
use Rattle.tick_core.specs.Touched.{KeptBut}

rise_from :
    (least : ℕ) (actors : List Actor) → All (λ (a : Actor). least ≤ a.id) actors → IdsRise actors →
    RisesFrom (λ (a : Actor). a.id) least actors
rise_from least [] above rise = tt
rise_from least (a ∷ actors) above rise = (
  All-head (λ (x : Actor). least ≤ x.id) a actors above,
  rise_from (a.id + 1) actors
      (λ k d within. let more = rise 0 (suc k) d (omega arith) (omega arith) in omega (arith, more))
      (λ i j d lt within. rise (suc i) (suc j) d (omega arith) (omega arith)),
)

told_found :
    (ids : List ℕ) (id : ℕ) (kept : Kept) (actors : List Actor) (found : Option Actor) → IdsRise actors →
    KeptBut (id ∷ ids) kept.actors actors → actor_of actors id ≡ found →
    KeptBut ids (told_if kept found).actors actors
told_found ids id kept actors None rise is found = untold id ids kept.actors actors is found
told_found ids id kept actors (Some c) rise is found =
    subst (λ n. KeptBut ids (with_number kept.actors n (actor_number c)) actors) (sym (found_id actors id c found))
    (told id ids 0 kept.actors actors c (rise_from 0 actors (λ k d within. omega arith) rise) is found)

told_some :
    (ids : List ℕ) (some : Option ℕ) (kept : Kept) (actors : List Actor) → IdsRise actors →
    KeptBut (with_some some ids) kept.actors actors → KeptBut ids (told_of kept actors some).actors actors
told_some ids None kept actors rise is = is
told_some ids (Some id) kept actors rise is = told_found ids id kept actors (actor_of actors id) rise is refl

-- One id is told, and the others are left.
pub told_next :
    (ids : List ℕ) (some : Option ℕ) (kept new : Kept) (actors : List Actor) → IdsRise actors →
    KeptBut (with_some some ids) kept.actors actors → new ≡ told_of kept actors some →
    KeptBut ids new.actors actors
told_next ids some kept new actors rise is same =
    subst (λ (k : Kept). KeptBut ids k.actors actors) (sym same) (told_some ids some kept actors rise is)

place_by :
    (ids : List ℕ) (kept : List ActorNumber) (actors : List Actor) (id : ℕ) (found : Option Actor) →
    actor_of actors id ≡ found → KeptBut ids kept actors → length actors ≤ MAX_ACTORS →
    IfSome found (λ (a : Actor). (has_id kept a.id ≡ true) ⊎ (length kept < MAX_ACTORS))
place_by ids kept actors id None found is few = tt
place_by ids kept actors id (Some c) found is few =
    subst (λ n. (has_id kept n ≡ true) ⊎ (length kept < MAX_ACTORS)) (sym (found_id actors id c found))
    (elim (has_place ids kept actors id c is found) [
      | inl has ↦ inl has
      | inr fewer ↦ inr (omega (arith, fewer, few))
    ])

-- There is room for the number of an actor of which is told.
pub place :
    (ids : List ℕ) (kept : List ActorNumber) (actors : List Actor) (some : Option ℕ) → KeptBut ids kept actors →
    length actors ≤ MAX_ACTORS → HasPlaceFor kept actors some
place ids kept actors None is few = tt
place ids kept actors (Some id) is few = place_by ids kept actors id (actor_of actors id) refl is few

-- A hasher that begins with the numbers of a world keeps them, if there is one.
pub begun_if :
    (width height : ℕ) (w : World) (kept : Option Kept) → w.ore.width ≡ width → w.ore.height ≡ height →
    AllPairs (λ (a b : Actor). a.id < b.id) w.actors → IfSome kept (λ k. k ≡ kept_of width height w) →
    IsKeptIf kept w.actors w.ore
begun_if width height w None across down rise is = tt
begun_if width height w (Some kept) across down rise is =
    subst (λ (k : Kept). IsKeptOf k w.actors w.ore) (sym is) (kept_begins width height w across down rise)

-- What is kept, if anything is, has the numbers of the actors.
pub numbered_if :
    (kept : Option Kept) (actors : List Actor) (ore : Grid ℕ) → IsKeptIf kept actors ore → AreNumberedIf kept actors
numbered_if None actors ore is = tt
numbered_if (Some kept) actors ore is = is.numbers

-- So it is after a burial.
pub buried_if :
    (old new : Option Kept) (actors left : List Actor) (ore : Grid ℕ) → IsKeptIf old actors ore →
    new ≡ without_dead_if old actors → left ≡ filter is_alive actors → IsKeptIf new left ore
buried_if None new actors left ore is told same = subst (λ k. IsKeptIf k left ore) (sym told) tt
buried_if (Some kept) new actors left ore is told same =
    subst (λ k. IsKeptIf k left ore) (sym told)
    (record {
      width = is.width;
      height = is.height;
      numbers = ap (map numbered) (sym same);
      cells = is.cells;
    })
