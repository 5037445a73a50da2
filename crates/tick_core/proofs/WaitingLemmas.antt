-- The step of an actor that waits for a unit changes nothing, where no unit comes out.
use Rattle.std.proofs.Common.{◌≡◌, ℕ, ◌+◌, List, [], ◌∷◌, Option, Some, None, refl, sym, ap, ap₂, ◌∙◌, arith}
use Rattle.std.specs.Prelude.{◌-◌, ◌==◌, ◌&&◌, if◌then◌else◌, IfSome}
use Rattle.world_units.specs.declared.cell.CPos.{CPos}
use Rattle.activities.specs.declared.activity.Activity.{Activity}
use Rattle.activities.specs.declared.activity.Activity.TheVariants.{Move, Attack, Harvest, Deliver}
use Rattle.game_model.specs.ActorChanges.{changed_at}
use Rattle.game_model.specs.Buildings.{neighbour_of}
use Rattle.game_model.specs.declared.actor.Actor.{Actor}
use Rattle.game_model.specs.declared.actor.Leg.{Leg}
use Rattle.game_model.specs.declared.builds.Build.{Build}
use Rattle.game_model.specs.declared.world.World.{World}
use Rattle.game_model.proofs.FoundLemmas.{IdsRise, changed_as}
use Rattle.game_model.specs.Kinds.{kind_of}
use Rattle.game_model.proofs.LivingLemmas.{living_actor}
use Rattle.game_model.specs.Setup.{Setup}
use Rattle.game_model.specs.World.{actor_of, living_of}
use Rattle.game_tick.specs.Building.{Built, after_build, built_first, came_out, exit_of, finished, has_room, with_builds}
use Rattle.game_tick.proofs.ChangesLemmas.{id_of_living}
use Rattle.game_tick.specs.Turn.{after_first, after_way, reloaded, with_build, with_reload, with_way}
use Rattle.tick_core.specs.Scene.{prepared, prepared_if}
use Rattle.tick_core.specs.Waiting.{IsFirstBuilt, IsWaiting}
use Rattle.tick_core.proofs.ChoiceLemmas.{by_if}
use Rattle.tick_core.proofs.SceneLemmas.{with_list}

-- No actor comes out on its way.
pub way_next :
    (setup : Setup) (w : World) (found : Option Actor) → (with_way setup w found).next_id ≡ w.next_id
way_next setup w None = refl
way_next setup w (Some a) = legged a.body.leg where
  first : (acts : List Activity) → (after_first setup w a acts).next_id ≡ w.next_id
  first [] = refl
  first (Move goal waits ∷ later) = refl
  first (Attack target waits ∷ later) = refl
  first (Harvest cell timer waits ∷ later) = refl
  first (Deliver home timer waits ∷ later) = refl

  legged : (leg : Option Leg) → (after_way setup w a leg).next_id ≡ w.next_id
  legged None = first a.body.acts
  legged (Some leg) = refl

changed_self : (actors : List Actor) (id : ℕ) → changed_at actors id (λ x. x) ≡ actors
changed_self [] id = refl
changed_self (a ∷ actors) id =
    ap₂ (λ (x : Actor) (xs : List Actor). x ∷ xs) (by_if (λ (x : Actor). x ≡ a) (a.id == id) a a refl refl) (changed_self actors id)

-- A change that leaves the actor of an id as it is leaves all.
pub unchanged :
    (actors : List Actor) (id : ℕ) (a : Actor) (f : Actor → Actor) → IdsRise actors → actor_of actors id ≡ Some a →
    f a ≡ a → changed_at actors id f ≡ actors
unchanged actors id a f rise found same =
    changed_as actors id a f (λ x. x) rise found same ∙ changed_self actors id

abbrev charged : Actor → ℕ → Actor
charged a n = record a { body = record a.body { reload = n } }

-- An actor that is loaded has nothing to reload.
pub loaded_same : (a : Actor) → a.body.reload ≡ 0 → reloaded a ≡ a
loaded_same a none = ap (λ n. charged a n) (let less : a.body.reload - 1 ≡ a.body.reload = omega (arith, none) in less)

abbrev left_over : Build → ℕ → Build
left_over build n = record build { left = n }

same_builds :
    (a : Actor) (build : Build) (rest : List Build) (left : ℕ) → a.body.builds ≡ build ∷ rest → left ≡ build.left →
    with_builds (record build { left = left } ∷ rest) a ≡ a
same_builds a build rest left has is =
    ap (λ n. with_builds (left_over build n ∷ rest) a) is ∙ ap (λ l. with_builds l a) (sym has)

-- Where nobody came out all actors are as they were.
abbrev StaysBuilt : List Actor → ℕ → Built → Type 0
StaysBuilt actors next_id built = built.next_id ≡ next_id → built.actors ≡ actors

built_stays :
    (setup : Setup) (actors : List Actor) (next_id : ℕ) (a : Actor) → IdsRise actors → actor_of actors a.id ≡ Some a →
    IsFirstBuilt a.body.builds → StaysBuilt actors next_id (after_build setup actors next_id a)
unfolding after_build
built_stays setup actors next_id a rise found done = by_builds a.body.builds refl done where
  comes :
      (build : Build) (rest : List Build) (d : ℕ) (to : Option CPos) →
      StaysBuilt actors next_id (came_out setup actors next_id a build rest d to)
  comes build rest d None = λ same. refl
  comes build rest d (Some p) = λ same. absurd (omega (arith, same))

  exits :
      (build : Build) (rest : List Build) → a.body.builds ≡ build ∷ rest → build.left ≡ 0 → (exit : Option ℕ) →
      StaysBuilt actors next_id (finished setup actors next_id a build rest exit)
  exits build rest has none None = λ same.
      unchanged actors a.id a (with_builds (left_over build 0 ∷ rest)) rise found (same_builds a build rest 0 has (sym none))
  exits build rest has none (Some d) =
      comes build rest d (neighbour_of setup.map.width setup.map.height a.cell d)

  by_builds :
      (builds : List Build) → a.body.builds ≡ builds → IsFirstBuilt builds →
      StaysBuilt actors next_id (built_first setup actors next_id a builds)
  by_builds [] has done = λ same. refl
  by_builds (build ∷ rest) has none =
      let less : build.left - 1 ≡ build.left = omega (arith, none) in
      by_if (StaysBuilt actors next_id) ((build.left - 1 == 0) && has_room actors next_id) _ _
      (exits build rest has none (exit_of setup actors (kind_of setup.rules build.kind) a.cell))
      (λ same.
      unchanged actors a.id a (with_builds (left_over build (build.left - 1) ∷ rest)) rise found
      (same_builds a build rest (build.left - 1) has less))

waiting_by :
    (setup : Setup) (w : World) (id : ℕ) (found : Option Actor) → living_of w.actors id ≡ found → IdsRise w.actors →
    IfSome found IsWaiting →
    (with_way setup (prepared_if setup w id found) (living_of (prepared_if setup w id found).actors id)).next_id ≡ w.next_id →
    (with_way setup (prepared_if setup w id found) (living_of (prepared_if setup w id found).actors id)).actors ≡ w.actors
waiting_by setup w id None found rise waits same = ap (λ o. (with_way setup w o).actors) found
waiting_by setup w id (Some a) found rise waits same =
    let here : actor_of w.actors id ≡ Some a = living_actor w.actors id a rise found in
    let named : a.id ≡ id = id_of_living w.actors id a found in
    let at : actor_of w.actors a.id ≡ Some a = ap (actor_of w.actors) named ∙ here in
    let p : World = prepared_if setup w id (Some a) in
    let built : Built = after_build setup w.actors w.next_id a in
    let reload : with_reload w id ≡ w =
    ap (with_list w) (unchanged w.actors id a reloaded rise here (loaded_same a waits.reload)) in
    let p_is : p ≡ with_build setup w (Some a) =
    ap (λ (v : World). with_build setup v (living_of v.actors id)) reload ∙ ap (with_build setup w) found in
    let next : built.next_id ≡ w.next_id =
    sym (ap (λ (v : World). v.next_id) p_is) ∙ sym (way_next setup p (living_of p.actors id)) ∙ same in
    let list : p.actors ≡ w.actors =
    ap (λ (v : World). v.actors) p_is ∙ built_stays setup w.actors w.next_id a rise at waits.builds next in
    let lives : living_of p.actors id ≡ Some a = ap (λ l. living_of l id) list ∙ found in
    ap (λ o. (with_way setup p o).actors) lives ∙ ap (λ leg. (after_way setup p a leg).actors) waits.leg
    ∙ ap (λ acts. (after_first setup p a acts).actors) waits.acts ∙ list

-- Who waits stays, and so do all others, where nobody comes out.
pub waiting_same :
    (setup : Setup) (w p n : World) (id : ℕ) → IdsRise w.actors → IfSome (living_of w.actors id) IsWaiting →
    p ≡ prepared setup w id → n ≡ with_way setup p (living_of p.actors id) → n.next_id ≡ w.next_id →
    n.actors ≡ w.actors
waiting_same setup w p n id rise waits p_is n_is same =
    let whole : n ≡ with_way setup (prepared setup w id) (living_of (prepared setup w id).actors id) =
    n_is ∙ ap (λ (v : World). with_way setup v (living_of v.actors id)) p_is in
    ap (λ (v : World). v.actors) whole
    ∙ waiting_by setup w id (living_of w.actors id) refl rise waits (sym (ap (λ (v : World). v.next_id) whole) ∙ same)
