-- Proofs about the step of an Attack.
use Rattle.std.specs.Prelude.{◌≡◌, ◌≢◌, ℕ, ◌+◌, ◌-◌, ◌==◌, ◌≤◌, ◌⊎◌, ◌&&◌, Bool, true, false}
use Rattle.std.specs.Prelude.{if◌then◌else◌, List, Option, Some, None, refl}
use Rattle.std.proofs.Common.{ap, subst, inl, inr, arith}
use Rattle.std.proofs.lemmas.Bool.{cases_eq}
use Rattle.twister.specs.Place.{Place, after_word}
use Rattle.activities.specs.declared.activity.Activity.TheVariants.{Attack}
use Rattle.rule_traits.specs.declared.kind.Kind.{Kind}
use Rattle.rule_traits.specs.Rules.{hp_of, kind_at, moves}
use Rattle.game_model.specs.declared.actor.Actor.{Actor}
use Rattle.game_model.specs.ActorChanges.{changed_at}
use Rattle.game_model.specs.Grid.{Grid}
use Rattle.game_model.specs.Setup.{Setup}
use Rattle.game_model.specs.ValidMap.{IsMapFor}
use Rattle.game_model.specs.ValidWorld.{IsActivityOf}
use Rattle.game_model.specs.World.{is_alive, living_of}
use Rattle.game_model.specs.Kinds.{kind_of}
use Rattle.game_tick.specs.Attacking.{Fought, after_attack, fought_with, hit_by, is_in_range}
use Rattle.game_tick.specs.Attacking.{points_of, reloading}
use Rattle.game_tick.specs.Acts.{popped}
use Rattle.game_tick.specs.Moving.{gone_towards}
use Rattle.game_tick.proofs.ChangesLemmas.{All-found, changed, changed_other, living_stands}
use Rattle.game_tick.proofs.MovingLemmas.{towards_sound}
use Rattle.game_tick.proofs.SoundLemmas.{AreSound, IsHurt, Steps, all_sound, body_of, popped_sound}
use Rattle.game_tick.proofs.SoundLemmas.{some_weaker, sound_body}

-- The actors are sound after it, and it drew at most once.
pub record IsFought (setup : Setup) (clients next_id before : ℕ) (after : Fought) : Type 0 where
  pub sound : AreSound setup clients next_id after.actors
  pub drawn : after.dice.drawn ≤ before + 1

-- Who has fired reloads.
fired :
    (setup : Setup) (clients next_id : ℕ) (actors : List Actor) (a b : Actor) →
    Steps setup clients next_id actors b →
    b.id ≡ a.id → b.kind ≡ a.kind →
    AreSound setup clients next_id (changed_at actors a.id (reloading (kind_of setup.rules a.kind)))
fired setup clients next_id actors a b steps id kind =
    let change : Actor → Actor = reloading (kind_of setup.rules b.kind) in
    let is = body_of setup clients next_id b steps.sound in
    let sound =
    sound_body setup clients next_id b (change b).body steps.sound refl steps.sound.facing
    (record {
      leg = is.leg;
      load = is.load;
      reload = omega arith;
      act_count = is.act_count;
      acts = is.acts;
      build_count = is.build_count;
      builds = is.builds;
    }) in
    let after = all_sound setup clients next_id (changed_at actors b.id change) (change b)
    (changed setup clients next_id (IsHurt setup.rules) actors b change steps refl (inl refl) sound
    steps.fine)
    in
    subst
    (λ k.
    AreSound setup clients next_id (changed_at actors a.id (reloading (kind_of setup.rules k))))
    kind
    (subst (λ i. AreSound setup clients next_id (changed_at actors i change)) id after)

-- A hit of an actor.
pub hit_steps :
    (setup : Setup) (clients next_id : ℕ) (actors : List Actor) (target : Actor) (points : ℕ) →
    Steps setup clients next_id actors target →
    Steps setup clients next_id (changed_at actors target.id (hit_by points)) (hit_by points target)
hit_steps setup clients next_id actors target points steps =
    let is = body_of setup clients next_id target steps.sound in
    changed setup clients next_id (IsHurt setup.rules) actors target (hit_by points) steps refl
    (inl refl)
    (sound_body setup clients next_id target (hit_by points target).body steps.sound refl
    steps.sound.facing
    (record {
      leg = is.leg;
      load = is.load;
      reload = is.reload;
      act_count = is.act_count;
      acts = is.acts;
      build_count = is.build_count;
      builds = is.builds;
    }))
    (some_weaker (kind_at setup.rules target.kind) (λ kind. target.body.health ≤ hp_of kind)
    (λ kind. target.body.health - points ≤ hp_of kind) (λ kind less. omega arith) steps.fine)

shot_by :
    (setup : Setup) (clients next_id : ℕ) (actors : List Actor) (a target : Actor) (points : ℕ) →
    Steps setup clients next_id actors a → Steps setup clients next_id actors target →
    (target.id ≡ a.id → target ≡ a) → (target.id ≡ a.id) ⊎ (target.id ≢ a.id) →
    AreSound setup clients next_id
    (changed_at (changed_at actors target.id (hit_by points)) a.id
    (reloading (kind_of setup.rules a.kind)))
shot_by setup clients next_id actors a target points steps other only (inl same) =
    fired setup clients next_id (changed_at actors target.id (hit_by points)) a
    (hit_by points target)
    (hit_steps setup clients next_id actors target points other) same
    (ap (λ (b : Actor). b.kind) (only same))
shot_by setup clients next_id actors a target points steps other only (inr differ) =
    fired setup clients next_id (changed_at actors target.id (hit_by points)) a a
    (changed_other setup clients next_id (IsHurt setup.rules) actors target a (hit_by points) other
    steps differ refl
    (hit_steps setup clients next_id actors target points other))
    refl refl

range_by :
    (near loaded can : Bool) (setup : Setup) (built : Grid Bool) (clients next_id : ℕ)
    (dice : Place) (actors : List Actor) (a target : Actor) (waits : ℕ) →
    moves (kind_of setup.rules a.kind) ≡ can → IsMapFor setup.rules setup.map →
    Steps setup clients next_id actors a → Steps setup clients next_id actors target →
    (target.id ≡ a.id → target ≡ a) →
    IsActivityOf setup.map (kind_of setup.rules a.kind) (Attack target.id waits) →
    IsFought setup clients next_id dice.drawn (
    if near
    then (
    if loaded
    then record {
      actors =
          changed_at
          (changed_at actors target.id (hit_by (points_of (kind_of setup.rules a.kind) dice))) a.id
          (reloading (kind_of setup.rules a.kind));
      dice = after_word dice;
    }
    else record { actors = actors; dice = dice }
    )
    else (
    if can
    then record {
      actors = gone_towards setup built actors a target.cell waits (Attack target.id);
      dice = dice;
    }
    else record { actors = changed_at actors a.id popped; dice = dice }
    ))
range_by true true can setup built clients next_id dice actors a target waits is map steps other
    only fits =
    record {
      sound =
          shot_by setup clients next_id actors a target
          (points_of (kind_of setup.rules a.kind) dice) steps other only (cases_eq target.id a.id);
      drawn = omega arith;
    }
range_by true false can setup built clients next_id dice actors a target waits is map steps
    other only fits =
    record { sound = all_sound setup clients next_id actors a steps; drawn = omega arith }
range_by false loaded true setup built clients next_id dice actors a target waits is map steps
    other only fits =
    record {
      sound =
          towards_sound setup built clients next_id actors a target.cell waits (Attack target.id)
          map fits.1 steps is
          (λ more few. (fits.0, few));
      drawn = omega arith;
    }
range_by false loaded false setup built clients next_id dice actors a target waits is map steps
    other only fits =
    record { sound = popped_sound setup clients next_id actors a steps; drawn = omega arith }

fought_by :
    (setup : Setup) (built : Grid Bool) (clients next_id : ℕ) (dice : Place) (actors : List Actor)
    (a : Actor) (id waits : ℕ) (found : Option Actor) →
    living_of actors id ≡ found → IsMapFor setup.rules setup.map →
    Steps setup clients next_id actors a →
    IsActivityOf setup.map (kind_of setup.rules a.kind) (Attack id waits) →
    IsFought setup clients next_id dice.drawn
    (fought_with setup built dice actors a (kind_of setup.rules a.kind) waits found)
fought_by setup built clients next_id dice actors a id waits None found map steps fits =
    record { sound = popped_sound setup clients next_id actors a steps; drawn = omega arith }
fought_by setup built clients next_id dice actors a id waits (Some target) found map steps fits =
    let test : Actor → Bool = λ b. (b.id == id) && is_alive b in
    let kind : Kind = kind_of setup.rules a.kind in
    range_by (is_in_range kind a target) (a.body.reload == 0) (moves kind) setup built clients
    next_id dice actors a target waits refl map steps
    (living_stands setup clients next_id (IsHurt setup.rules) actors id target steps.ready
    steps.all found)
    (All-found (λ (b : Actor). b.id ≡ a.id → b ≡ a) test actors target steps.only found)
    (fits.0, fits.1)

-- The step of an Attack.
pub attack_fought :
    (setup : Setup) (built : Grid Bool) (clients next_id : ℕ) (dice : Place) (actors : List Actor)
    (a : Actor) (target waits : ℕ) →
    IsMapFor setup.rules setup.map → Steps setup clients next_id actors a →
    IsActivityOf setup.map (kind_of setup.rules a.kind) (Attack target waits) →
    IsFought setup clients next_id dice.drawn (after_attack setup built dice actors a target waits)
unfolding after_attack
attack_fought setup built clients next_id dice actors a target waits map steps fits =
    fought_by setup built clients next_id dice actors a target waits (living_of actors target) refl
    map steps fits
