-- Proofs of what the step of an attack makes of each actor.
use Rattle.std.specs.Prelude.{◌≡◌, ◌≢◌, ℕ, ◌==◌, ◌⊎◌, Bool, true, false, if◌then◌else◌, List}
use Rattle.std.specs.Prelude.{Option, Some, None, refl}
use Rattle.std.proofs.Common.{subst, inl, inr, arith}
use Rattle.std.proofs.lemmas.Bool.{cases_eq}
use Rattle.twister.specs.Place.{Place, after_word}
use Rattle.activities.specs.declared.activity.Activity.TheVariants.{Attack}
use Rattle.rule_traits.specs.declared.kind.Kind.{Kind}
use Rattle.rule_traits.specs.Rules.{moves}
use Rattle.game_model.specs.declared.actor.Actor.{Actor}
use Rattle.game_model.specs.ActorChanges.{changed_at}
use Rattle.game_model.specs.Grid.{Grid}
use Rattle.game_model.specs.Setup.{Setup}
use Rattle.game_model.specs.ValidWorld.{IsActivityOf}
use Rattle.game_model.specs.World.{living_of}
use Rattle.game_model.specs.Kinds.{kind_of}
use Rattle.game_tick.specs.Acts.{popped}
use Rattle.game_tick.specs.Attacking.{Fought, after_attack, fought_with, hit_by, is_in_range}
use Rattle.game_tick.specs.Attacking.{points_of, reloading}
use Rattle.game_tick.specs.Moving.{gone_towards}
use Rattle.game_tick.proofs.ActorKeepsLemmas.{own_keeps, AllKeep, list_then, popped_keeps, CanStep}
use Rattle.game_tick.proofs.ActorKeepsLemmas.{same_list, changed_keeps}
use Rattle.game_tick.proofs.ActorMovesLemmas.{towards_keeps}
use Rattle.game_tick.proofs.AttackingLemmas.{hit_steps}
use Rattle.game_tick.proofs.ChangesLemmas.{IsOnly, changed_other, living_stands}
use Rattle.game_tick.proofs.SoundLemmas.{IsHurt, Steps}

-- An attack.
hit_keeps :
    (rules : List Kind) (stepping : ℕ) (actors : List Actor) (target : Actor) (points : ℕ) →
    IsOnly actors target →
    AllKeep rules stepping actors (changed_at actors target.id (hit_by points))
hit_keeps rules stepping actors target points only =
    changed_keeps rules stepping actors target (hit_by points) only
    (record {
      id = refl;
      kind = refl;
      owner = refl;
      health = omega arith;
      cell = λ still. refl;
      others = λ other. refl;
    })

fired_keeps :
    (rules : List Kind) (kind : Kind) (actors : List Actor) (a b : Actor) → IsOnly actors b →
    b.id ≡ a.id → AllKeep rules a.id actors (changed_at actors a.id (reloading kind))
fired_keeps rules kind actors a b only id =
    subst (λ i. AllKeep rules i actors (changed_at actors i (reloading kind))) id
    (own_keeps rules actors b (reloading kind) (reloading kind b).body only refl refl refl)

shot_keeps :
    (setup : Setup) (clients next_id : ℕ) (actors : List Actor) (a target : Actor) (points : ℕ) →
    Steps setup clients next_id actors a → Steps setup clients next_id actors target →
    (target.id ≡ a.id) ⊎ (target.id ≢ a.id) →
    AllKeep setup.rules a.id actors
    (changed_at (changed_at actors target.id (hit_by points)) a.id
    (reloading (kind_of setup.rules a.kind)))
shot_keeps setup clients next_id actors a target points steps other (inl same) =
    let hit : List Actor = changed_at actors target.id (hit_by points) in
    let kind : Kind = kind_of setup.rules a.kind in
    list_then setup.rules a.id actors hit (changed_at hit a.id (reloading kind))
    (hit_keeps setup.rules a.id actors target points other.only)
    (fired_keeps setup.rules kind hit a (hit_by points target)
    (hit_steps setup clients next_id actors target points other).only same)
shot_keeps setup clients next_id actors a target points steps other (inr differ) =
    let hit : List Actor = changed_at actors target.id (hit_by points) in
    let kind : Kind = kind_of setup.rules a.kind in
    let after =
    changed_other setup clients next_id (IsHurt setup.rules) actors target a (hit_by points) other
    steps differ refl
    (hit_steps setup clients next_id actors target points other) in
    list_then setup.rules a.id actors hit (changed_at hit a.id (reloading kind))
    (hit_keeps setup.rules a.id actors target points other.only)
    (fired_keeps setup.rules kind hit a a after.only refl)

abbrev fought_list : Fought → List Actor
fought_list fought = fought.actors

range_keeps :
    (near loaded able : Bool) (setup : Setup) (built : Grid Bool) (clients next_id : ℕ)
    (dice : Place) (actors : List Actor) (a target : Actor) (waits : ℕ) →
    moves (kind_of setup.rules a.kind) ≡ able → CanStep setup clients next_id actors a →
    Steps setup clients next_id actors target →
    IsActivityOf setup.map (kind_of setup.rules a.kind) (Attack target.id waits) →
    AllKeep setup.rules a.id actors (fought_list (
    if near
    then (
    if loaded
    then record {
      actors =
          changed_at
          (changed_at actors target.id (hit_by (points_of (kind_of setup.rules a.kind) dice))) a.id
          (reloading (kind_of setup.rules a.kind));
      dice = after_word dice;
    }
    else record { actors = actors; dice = dice }
    )
    else (
    if able
    then record {
      actors = gone_towards setup built actors a target.cell waits (Attack target.id);
      dice = dice;
    }
    else record { actors = changed_at actors a.id popped; dice = dice }
    )))
range_keeps true true able setup built clients next_id dice actors a target waits is can other
    fits =
    shot_keeps setup clients next_id actors a target (points_of (kind_of setup.rules a.kind) dice)
    can.steps other (cases_eq target.id a.id)
range_keeps true false able setup built clients next_id dice actors a target waits is can other
    fits =
    same_list setup.rules a.id actors
range_keeps false loaded true setup built clients next_id dice actors a target waits is can
    other fits =
    towards_keeps setup built clients next_id actors a target.cell waits (Attack target.id) can
    fits.1 is
range_keeps false loaded false setup built clients next_id dice actors a target waits is can
    other fits =
    popped_keeps setup.rules actors a can.steps.only

fought_keeps :
    (setup : Setup) (built : Grid Bool) (clients next_id : ℕ) (dice : Place) (actors : List Actor)
    (a : Actor) (id waits : ℕ) (found : Option Actor) →
    living_of actors id ≡ found → CanStep setup clients next_id actors a →
    IsActivityOf setup.map (kind_of setup.rules a.kind) (Attack id waits) →
    AllKeep setup.rules a.id actors
    (fought_with setup built dice actors a (kind_of setup.rules a.kind) waits found).actors
fought_keeps setup built clients next_id dice actors a id waits None found can fits =
    popped_keeps setup.rules actors a can.steps.only
fought_keeps setup built clients next_id dice actors a id waits (Some target) found can fits =
    let kind : Kind = kind_of setup.rules a.kind in
    range_keeps (is_in_range kind a target) (a.body.reload == 0) (moves kind) setup built clients
    next_id dice actors a target waits refl can
    (living_stands setup clients next_id (IsHurt setup.rules) actors id target can.steps.ready
    can.steps.all found)
    (fits.0, fits.1)

pub attack_keeps :
    (setup : Setup) (built : Grid Bool) (clients next_id : ℕ) (dice : Place) (actors : List Actor)
    (a : Actor) (target waits : ℕ) →
    CanStep setup clients next_id actors a →
    IsActivityOf setup.map (kind_of setup.rules a.kind) (Attack target waits) →
    AllKeep setup.rules a.id actors (after_attack setup built dice actors a target waits).actors
unfolding after_attack
attack_keeps setup built clients next_id dice actors a target waits can fits =
    fought_keeps setup built clients next_id dice actors a target waits (living_of actors target)
    refl can fits
