-- Proofs of what the step of an actor makes of each actor, where it changes but one.
use Rattle.std.specs.Prelude.{◌≡◌, ℕ, ◌<◌, false, List, length, get_or, refl}
use Rattle.std.proofs.Common.{sym, ◌∙◌, ap, subst, inl, inr, arith}
use Rattle.activities.specs.declared.activity.Activity.{Activity}
use Rattle.rule_traits.specs.declared.kind.Kind.{Kind}
use Rattle.rule_traits.specs.Rules.{moves}
use Rattle.game_model.specs.declared.actor.Actor.{Actor}
use Rattle.game_model.specs.declared.actor.Body.{Body}
use Rattle.game_model.specs.ActorChanges.{changed_at}
use Rattle.game_model.specs.Setup.{Setup}
use Rattle.game_model.specs.ValidMap.{IsMapFor}
use Rattle.game_model.specs.Kinds.{kind_of}
use Rattle.game_tick.specs.Acts.{popped, with_first}
use Rattle.game_tick.specs.Moving.{after_leg, with_leg_step}
use Rattle.game_tick.specs.StepKeeps.{ActorKeeps}
use Rattle.game_tick.proofs.ChangesLemmas.{Becomes, IsOnly, becomes, length-changed_at}
use Rattle.game_tick.proofs.SoundLemmas.{Steps}

pub same_actor : (rules : List Kind) (stepping : ℕ) (a : Actor) → ActorKeeps rules stepping a a
same_actor rules stepping a =
    record {
      id = refl;
      kind = refl;
      owner = refl;
      health = omega arith;
      cell = λ still. refl;
      others = λ other. refl;
    }

pub actor_then :
    (rules : List Kind) (stepping : ℕ) (a b c : Actor) → ActorKeeps rules stepping a b →
    ActorKeeps rules stepping b c → ActorKeeps rules stepping a c
actor_then rules stepping a b c first second =
    record {
      id = second.id ∙ first.id;
      kind = second.kind ∙ first.kind;
      owner = second.owner ∙ first.owner;
      health = omega (arith, first.health, second.health);
      cell =
          λ still.
          second.cell (subst (λ k. moves (kind_of rules k) ≡ false) (sym first.kind) still)
          ∙ first.cell still;
      others =
          λ other.
          second.others (λ is. other (sym first.id ∙ is))
          ∙ ap
          (λ (x : Actor).
          let y : Actor = record x { body = record x.body { health = c.body.health } } in y)
          (first.others other);
    }

-- Each actor at its place, and no more.
pub record AllKeep (rules : List Kind) (stepping : ℕ) (old new : List Actor) : Type 0 where
  pub count : length new ≡ length old
  pub each :
      (k : ℕ) (d : Actor) → k < length old →
      ActorKeeps rules stepping (get_or old k d) (get_or new k d)

pub same_list :
    (rules : List Kind) (stepping : ℕ) (actors : List Actor) → AllKeep rules stepping actors actors
same_list rules stepping actors =
    record { count = refl; each = λ k d within. same_actor rules stepping (get_or actors k d) }

pub list_then :
    (rules : List Kind) (stepping : ℕ) (a b c : List Actor) → AllKeep rules stepping a b →
    AllKeep rules stepping b c → AllKeep rules stepping a c
list_then rules stepping a b c first second =
    record {
      count = second.count ∙ first.count;
      each =
          λ k d within.
          actor_then rules stepping (get_or a k d) (get_or b k d) (get_or c k d)
          (first.each k d within)
          (second.each k d (omega (arith, within, first.count)));
    }

becomes_keeps :
    (rules : List Kind) (stepping : ℕ) (a c x y : Actor) → Becomes a c x y →
    ActorKeeps rules stepping a c → ActorKeeps rules stepping x y
becomes_keeps rules stepping a c x y (inl other) keeps =
    subst (λ z. ActorKeeps rules stepping x z) (sym other.1) (same_actor rules stepping x)
becomes_keeps rules stepping a c x y (inr here) keeps =
    subst (λ z. ActorKeeps rules stepping x z) (sym here.1)
    (subst (λ z. ActorKeeps rules stepping z c) (sym here.0) keeps)

pub changed_keeps :
    (rules : List Kind) (stepping : ℕ) (actors : List Actor) (a : Actor) (change : Actor → Actor) →
    IsOnly actors a → ActorKeeps rules stepping a (change a) →
    AllKeep rules stepping actors (changed_at actors a.id change)
changed_keeps rules stepping actors a change only keeps =
    record {
      count = length-changed_at actors a.id change;
      each =
          λ k d within.
          becomes_keeps rules stepping a (change a) (get_or actors k d)
          (get_or (changed_at actors a.id change) k d)
          (becomes actors a change only k d within) keeps;
    }

-- The actor that makes the step has another body, of the same owner and health.
body_keeps :
    (rules : List Kind) (a : Actor) (body : Body) → body.owner ≡ a.body.owner →
    body.health ≡ a.body.health → ActorKeeps rules a.id a (record a { body = body })
body_keeps rules a body owner health =
    record {
      id = refl;
      kind = refl;
      owner = owner;
      health = omega (arith, health);
      cell = λ still. refl;
      others = λ other. absurd (other refl);
    }

pub own_keeps :
    (rules : List Kind) (actors : List Actor) (a : Actor) (change : Actor → Actor) (body : Body) →
    IsOnly actors a → change a ≡ record a { body = body } → body.owner ≡ a.body.owner →
    body.health ≡ a.body.health → AllKeep rules a.id actors (changed_at actors a.id change)
own_keeps rules actors a change body only is owner health =
    changed_keeps rules a.id actors a change only
    (subst (λ c. ActorKeeps rules a.id a c) (sym is) (body_keeps rules a body owner health))

pub popped_keeps :
    (rules : List Kind) (actors : List Actor) (a : Actor) → IsOnly actors a →
    AllKeep rules a.id actors (changed_at actors a.id popped)
popped_keeps rules actors a only =
    own_keeps rules actors a popped (popped a).body only refl refl refl

pub first_keeps :
    (rules : List Kind) (actors : List Actor) (a : Actor) (act : Activity) → IsOnly actors a →
    AllKeep rules a.id actors (changed_at actors a.id (with_first act))
first_keeps rules actors a act only =
    own_keeps rules actors a (with_first act) (with_first act a).body only refl refl refl

pub leg_keeps :
    (rules : List Kind) (actors : List Actor) (a : Actor) → IsOnly actors a →
    AllKeep rules a.id actors (after_leg rules actors a.id)
leg_keeps rules actors a only =
    own_keeps rules actors a
    (λ (b : Actor). record b { body = with_leg_step (kind_of rules b.kind) b.body })
    (with_leg_step (kind_of rules a.kind) a.body) only refl refl refl

-- An actor that stands in mid-turn on this map.
pub record CanStep
    (setup : Setup) (clients next_id : ℕ) (actors : List Actor) (a : Actor) : Type 0 where
  pub map : IsMapFor setup.rules setup.map
  pub steps : Steps setup clients next_id actors a
