-- That all actors have health, and what steps, orders and burials leave of it.
use Rattle.std.proofs.Common.{◌≡◌, ℕ, suc, ◌+◌, ◌<◌, ◌≤◌, Bool, true, false, List, [], ◌∷◌, length, get_or, Option, Some, None, inl, inr, refl, sym, ap, subst, ◌∙◌, arith}
use Rattle.std.specs.Prelude.{◌==◌, ◌||◌, nat_lt, IfSome, IsSomeAnd}
use Rattle.std.specs.List.{All, filter}
use Rattle.std.proofs.lemmas.Bool.{or_parts}
use Rattle.std.proofs.lemmas.Bool.Decides.{eqb_tells, nat_tests}
use Rattle.std.proofs.lemmas.List.Elements.{All-cons, All-head, All-nil, All-tail, filter_passes}
use Rattle.rule_traits.specs.declared.kind.Kind.{Kind}
use Rattle.rule_traits.specs.Rules.{kind_at}
use Rattle.game_model.specs.declared.actor.Actor.{Actor}
use Rattle.game_model.proofs.FoundLemmas.{IdsRise}
use Rattle.game_model.proofs.LivingLemmas.{found_at}
use Rattle.game_model.specs.ValidWorld.{IsHealthOf, IsHealthy}
use Rattle.game_model.specs.World.{actor_of, is_alive}
use Rattle.game_tick.specs.Turn.{buried}
use Rattle.tick_core.specs.Live.{AllLive, AreLive, Lives, LivesOf, Standing}
use Rattle.tick_core.specs.Telling.{with_some}
use Rattle.tick_core.specs.Touched.{GrowsBut, is_among}
use Rattle.tick_core.proofs.BurialLemmas.{filter_keeps}

health_lives : (found : Option Kind) (health : ℕ) → IsSomeAnd found (IsHealthOf health) → nat_lt 0 health ≡ true
health_lives None health is = absurd is
health_lives (Some kind) health is =
    grind (arith, nat_tests, is.least)

-- In a valid world all have health.
pub healthy_live :
    (rules : List Kind) (actors : List Actor) → All (IsHealthy rules) actors → AllLive actors
healthy_live rules actors healthy = λ k d within.
    let a : Actor = get_or actors k d in
    health_lives (kind_at rules a.kind) a.body.health (healthy k d within)

-- So they have after a burial.
pub buried_live : (actors left : List Actor) → left ≡ filter is_alive actors → AllLive left
buried_live actors left is = subst AllLive (sym is) (filter_passes is_alive actors)

abbrev with_actors : Standing → List Actor → Standing
with_actors s actors = record s { world = record s.world { actors = actors } }

-- Where all have health a burial takes nobody out.
pub none_buried :
    (s : Standing) → AllLive s.world.actors → s ≡ record s { world = buried s.world }
none_buried s live = ap (with_actors s) (sym (filter_keeps is_alive s.world.actors live))

-- The actors of these ids have health, so each whose id is one of these.
pub told_live :
    (ids : List ℕ) (actors : List Actor) → IdsRise actors → AreLive ids actors → (k : ℕ) (d : Actor) →
    k < length actors → is_among ids (get_or actors k d).id ≡ true → is_alive (get_or actors k d) ≡ true
told_live [] actors rise live k d within among = absurd (let never : false ≡ true = among in cc)
told_live (id ∷ ids) actors rise live k d within among = elim (eqb_tells (get_or actors k d).id id) [
  | inl here ↦
      let a : Actor = get_or actors k d in
      let found : actor_of actors id ≡ Some a =
      subst (λ i. actor_of actors i ≡ Some a) here.1 (found_at actors k d rise within) in
      let lives : IfSome (Some a) Lives = subst (λ (o : Option Actor). IfSome o Lives) found live.0 in
      lives
  | inr there ↦ told_live ids actors rise live.1 k d within (rw there.0 at among)
]

-- All have health where those have that may have changed, or come out, since all had.
pub grows_live :
    (ids : List ℕ) (old new : List Actor) → GrowsBut ids old new → AllLive old →
    ((k : ℕ) (d : Actor) → k < length new → is_among ids (get_or new k d).id ≡ true → is_alive (get_or new k d) ≡ true) →
    AllLive new
grows_live ids [] [] grows live told = All-nil Lives
grows_live ids [] (b ∷ new) grows live told =
    All-cons Lives b new (told 0 b (omega arith) grows.0)
    (subst (λ (l : List Actor). AllLive l) (sym grows.1) (All-nil Lives))
grows_live ids (a ∷ old) [] grows live told = absurd grows
grows_live ids (a ∷ old) (b ∷ new) grows live told =
    All-cons Lives b new (by_id (is_among ids a.id) refl)
    (grows_live ids old new grows.2 (All-tail Lives a old live)
    (λ k d within among. told (suc k) d (omega arith) among))
  where
    by_id : (among : Bool) → is_among ids a.id ≡ among → is_alive b ≡ true
    by_id true is = told 0 b (omega arith) (ap (is_among ids) grows.0 ∙ is)
    by_id false is = subst (λ (x : Actor). is_alive x ≡ true) (sym (grows.1 is)) (All-head Lives a old live)

live_some :
    (some : Option ℕ) (ids : List ℕ) (actors : List Actor) → LivesOf actors some → AreLive ids actors →
    AreLive (with_some some ids) actors
live_some None ids actors one rest = rest
live_some (Some id) ids actors one rest = (one, rest)

-- Of three who were told none has died.
pub three_live :
    (actors : List Actor) (own hit new : Option ℕ) (died_own died_hit died_new : Bool) →
    (died_own ≡ false → LivesOf actors own) → (died_hit ≡ false → LivesOf actors hit) →
    (died_new ≡ false → LivesOf actors new) → (died_own || (died_hit || died_new)) ≡ false →
    AreLive (with_some own (with_some hit (with_some new []))) actors
three_live actors own hit new died_own died_hit died_new first second third calm =
    let all = or_parts died_own (died_hit || died_new) calm in
    let rest = or_parts died_hit died_new all.1 in
    live_some own (with_some hit (with_some new [])) actors (first all.0)
    (live_some hit (with_some new []) actors (second rest.0) (live_some new [] actors (third rest.1) tt))

-- After a step all have health, if they had before it and nobody who was told has died.
pub step_live :
    (ids : List ℕ) (old new : List Actor) (before died after : Bool) → GrowsBut ids old new → IdsRise new →
    after ≡ (before || died) → (before ≡ false → AllLive old) → (died ≡ false → AreLive ids new) →
    after ≡ false → AllLive new
step_live ids old new before died after grows rise is was told calm =
    let parts = or_parts before died (sym is ∙ calm) in
    grows_live ids old new grows (was parts.0) (told_live ids new rise (told parts.1))
