-- Proofs about sound actors whose body has changed.
use Rattle.std.specs.Prelude.{◌≡◌, ℕ, ◌<◌, ◌≤◌, List, ◌∷◌, drop, length}
use Rattle.std.specs.Prelude.{Option, Some, None, IsSomeAnd, refl}
use Rattle.std.specs.List.{All}
use Rattle.std.specs.Option.{unwrap_or}
use Rattle.std.proofs.Common.{sym, subst, inl, arith}
use Rattle.std.proofs.lemmas.List.Elements.{All-cons, All-drop}
use Rattle.std.proofs.lemmas.List.{length-drop}
use Rattle.world_units.specs.declared.angle.TheConstants.{FULL_TURN}
use Rattle.activities.specs.declared.activity.Activity.{Activity}
use Rattle.activities.specs.declared.queue.TheConstants.{MAX_ACTIVITIES}
use Rattle.rule_traits.specs.Rules.{kind_at}
use Rattle.game_model.specs.declared.actor.Actor.{Actor}
use Rattle.game_model.specs.declared.actor.Body.{Body}
use Rattle.game_model.specs.declared.builds.Build.{Build}
use Rattle.game_model.specs.declared.limits.TheConstants.{MAX_BUILDS}
use Rattle.game_model.specs.ActorChanges.{changed_at}
use Rattle.game_model.specs.Setup.{Setup}
use Rattle.game_model.specs.ValidMap.{IsOwner}
use Rattle.game_model.specs.ValidWorld.{IsActivityOf, IsBodyOf, IsBuildOf, IsSoundActor}
use Rattle.game_model.specs.Kinds.{kind_of}
use Rattle.game_tick.specs.Acts.{popped, with_acts, with_first}
use Rattle.game_tick.specs.Building.{with_builds}
pub use Rattle.game_tick.specs.MidTurn.{AreSound, IsHurt}
use Rattle.game_tick.proofs.ChangesLemmas.{Stands, changed}

pub some_holds :
    {X : Type 0} (found : Option X) (d : X) (P : X → Type 0) → IsSomeAnd found P →
    P (unwrap_or found d)
some_holds None d P never = absurd never
some_holds (Some x) d P holds = holds

some_else :
    {X : Type 0} (found : Option X) (d : X) (P Q : X → Type 0) → IsSomeAnd found P →
    Q (unwrap_or found d) → IsSomeAnd found Q
some_else None d P Q never holds = absurd never
some_else (Some x) d P Q old holds = holds

pub some_weaker :
    {X : Type 0} (found : Option X) (P Q : X → Type 0) → ((x : X) → P x → Q x) → IsSomeAnd found P →
    IsSomeAnd found Q
some_weaker None P Q more never = absurd never
some_weaker (Some x) P Q more holds = more x holds

-- What is known of an actor's body.
pub body_of :
    (setup : Setup) (clients next_id : ℕ) (a : Actor) → IsSoundActor setup clients next_id a →
    IsBodyOf setup (kind_of setup.rules a.kind) a.body
body_of setup clients next_id a sound =
    some_holds (kind_at setup.rules a.kind) _ (λ kind. IsBodyOf setup kind a.body) sound.body

-- Another body of the same kind and owner.
pub sound_body :
    (setup : Setup) (clients next_id : ℕ) (a : Actor) (body : Body) →
    IsSoundActor setup clients next_id a → body.owner ≡ a.body.owner → body.facing < FULL_TURN →
    IsBodyOf setup (kind_of setup.rules a.kind) body →
    IsSoundActor setup clients next_id (record a { body = body })
sound_body setup clients next_id a body sound owner facing is =
    record {
      least_id = sound.least_id;
      most_id = sound.most_id;
      owner = subst (IsOwner clients) (sym owner) sound.owner;
      cell = sound.cell;
      facing = facing;
      body =
          some_else (kind_at setup.rules a.kind) _ (λ kind. IsBodyOf setup kind a.body)
          (λ kind. IsBodyOf setup kind body) sound.body is;
    }

-- Other activities.
pub sound_acts :
    (setup : Setup) (clients next_id : ℕ) (a : Actor) (acts : List Activity) →
    IsSoundActor setup clients next_id a → length acts ≤ MAX_ACTIVITIES →
    All (IsActivityOf setup.map (kind_of setup.rules a.kind)) acts →
    IsSoundActor setup clients next_id (with_acts acts a)
sound_acts setup clients next_id a acts sound count each =
    let is = body_of setup clients next_id a sound in
    sound_body setup clients next_id a (record a.body { acts = acts }) sound refl sound.facing
    (record {
      leg = is.leg;
      load = is.load;
      reload = is.reload;
      act_count = count;
      acts = each;
      build_count = is.build_count;
      builds = is.builds;
    })

-- Other builds.
pub sound_builds :
    (setup : Setup) (clients next_id : ℕ) (a : Actor) (builds : List Build) →
    IsSoundActor setup clients next_id a → length builds ≤ MAX_BUILDS →
    All (IsBuildOf setup.rules (kind_of setup.rules a.kind)) builds →
    IsSoundActor setup clients next_id (with_builds builds a)
sound_builds setup clients next_id a builds sound count each =
    let is = body_of setup clients next_id a sound in
    sound_body setup clients next_id a (record a.body { builds = builds }) sound refl sound.facing
    (record {
      leg = is.leg;
      load = is.load;
      reload = is.reload;
      act_count = is.act_count;
      acts = is.acts;
      build_count = count;
      builds = each;
    })

pub sound_popped :
    (setup : Setup) (clients next_id : ℕ) (a : Actor) → IsSoundActor setup clients next_id a →
    IsSoundActor setup clients next_id (popped a)
sound_popped setup clients next_id a sound =
    let is = body_of setup clients next_id a sound in
    sound_acts setup clients next_id a (drop 1 a.body.acts) sound
    (omega (arith, is.act_count, length-drop 1 a.body.acts))
    (All-drop (IsActivityOf setup.map (kind_of setup.rules a.kind)) 1 a.body.acts is.acts)

pub sound_first :
    (setup : Setup) (clients next_id : ℕ) (a : Actor) (act : Activity) →
    IsSoundActor setup clients next_id a →
    IsActivityOf setup.map (kind_of setup.rules a.kind) act →
    IsSoundActor setup clients next_id (with_first act a)
sound_first setup clients next_id a act sound fits =
    let is = body_of setup clients next_id a sound in
    let P : Activity → Type 0 = IsActivityOf setup.map (kind_of setup.rules a.kind) in
    sound_acts setup clients next_id a (act ∷ drop 1 a.body.acts) sound
    (omega (arith, is.act_count, length-drop 1 a.body.acts))
    (All-cons P act (drop 1 a.body.acts) fits (All-drop P 1 a.body.acts is.acts))

-- Actors in mid-turn, and one of them.
abbrev pub Steps : Setup → (clients next_id : ℕ) → List Actor → Actor → Type 0
Steps setup clients next_id actors a = Stands setup clients next_id (IsHurt setup.rules) actors a

pub all_sound :
    (setup : Setup) (clients next_id : ℕ) (actors : List Actor) (a : Actor) →
    Steps setup clients next_id actors a → AreSound setup clients next_id actors
all_sound setup clients next_id actors a steps = record { ready = steps.ready; hurt = steps.all }

-- The actor ends its first activity.
pub popped_sound :
    (setup : Setup) (clients next_id : ℕ) (actors : List Actor) (a : Actor) →
    Steps setup clients next_id actors a →
    AreSound setup clients next_id (changed_at actors a.id popped)
popped_sound setup clients next_id actors a steps =
    all_sound setup clients next_id (changed_at actors a.id popped) (popped a)
    (changed setup clients next_id (IsHurt setup.rules) actors a popped steps refl (inl refl)
    (sound_popped setup clients next_id a steps.sound) steps.fine)

-- The actor has another activity in place of its first.
pub first_sound :
    (setup : Setup) (clients next_id : ℕ) (actors : List Actor) (a : Actor) (act : Activity) →
    Steps setup clients next_id actors a →
    IsActivityOf setup.map (kind_of setup.rules a.kind) act →
    AreSound setup clients next_id (changed_at actors a.id (with_first act))
first_sound setup clients next_id actors a act steps fits =
    all_sound setup clients next_id (changed_at actors a.id (with_first act)) (with_first act a)
    (changed setup clients next_id (IsHurt setup.rules) actors a (with_first act) steps refl
    (inl refl)
    (sound_first setup clients next_id a act steps.sound fits) steps.fine)
