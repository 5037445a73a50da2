-- How long a save is.
use Rattle.std.proofs.Common.{◌≡◌, ℕ, ◌+◌, ◌*◌, ◌≤◌, Bool, List, [], ◌∷◌, ◌++◌, length}
use Rattle.std.proofs.Common.{Option, Some, None, refl, ◌∙◌, arith}
use Rattle.std.specs.List.{All, flat_map, zip}
use Rattle.std.specs.Option.{IsSomeAnd}
use Rattle.std.proofs.lemmas.List.{length-append}
use Rattle.std.proofs.lemmas.List.Elements.{All-head, All-tail}
use Rattle.std.proofs.Math.Nat.{mul-le-mul}
use Rattle.wire_bytes.specs.Field.{field_bytes}
use Rattle.wire_bytes.proofs.FieldLemmas.{field_length}
use Rattle.activities.specs.declared.activity.Activity.{Activity}
use Rattle.activities.specs.declared.activity.Activity.TheVariants.{Move, Attack, Harvest, Deliver}
use Rattle.activities.specs.declared.queue.TheConstants.{MAX_ACTIVITIES}
use Rattle.rule_traits.specs.declared.kind.Kind.{Kind}
use Rattle.rule_traits.specs.Rules.{kind_at}
use Rattle.game_model.specs.declared.actor.Actor.{Actor}
use Rattle.game_model.specs.declared.actor.Body.{Body}
use Rattle.game_model.specs.declared.actor.Leg.{Leg}
use Rattle.game_model.specs.declared.builds.Build.{Build}
use Rattle.game_model.specs.declared.limits.TheConstants.{MAX_BUILDS, MAX_SIDE}
use Rattle.game_model.specs.declared.world.Head.{Head}
use Rattle.game_model.specs.declared.world.World.{World}
use Rattle.game_model.specs.Setup.{Setup}
use Rattle.game_model.specs.ValidWorld.{IsBodyOf, IsSavedWorld, IsSoundActor}
use Rattle.game_model.specs.World.{head_of}
use Rattle.sync_hash.specs.HashedBytes.{activity_bytes, actor_bytes, build_bytes}
use Rattle.sync_hash.specs.HashedBytes.{client_bytes, header_bytes}
use Rattle.sync_hash.specs.HashedBytes.{leg_bytes}
use Rattle.game_save.specs.declared.limits.TheConstants.{MAX_SAVE_LENGTH}
use Rattle.game_save.specs.SaveBytes.{actors_bytes, opening_bytes, save_bytes, world_bytes}

leg_length : (leg : Option Leg) → length (leg_bytes leg) ≤ 6
leg_length None = omega arith
leg_length (Some leg) = omega (arith, field_length 4 leg.progress)

act_length : (act : Activity) → length (activity_bytes act) ≤ 6
act_length (Move goal waits) = omega arith
act_length (Attack target waits) =
    omega (arith, length-append (field_bytes 4 target) (waits ∷ []), field_length 4 target)
act_length (Harvest cell timer waits) =
    omega (arith, length-append (field_bytes 2 timer) (waits ∷ []), field_length 2 timer)
act_length (Deliver home timer waits) =
    omega (arith, length-append (field_bytes 2 timer) (waits ∷ []), field_length 2 timer)

acts_length : (acts : List Activity) → length (flat_map activity_bytes acts) ≤ 6 * length acts
acts_length [] = omega arith
acts_length (act ∷ acts) =
    omega (
      arith,
      length-append (activity_bytes act) (flat_map activity_bytes acts),
      act_length act,
      acts_length acts,
    )

build_length : (build : Build) → length (build_bytes build) ≡ 4
build_length build =
    length-append (field_bytes 2 build.kind) (field_bytes 2 build.left)
    ∙ omega (arith, field_length 2 build.kind, field_length 2 build.left)

builds_length : (builds : List Build) → length (flat_map build_bytes builds) ≡ 4 * length builds
builds_length [] = refl
builds_length (build ∷ builds) =
    omega (
      arith,
      length-append (build_bytes build) (flat_map build_bytes builds),
      build_length build,
      builds_length builds,
    )

-- An actor with few activities and builds.
actor_length :
    (a : Actor) → length a.body.acts ≤ MAX_ACTIVITIES → length a.body.builds ≤ MAX_BUILDS →
    length (actor_bytes a) ≤ 155
unfolding actor_bytes
actor_length a few also =
    simp (length-append, field_length)
    (omega (arith, leg_length a.body.leg, acts_length a.body.acts, builds_length a.body.builds, few, also))

counts :
    (setup : Setup) (body : Body) (found : Option Kind) →
    IsSomeAnd found (λ kind. IsBodyOf setup kind body) →
    (length body.acts ≤ MAX_ACTIVITIES) × (length body.builds ≤ MAX_BUILDS)
counts setup body None is = elim is [ ]
counts setup body (Some kind) is = (is.act_count, is.build_count)

actors_length :
    (setup : Setup) (clients next_id : ℕ) (actors : List Actor) →
    All (IsSoundActor setup clients next_id) actors →
    length (actors_bytes actors) ≤ 155 * length actors
actors_length setup clients next_id [] sound = omega arith
actors_length setup clients next_id (a ∷ actors) sound =
    let first : IsSoundActor setup clients next_id a =
    All-head (IsSoundActor setup clients next_id) a actors sound in
    let few : (length a.body.acts ≤ MAX_ACTIVITIES) × (length a.body.builds ≤ MAX_BUILDS) =
    counts setup a.body (kind_at setup.rules a.kind) first.body in
    omega (
      arith,
      length-append (actor_bytes a) (actors_bytes actors),
      actor_length a few.0 few.1,
      actors_length setup clients next_id actors
          (All-tail (IsSoundActor setup clients next_id) a actors sound),
    )

client_length : (cash : ℕ) (gone : Bool) → length (client_bytes (cash, gone)) ≡ 5
client_length cash gone = simp (length-append, field_length) refl

clients_length :
    (cash : List ℕ) (gone : List Bool) →
    length (flat_map client_bytes (zip cash gone)) ≤ 5 * length cash
clients_length [] gone = omega arith
clients_length (x ∷ xs) [] = omega arith
clients_length (x ∷ xs) (g ∷ gs) =
    omega (
      arith,
      length-append (client_bytes (x, g)) (flat_map client_bytes (zip xs gs)),
      client_length x g,
      clients_length xs gs,
    )

header_length :
    (head : Head) (actors : ℕ) → length (header_bytes head actors) ≤ 26 + 5 * length head.cash
header_length head actors =
    simp (length-append, field_length) (omega (arith, clients_length head.cash head.gone))

opening_length : (number frames : ℕ) → length (opening_bytes number frames) ≡ 18
unfolding opening_bytes
opening_length number frames = simp (length-append, field_length) refl

world_length :
    (w : World) → length (world_bytes w)
    ≡ 2 + (length (header_bytes (head_of w) (length w.actors))
    + (length (actors_bytes w.actors) + length w.ore.cells))
unfolding world_bytes
world_length w =
    omega (
      arith,
      length-append (header_bytes (head_of w) (length w.actors))
          (actors_bytes w.actors ++ w.ore.cells),
      length-append (actors_bytes w.actors) w.ore.cells,
    )

-- A save of a map within the limits.
pub save_length :
    (setup : Setup) (number frames : ℕ) (w : World) → IsSavedWorld setup frames w →
    setup.map.width ≤ MAX_SIDE → setup.map.height ≤ MAX_SIDE →
    length (save_bytes number frames w) ≤ MAX_SAVE_LENGTH
unfolding save_bytes
save_length setup number frames w is wide tall =
    let valid = is.valid in
    let size : w.ore.width * w.ore.height ≤ 128 * 128 =
    mul-le-mul {n₁ = w.ore.width} {m₁ = w.ore.height} {n₂ = 128} {m₂ = 128}
    (omega (arith, valid.ore.size.width, wide)) (omega (arith, valid.ore.size.height, tall)) in
    omega (
      arith,
      length-append (opening_bytes number frames) (world_bytes w),
      opening_length number frames,
      world_length w,
      header_length (head_of w) (length w.actors),
      actors_length setup (length w.cash) w.next_id w.actors valid.actors.each,
      valid.actors.count,
      valid.clients.most,
      valid.ore.whole.cells,
      size,
    )
