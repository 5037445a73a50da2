-- Proofs about legs and steps towards a cell.
use Rattle.std.specs.Prelude.{◌≡◌, ℕ, ◌+◌, ◌-◌, ◌%◌, ◌==◌, ◌<◌, ◌||◌, nat_lt, Bool, true, false}
use Rattle.std.specs.Prelude.{if◌then◌else◌, List, Option, Some, None, IfSome, refl, map}
use Rattle.std.proofs.Common.{sym, subst, inl, inr, arith}
use Rattle.std.proofs.lemmas.Bool.{ltb-true}
use Rattle.world_units.specs.declared.angle.TheConstants.{FULL_TURN}
use Rattle.world_units.specs.declared.direction.TheConstants.{DIRECTIONS}
use Rattle.world_units.specs.declared.cell.CPos.{CPos}
use Rattle.world_units.specs.Angles.{dir_angle_of}
use Rattle.world_units.specs.Cells.{same_cell}
use Rattle.world_units.specs.Directions.{leg_length_of, step_of}
use Rattle.world_units.specs.Turning.{left_of, right_of, turn_of}
use Rattle.activities.specs.declared.activity.Activity.{Activity}
use Rattle.activities.specs.declared.activity.Activity.TheVariants.{Move}
use Rattle.rule_traits.specs.declared.kind.Kind.{Kind}
use Rattle.rule_traits.specs.Rules.{moves}
use Rattle.game_model.specs.declared.actor.Actor.{Actor}
use Rattle.game_model.specs.declared.actor.Body.{Body}
use Rattle.game_model.specs.declared.actor.Leg.{Leg}
use Rattle.game_model.specs.declared.limits.TheConstants.{MAX_WAITS}
use Rattle.game_model.specs.ActorChanges.{changed_at, with_body}
use Rattle.game_model.specs.BestDirection.{best_dir_of}
use Rattle.game_model.specs.Grid.{Grid, IsOn}
use Rattle.game_model.specs.Setup.{Setup}
use Rattle.game_model.specs.ValidMap.{IsMapFor}
use Rattle.game_model.specs.ValidWorld.{IsActivityOf, IsBodyOf, IsLegOf, IsSoundActor}
use Rattle.game_model.specs.Walks.{land_of}
use Rattle.game_model.specs.World.{is_occupied}
use Rattle.game_model.specs.Kinds.{kind_of, speed_in, turning_in, costs_in}
use Rattle.game_tick.specs.declared.moving.Moving.{Moving}
use Rattle.game_tick.specs.declared.moving.Moving.TheVariants.{Going, GivenUp}
use Rattle.game_tick.specs.Acts.{popped, with_first}
use Rattle.game_tick.specs.Moving.{Moved, after_leg, after_move, gone_on, gone_towards, leg_after}
use Rattle.game_tick.specs.Moving.{leg_step, moved_in, moved_into, moved_towards, set_out}
use Rattle.game_tick.specs.Moving.{waiting_after, with_leg_step}
use Rattle.game_tick.proofs.ChangesLemmas.{changed}
use Rattle.game_tick.proofs.SoundLemmas.{AreSound, IsHurt, Steps, all_sound, body_of, first_sound}
use Rattle.game_tick.proofs.SoundLemmas.{popped_sound, sound_body}
use Rattle.game_tick.proofs.WayLemmas.{free_cell, best_is_way, IsWay}

-- Angles stay within a full turn.
pub dir_angle_below : (d : ℕ) → dir_angle_of d < FULL_TURN
dir_angle_below d = omega arith

turn_below_by :
    (near right : Bool) (f d by : ℕ) → d < FULL_TURN →
    (if near then d else (if right then (f + by) % 1024 else (f + 1024 - by) % 1024)) < FULL_TURN
turn_below_by true right f d by less = less
turn_below_by false true f d by less = omega arith
turn_below_by false false f d by less = omega arith

pub turn_below : (f d by : ℕ) → d < FULL_TURN → turn_of f d by < FULL_TURN
turn_below f d by less =
    turn_below_by (nat_lt (left_of f d) by || nat_lt (right_of f d) by)
    (nat_lt (right_of f d) (left_of f d)) f d by less

-- A leg after a step, if it has not ended.
leg_after_by :
    (on : Bool) (kind : Kind) (speed : ℕ) (leg : Leg) →
    nat_lt (leg.progress + speed) (leg_length_of leg.dir) ≡ on → moves kind ≡ true →
    leg.dir < DIRECTIONS →
    IfSome (if on then Some (record leg { progress = leg.progress + speed }) else None)
    (IsLegOf kind)
leg_after_by true kind speed leg is can within =
    record {
      moves = can;
      direction = within;
      progress = ltb-true (leg.progress + speed) (leg_length_of leg.dir) is;
    }
leg_after_by false kind speed leg is can within = tt

pub leg_after_is :
    (kind : Kind) (speed : ℕ) (leg : Leg) → moves kind ≡ true → leg.dir < DIRECTIONS →
    IfSome (leg_after speed leg) (IsLegOf kind)
leg_after_is kind speed leg can within =
    leg_after_by (nat_lt (leg.progress + speed) (leg_length_of leg.dir)) kind speed leg refl can
    within

leg_step_is :
    (kind : Kind) (speed : ℕ) (leg : Option Leg) → IfSome leg (IsLegOf kind) →
    IfSome (leg_step speed leg) (IsLegOf kind)
leg_step_is kind speed (Some leg) is = leg_after_is kind speed leg is.moves is.direction
leg_step_is kind speed None is = tt

-- The body on another leg.
with_leg :
    (setup : Setup) (kind : Kind) (body : Body) (leg : Option Leg) → IsBodyOf setup kind body →
    IfSome leg (IsLegOf kind) → IsBodyOf setup kind (record body { leg = leg })
with_leg setup kind body leg is fits =
    record {
      leg = fits;
      load = is.load;
      reload = is.reload;
      act_count = is.act_count;
      acts = is.acts;
      build_count = is.build_count;
      builds = is.builds;
    }

-- A leg step.
pub leg_sound :
    (setup : Setup) (clients next_id : ℕ) (actors : List Actor) (a : Actor) →
    Steps setup clients next_id actors a →
    AreSound setup clients next_id (after_leg setup.rules actors a.id)
leg_sound setup clients next_id actors a steps =
    let kind : Kind = kind_of setup.rules a.kind in
    let step : Actor → Actor =
    λ b. record b { body = with_leg_step (kind_of setup.rules b.kind) b.body } in
    let is = body_of setup clients next_id a steps.sound in
    all_sound setup clients next_id (changed_at actors a.id step) (step a)
    (changed setup clients next_id (IsHurt setup.rules) actors a step steps refl (inl refl)
    (sound_body setup clients next_id a (with_leg_step kind a.body) steps.sound refl
    steps.sound.facing
    (with_leg setup kind a.body (leg_step (speed_in kind.mobile) a.body.leg) is
    (leg_step_is kind (speed_in kind.mobile) a.body.leg is.leg)))
    steps.fine)

-- The waits of a step that goes on are below their limit.
abbrev pub IsAnswer : Moving → Type 0
IsAnswer (Going waits) = waits < MAX_WAITS
IsAnswer GivenUp = Unit {0}

-- What a step of an actor towards a cell leaves: the actor with its id and its kind, and all sound.
pub record Moves (setup : Setup) (clients next_id : ℕ) (a : Actor) (moved : Moved) : Type 0 where
  pub after : Actor
  pub id : after.id ≡ a.id
  pub kind : after.kind ≡ a.kind
  pub steps : Steps setup clients next_id moved.actors after
  pub answer : IsAnswer moved.answer

stays :
    (setup : Setup) (clients next_id : ℕ) (actors : List Actor) (a : Actor) (answer : Moving) →
    Steps setup clients next_id actors a → IsAnswer answer →
    Moves setup clients next_id a (record { actors = actors; answer = answer })
stays setup clients next_id actors a answer steps is =
    record { after = a; id = refl; kind = refl; steps = steps; answer = is }

waiting_by :
    (more : Bool) (waits : ℕ) → nat_lt (waits + 1) MAX_WAITS ≡ more →
    IsAnswer (if more then Going (waits + 1) else GivenUp)
waiting_by true waits is = ltb-true (waits + 1) MAX_WAITS is
waiting_by false waits is = tt

sound_at :
    (setup : Setup) (clients next_id : ℕ) (a : Actor) (p : CPos) →
    IsSoundActor setup clients next_id a → IsOn setup.map.width setup.map.height p →
    IsSoundActor setup clients next_id (record a { cell = p })
sound_at setup clients next_id a p sound on =
    record {
      least_id = sound.least_id;
      most_id = sound.most_id;
      owner = sound.owner;
      cell = on;
      facing = sound.facing;
      body = sound.body;
    }

into_by :
    (occupied : Bool) (setup : Setup) (clients next_id : ℕ) (actors : List Actor) (a : Actor)
    (waits d : ℕ) (next : CPos) →
    is_occupied actors next ≡ occupied → Steps setup clients next_id actors a →
    moves (kind_of setup.rules a.kind) ≡ true → d < DIRECTIONS →
    IsOn setup.map.width setup.map.height next →
    Moves setup clients next_id a (
    if occupied then record { actors = actors; answer = waiting_after waits }
    else record {
      actors = changed_at actors a.id (set_out (kind_of setup.rules a.kind) d next);
      answer = Going
          0;
    })
into_by true setup clients next_id actors a waits d next is steps can within on =
    stays setup clients next_id actors a (waiting_after waits) steps
    (waiting_by (nat_lt (waits + 1) MAX_WAITS) waits refl)
into_by false setup clients next_id actors a waits d next is steps can within on =
    let kind : Kind = kind_of setup.rules a.kind in
    let speed : ℕ = speed_in kind.mobile in
    let leg : Leg = record { dir = d; progress = 0 } in
    let body = body_of setup clients next_id a steps.sound in
    record {
      after = set_out kind d next a;
      id = refl;
      kind = refl;
      steps =
          changed setup clients next_id (IsHurt setup.rules) actors a (set_out kind d next) steps
          refl
          (inr (free_cell actors next is))
          (sound_body setup clients next_id (record a { cell = next })
          (record a.body { leg = leg_after speed leg })
          (sound_at setup clients next_id a next steps.sound on) refl steps.sound.facing
          (with_leg setup kind a.body (leg_after speed leg) body
          (leg_after_is kind speed leg can within)))
          steps.fine;
      answer = omega arith;
    }

into_moves :
    (setup : Setup) (clients next_id : ℕ) (actors : List Actor) (a : Actor) (waits d : ℕ)
    (to : Option CPos) →
    step_of a.cell d ≡ to → Steps setup clients next_id actors a →
    moves (kind_of setup.rules a.kind) ≡ true → IsWay setup.map a.cell d →
    Moves setup clients next_id a (moved_into (kind_of setup.rules a.kind) actors a.id waits d to)
into_moves setup clients next_id actors a waits d None to steps can way =
    stays setup clients next_id actors a GivenUp steps tt
into_moves setup clients next_id actors a waits d (Some next) to steps can way =
    into_by (is_occupied actors next) setup clients next_id actors a waits d next refl steps can
    way.direction (way.enters next to)

facing_by :
    (faces : Bool) (setup : Setup) (clients next_id : ℕ) (actors : List Actor) (a : Actor)
    (waits d : ℕ) →
    waits < MAX_WAITS → Steps setup clients next_id actors a →
    moves (kind_of setup.rules a.kind) ≡ true → IsWay setup.map a.cell d →
    Moves setup clients next_id a (
    if faces then moved_into (kind_of setup.rules a.kind) actors a.id waits d (step_of a.cell d)
    else record {
      actors =
          with_body actors a.id (record a.body {
            facing =
                turn_of a.body.facing (dir_angle_of d)
                (turning_in (kind_of setup.rules a.kind).mobile);
          });
      answer = Going waits;
    })
facing_by true setup clients next_id actors a waits d few steps can way =
    into_moves setup clients next_id actors a waits d (step_of a.cell d) refl steps can way
facing_by false setup clients next_id actors a waits d few steps can way =
    let facing : ℕ =
    turn_of a.body.facing (dir_angle_of d) (turning_in (kind_of setup.rules a.kind).mobile) in
    let body : Body = record a.body { facing = facing } in
    let is = body_of setup clients next_id a steps.sound in
    record {
      after = record a { body = body };
      id = refl;
      kind = refl;
      steps =
          changed setup clients next_id (IsHurt setup.rules) actors a
          (λ (b : Actor). record b { body = body }) steps refl
          (inl refl)
          (sound_body setup clients next_id a body steps.sound refl
          (turn_below a.body.facing (dir_angle_of d)
          (turning_in (kind_of setup.rules a.kind).mobile) (dir_angle_below d))
          (record {
            leg = is.leg;
            load = is.load;
            reload = is.reload;
            act_count = is.act_count;
            acts = is.acts;
            build_count = is.build_count;
            builds = is.builds;
          }))
          steps.fine;
      answer = few;
    }

in_moves :
    (setup : Setup) (clients next_id : ℕ) (actors : List Actor) (a : Actor) (waits : ℕ)
    (best : Option ℕ) →
    waits < MAX_WAITS → Steps setup clients next_id actors a →
    moves (kind_of setup.rules a.kind) ≡ true →
    ((d : ℕ) → best ≡ Some d → IsWay setup.map a.cell d) →
    Moves setup clients next_id a (moved_in (kind_of setup.rules a.kind) actors a waits best)
in_moves setup clients next_id actors a waits None few steps can way =
    stays setup clients next_id actors a GivenUp steps tt
in_moves setup clients next_id actors a waits (Some d) few steps can way =
    facing_by (a.body.facing == dir_angle_of d) setup clients next_id actors a waits d few steps can
    (way d refl)

pub towards_moves :
    (setup : Setup) (built : Grid Bool) (clients next_id : ℕ) (actors : List Actor) (a : Actor)
    (goal : CPos) (waits : ℕ) →
    IsMapFor setup.rules setup.map → waits < MAX_WAITS → Steps setup clients next_id actors a →
    moves (kind_of setup.rules a.kind) ≡ true →
    Moves setup clients next_id a (moved_towards setup built actors a goal waits)
unfolding moved_towards
towards_moves setup built clients next_id actors a goal waits map few steps can =
    let kind : Kind = kind_of setup.rules a.kind in
    in_moves setup clients next_id actors a waits
    (best_dir_of setup.map (land_of setup.map built (costs_in kind.mobile) goal) a.cell) few steps
    can
    (λ d found. best_is_way setup built kind a.cell goal d map found)

gone_on_by :
    (setup : Setup) (clients next_id : ℕ) (actors : List Actor) (a after : Actor)
    (activity : ℕ → Activity) (answer : Moving) →
    Steps setup clients next_id actors after → after.id ≡ a.id → after.kind ≡ a.kind →
    IsAnswer answer →
    ((waits : ℕ) → waits < MAX_WAITS →
    IsActivityOf setup.map (kind_of setup.rules a.kind) (activity waits)) →
    AreSound setup clients next_id (gone_on actors a.id activity answer)
gone_on_by setup clients next_id actors a after activity (Going waits) steps id kind few fits =
    subst (λ i. AreSound setup clients next_id (changed_at actors i (with_first (activity waits))))
    id
    (first_sound setup clients next_id actors after (activity waits) steps
    (subst (λ k. IsActivityOf setup.map (kind_of setup.rules k) (activity waits)) (sym kind)
    (fits waits few)))
gone_on_by setup clients next_id actors a after activity GivenUp steps id kind few fits =
    subst (λ i. AreSound setup clients next_id (changed_at actors i popped)) id
    (popped_sound setup clients next_id actors after steps)

-- A step of an activity that leads towards a cell.
pub towards_sound :
    (setup : Setup) (built : Grid Bool) (clients next_id : ℕ) (actors : List Actor) (a : Actor)
    (goal : CPos) (waits : ℕ) (activity : ℕ → Activity) →
    IsMapFor setup.rules setup.map → waits < MAX_WAITS → Steps setup clients next_id actors a →
    moves (kind_of setup.rules a.kind) ≡ true →
    ((more : ℕ) → more < MAX_WAITS →
    IsActivityOf setup.map (kind_of setup.rules a.kind) (activity more)) →
    AreSound setup clients next_id (gone_towards setup built actors a goal waits activity)
towards_sound setup built clients next_id actors a goal waits activity map few steps can fits =
    let moved : Moved = moved_towards setup built actors a goal waits in
    let moves = towards_moves setup built clients next_id actors a goal waits map few steps can in
    gone_on_by setup clients next_id moved.actors a moves.after activity moved.answer moves.steps
    moves.id moves.kind moves.answer fits

move_by :
    (there : Bool) (setup : Setup) (built : Grid Bool) (clients next_id : ℕ) (actors : List Actor)
    (a : Actor) (goal : CPos) (waits : ℕ) →
    IsMapFor setup.rules setup.map → Steps setup clients next_id actors a →
    IsActivityOf setup.map (kind_of setup.rules a.kind) (Move goal waits) →
    AreSound setup clients next_id (
    if there then changed_at actors a.id popped
    else gone_towards setup built actors a goal waits (Move goal))
move_by true setup built clients next_id actors a goal waits map steps fits =
    popped_sound setup clients next_id actors a steps
move_by false setup built clients next_id actors a goal waits map steps fits =
    towards_sound setup built clients next_id actors a goal waits (Move goal) map fits.1.patience
    steps fits.0
    (λ more few. (fits.0, record { on_map = fits.1.on_map; patience = few }))

-- The step of a Move.
pub move_sound :
    (setup : Setup) (built : Grid Bool) (clients next_id : ℕ) (actors : List Actor) (a : Actor)
    (goal : CPos) (waits : ℕ) →
    IsMapFor setup.rules setup.map → Steps setup clients next_id actors a →
    IsActivityOf setup.map (kind_of setup.rules a.kind) (Move goal waits) →
    AreSound setup clients next_id (after_move setup built actors a goal waits)
unfolding after_move
move_sound setup built clients next_id actors a goal waits map steps fits =
    move_by (same_cell a.cell goal) setup built clients next_id actors a goal waits map steps fits
