-- Proofs of what a step towards a cell makes of each actor.
use Rattle.std.specs.Prelude.{◌≡◌, ℕ, ◌<◌, ◌==◌, Bool, true, false, if◌then◌else◌, List}
use Rattle.std.specs.Prelude.{Option, Some, None, refl}
use Rattle.std.proofs.Common.{sym, ◌∙◌, subst, arith}
use Rattle.std.proofs.lemmas.Bool.{false≢true}
use Rattle.world_units.specs.declared.cell.CPos.{CPos}
use Rattle.world_units.specs.Angles.{dir_angle_of}
use Rattle.world_units.specs.Cells.{same_cell}
use Rattle.world_units.specs.Directions.{step_of}
use Rattle.world_units.specs.Turning.{turn_of}
use Rattle.activities.specs.declared.activity.Activity.{Activity}
use Rattle.activities.specs.declared.activity.Activity.TheVariants.{Move}
use Rattle.rule_traits.specs.declared.kind.Kind.{Kind}
use Rattle.rule_traits.specs.Rules.{moves}
use Rattle.game_model.specs.declared.actor.Actor.{Actor}
use Rattle.game_model.specs.declared.actor.Body.{Body}
use Rattle.game_model.specs.declared.limits.TheConstants.{MAX_WAITS}
use Rattle.game_model.specs.ActorChanges.{changed_at, with_body}
use Rattle.game_model.specs.BestDirection.{best_dir_of}
use Rattle.game_model.specs.Grid.{Grid}
use Rattle.game_model.specs.Setup.{Setup}
use Rattle.game_model.specs.ValidWorld.{IsActivityOf}
use Rattle.game_model.specs.Walks.{land_of}
use Rattle.game_model.specs.World.{is_occupied}
use Rattle.game_model.specs.Kinds.{costs_in, kind_of, turning_in}
use Rattle.game_tick.specs.declared.moving.Moving.{Moving}
use Rattle.game_tick.specs.declared.moving.Moving.TheVariants.{Going, GivenUp}
use Rattle.game_tick.specs.Acts.{popped, with_first}
use Rattle.game_tick.specs.Moving.{Moved, after_move, gone_on, gone_towards, moved_in, moved_into}
use Rattle.game_tick.specs.Moving.{moved_towards, set_out, waiting_after}
use Rattle.game_tick.proofs.ActorKeepsLemmas.{own_keeps, AllKeep, first_keeps, list_then}
use Rattle.game_tick.proofs.ActorKeepsLemmas.{popped_keeps, CanStep, same_list, changed_keeps}
use Rattle.game_tick.proofs.ChangesLemmas.{IsOnly}
use Rattle.game_tick.proofs.MovingLemmas.{towards_moves}

-- Steps towards a cell.
abbrev moved_list : Moved → List Actor
moved_list moved = moved.actors

into_by_keeps :
    (occupied : Bool) (rules : List Kind) (actors : List Actor) (a : Actor) (waits d : ℕ)
    (next : CPos) →
    IsOnly actors a → moves (kind_of rules a.kind) ≡ true →
    AllKeep rules a.id actors (moved_list (
    if occupied then record { actors = actors; answer = waiting_after waits }
    else record
    { actors = changed_at actors a.id (set_out (kind_of rules a.kind) d next); answer = Going 0 }))
into_by_keeps true rules actors a waits d next only can = same_list rules a.id actors
into_by_keeps false rules actors a waits d next only can =
    changed_keeps rules a.id actors a (set_out (kind_of rules a.kind) d next) only
    (record {
      id = refl;
      kind = refl;
      owner = refl;
      health = omega arith;
      cell = λ still. absurd (false≢true (sym still ∙ can));
      others = λ other. absurd (other refl);
    })

into_keeps :
    (rules : List Kind) (actors : List Actor) (a : Actor) (waits d : ℕ) (to : Option CPos) →
    IsOnly actors a → moves (kind_of rules a.kind) ≡ true →
    AllKeep rules a.id actors (moved_into (kind_of rules a.kind) actors a.id waits d to).actors
into_keeps rules actors a waits d None only can = same_list rules a.id actors
into_keeps rules actors a waits d (Some next) only can =
    into_by_keeps (is_occupied actors next) rules actors a waits d next only can

facing_keeps :
    (faces : Bool) (rules : List Kind) (actors : List Actor) (a : Actor) (waits d : ℕ) →
    IsOnly actors a → moves (kind_of rules a.kind) ≡ true →
    AllKeep rules a.id actors (moved_list (
    if faces then moved_into (kind_of rules a.kind) actors a.id waits d (step_of a.cell d)
    else record {
      actors =
          with_body actors a.id (record a.body {
            facing =
                turn_of a.body.facing (dir_angle_of d) (turning_in (kind_of rules a.kind).mobile);
          });
      answer = Going waits;
    }))
facing_keeps true rules actors a waits d only can =
    into_keeps rules actors a waits d (step_of a.cell d) only can
facing_keeps false rules actors a waits d only can =
    let body : Body = record a.body {
      facing = turn_of a.body.facing (dir_angle_of d) (turning_in (kind_of rules a.kind).mobile);
    } in
    own_keeps rules actors a (λ (b : Actor). record b { body = body }) body only refl refl refl

in_keeps :
    (rules : List Kind) (actors : List Actor) (a : Actor) (waits : ℕ) (best : Option ℕ) →
    IsOnly actors a → moves (kind_of rules a.kind) ≡ true →
    AllKeep rules a.id actors (moved_in (kind_of rules a.kind) actors a waits best).actors
in_keeps rules actors a waits None only can = same_list rules a.id actors
in_keeps rules actors a waits (Some d) only can =
    facing_keeps (a.body.facing == dir_angle_of d) rules actors a waits d only can

moved_keeps :
    (setup : Setup) (built : Grid Bool) (actors : List Actor) (a : Actor) (goal : CPos)
    (waits : ℕ) →
    IsOnly actors a → moves (kind_of setup.rules a.kind) ≡ true →
    AllKeep setup.rules a.id actors (moved_towards setup built actors a goal waits).actors
unfolding moved_towards
moved_keeps setup built actors a goal waits only can =
    in_keeps setup.rules actors a waits
    (best_dir_of setup.map
    (land_of setup.map built (costs_in (kind_of setup.rules a.kind).mobile) goal) a.cell)
    only can

gone_on_keeps :
    (rules : List Kind) (actors : List Actor) (a after : Actor) (activity : ℕ → Activity)
    (answer : Moving) →
    IsOnly actors after → after.id ≡ a.id →
    AllKeep rules a.id actors (gone_on actors a.id activity answer)
gone_on_keeps rules actors a after activity (Going waits) only id =
    subst (λ i. AllKeep rules i actors (changed_at actors i (with_first (activity waits)))) id
    (first_keeps rules actors after (activity waits) only)
gone_on_keeps rules actors a after activity GivenUp only id =
    subst (λ i. AllKeep rules i actors (changed_at actors i popped)) id
    (popped_keeps rules actors after only)

pub towards_keeps :
    (setup : Setup) (built : Grid Bool) (clients next_id : ℕ) (actors : List Actor) (a : Actor)
    (goal : CPos) (waits : ℕ) (activity : ℕ → Activity) →
    CanStep setup clients next_id actors a → waits < MAX_WAITS →
    moves (kind_of setup.rules a.kind) ≡ true →
    AllKeep setup.rules a.id actors (gone_towards setup built actors a goal waits activity)
towards_keeps setup built clients next_id actors a goal waits activity can few able =
    let moved : Moved = moved_towards setup built actors a goal waits in
    let moves =
    towards_moves setup built clients next_id actors a goal waits can.map few can.steps able in
    list_then setup.rules a.id actors moved.actors (gone_on moved.actors a.id activity moved.answer)
    (moved_keeps setup built actors a goal waits can.steps.only able)
    (gone_on_keeps setup.rules moved.actors a moves.after activity moved.answer moves.steps.only
    moves.id)

move_by_keeps :
    (there : Bool) (setup : Setup) (built : Grid Bool) (clients next_id : ℕ) (actors : List Actor)
    (a : Actor) (goal : CPos) (waits : ℕ) →
    CanStep setup clients next_id actors a →
    IsActivityOf setup.map (kind_of setup.rules a.kind) (Move goal waits) →
    AllKeep setup.rules a.id actors (
    if there then changed_at actors a.id popped
    else gone_towards setup built actors a goal waits (Move goal))
move_by_keeps true setup built clients next_id actors a goal waits can fits =
    popped_keeps setup.rules actors a can.steps.only
move_by_keeps false setup built clients next_id actors a goal waits can fits =
    towards_keeps setup built clients next_id actors a goal waits (Move goal) can fits.1.patience
    fits.0

pub move_keeps :
    (setup : Setup) (built : Grid Bool) (clients next_id : ℕ) (actors : List Actor) (a : Actor)
    (goal : CPos) (waits : ℕ) →
    CanStep setup clients next_id actors a →
    IsActivityOf setup.map (kind_of setup.rules a.kind) (Move goal waits) →
    AllKeep setup.rules a.id actors (after_move setup built actors a goal waits)
unfolding after_move
move_keeps setup built clients next_id actors a goal waits can fits =
    move_by_keeps (same_cell a.cell goal) setup built clients next_id actors a goal waits can fits
