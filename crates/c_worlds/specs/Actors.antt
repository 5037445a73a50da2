-- Actors, as C reads them.
use Rattle.std.specs.Prelude.{ℕ, List, [], ◌∷◌, Option, None, Some, Result, Ok, length, map}
use Rattle.activities.specs.declared.activity.Activity.{Activity}
use Rattle.activities.specs.declared.activity.Activity.TheVariants.{Move, Attack, Harvest, Deliver}
use Rattle.game_model.specs.declared.actor.Actor.{Actor}
use Rattle.game_model.specs.declared.actor.Leg.{Leg}
use Rattle.tick_core.specs.Game.{GameState}
use Rattle.c_worlds.specs.declared.actors.CActor.{CActor}
use Rattle.c_worlds.specs.declared.actors.TheConstants.{NO_DIRECTION}

-- The direction of a leg.
abbrev pub dir_of : Option Leg → ℕ
dir_of None = NO_DIRECTION
dir_of (Some leg) = leg.dir

abbrev pub progress_of : Option Leg → ℕ
progress_of None = 0
progress_of (Some leg) = leg.progress

abbrev pub number_of : Activity → ℕ
number_of (Move goal waits) = 1
number_of (Attack target waits) = 2
number_of (Harvest cell timer waits) = 3
number_of (Deliver home timer waits) = 4

-- 0: nothing.
abbrev pub doing_of : List Activity → ℕ
doing_of [] = 0
doing_of (act ∷ acts) = number_of act

abbrev pub c_actor_of : Actor → CActor
c_actor_of a =
    record {
      id = a.id;
      kind = a.kind;
      owner = a.body.owner;
      x = a.cell.x;
      y = a.cell.y;
      facing = a.body.facing;
      dir = dir_of a.body.leg;
      progress = progress_of a.body.leg;
      health = a.body.health;
      load = a.body.load;
      reload = a.body.reload;
      acts = length a.body.acts;
      doing = doing_of a.body.acts;
      builds = length a.body.builds;
    }

-- All actors by rising id.
abbrev pub actors_told : GameState → Result (List CActor) ℕ
actors_told game = Ok (map c_actor_of game.world.actors)
