-- The step of the first build of an actor.
use Rattle.std.specs.Prelude.{ℕ, ◌+◌, ◌-◌, ◌==◌, nat_lt, not, ◌&&◌, if◌then◌else◌, Bool, false}
use Rattle.std.specs.Prelude.{List, [], ◌∷◌, ◌++◌, length, Option, Some, None}
use Rattle.std.specs.List.{find}
use Rattle.world_units.specs.declared.cell.CPos.{CPos}
use Rattle.world_units.specs.Angles.{dir_angle_of}
use Rattle.rule_traits.specs.declared.kind.Kind.{Kind}
use Rattle.game_model.specs.declared.actor.Actor.{Actor}
use Rattle.game_model.specs.declared.builds.Build.{Build}
use Rattle.game_model.specs.declared.limits.TheConstants.{MAX_ACTORS}
use Rattle.game_model.specs.ActorChanges.{changed_at}
use Rattle.game_model.specs.BestDirection.{directions}
use Rattle.game_model.specs.Buildings.{neighbour_of}
use Rattle.game_model.specs.Grid.{at_cell}
use Rattle.game_model.specs.Setup.{Setup}
use Rattle.game_model.specs.Walks.{cost_at}
use Rattle.game_model.specs.World.{is_occupied, new_actor}
use Rattle.game_model.specs.Kinds.{kind_of, costs_in}
use Rattle.game_tick.specs.declared.limits.TheConstants.{LAST_ID}

-- The actors and the next id after the step.
pub record Built : Type 0 where
  pub actors : List Actor
  pub next_id : ℕ

-- The actor with these builds.
abbrev pub with_builds : List Build → Actor → Actor
with_builds builds a = record a { body = record a.body { builds = builds } }

-- The kind can enter the ground of the cell, and nobody holds it.
abbrev pub is_open : Setup → List Actor → Kind → Option CPos → Bool
is_open setup actors product None = false
is_open setup actors product (Some p) =
    nat_lt 0 (cost_at (costs_in product.mobile) (at_cell setup.map.terrain p)) && not
    (is_occupied actors p)

-- The least direction in which a unit of the kind finds such a neighbour of a cell.
abbrev pub exit_of : Setup → List Actor → Kind → CPos → Option ℕ
exit_of setup actors product p =
    find (λ d. is_open setup actors product (neighbour_of setup.map.width setup.map.height p d))
    directions

-- The actors after a unit came out into a cell in direction d, and the build is done.
abbrev pub came_out :
    Setup → List Actor → (next_id : ℕ) → Actor → Build → List Build → (d : ℕ) → Option CPos → Built
came_out setup actors next_id a build rest d None = record { actors = actors; next_id = next_id }
came_out setup actors next_id a build rest d (Some p) =
    record {
      actors =
          changed_at actors a.id (with_builds rest)
          ++ new_actor setup.rules next_id build.kind a.body.owner p (dir_angle_of d) ∷ [];
      next_id = next_id + 1;
    }

-- The unit comes out where there is an exit; else the build waits, done.
abbrev pub finished :
    Setup → List Actor → (next_id : ℕ) → Actor → Build → List Build → Option ℕ → Built
finished setup actors next_id a build rest None =
    record {
      actors = changed_at actors a.id (with_builds (record build { left = 0 } ∷ rest));
      next_id = next_id;
    }
finished setup actors next_id a build rest (Some d) =
    came_out setup actors next_id a build rest d
    (neighbour_of setup.map.width setup.map.height a.cell d)

-- There is room for one more actor, and an id.
abbrev pub has_room : List Actor → (next_id : ℕ) → Bool
has_room actors next_id = nat_lt (length actors) MAX_ACTORS && nat_lt next_id LAST_ID

-- One turn less is left. At 0 the unit comes out, where there is room for it.
abbrev pub built_first : Setup → List Actor → (next_id : ℕ) → Actor → List Build → Built
built_first setup actors next_id a [] = record { actors = actors; next_id = next_id }
built_first setup actors next_id a (build ∷ rest) =
    if (build.left - 1 == 0) && has_room actors next_id
    then finished setup actors next_id a build rest
    (exit_of setup actors (kind_of setup.rules build.kind) a.cell)
    else record {
      actors = changed_at actors a.id (with_builds (record build { left = build.left - 1 } ∷ rest));
      next_id = next_id;
    }

-- The step of the first build of an actor, if it has one.
unfoldable pub after_build : Setup → List Actor → (next_id : ℕ) → Actor → Built
after_build setup actors next_id a = built_first setup actors next_id a a.body.builds
