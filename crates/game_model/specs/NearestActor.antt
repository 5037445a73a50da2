-- The nearest of some actors to a cell.
use Rattle.std.specs.Prelude.{◌≡◌, ◌<◌, ◌≤◌, ◌⊎◌, ◌==◌, nat_lt, ◌&&◌, ◌||◌, Bool, Option}
use Rattle.std.specs.Prelude.{Some, None}
use Rattle.world_units.specs.declared.cell.CPos.{CPos}
use Rattle.world_units.specs.Cells.{dist_sq_of}
use Rattle.game_model.specs.declared.actor.Actor.{Actor}

-- An actor is nearer to a cell than another: its own cell is, or both are equally far and its id is
-- less.
abbrev pub is_nearer : CPos → Actor → Actor → Bool
is_nearer from x y =
    nat_lt (dist_sq_of from x.cell) (dist_sq_of from y.cell)
    || ((dist_sq_of from x.cell == dist_sq_of from y.cell) && nat_lt x.id y.id)

-- No farther from a cell, and of two that are equally far not the one of the greater id.
abbrev pub IsAsNear : CPos → Actor → Actor → Type 0
IsAsNear from x y =
    (dist_sq_of from x.cell < dist_sq_of from y.cell)
    ⊎ ((dist_sq_of from x.cell ≡ dist_sq_of from y.cell) × (x.id ≤ y.id))

-- The actor is one of these, and as near as any of them. There is none exactly where these are no
-- actors.
abbrev pub IsNearest : CPos → (Actor → Type 0) → Option Actor → Type 0
IsNearest from among (Some x) = among x × ((y : Actor) → among y → IsAsNear from x y)
IsNearest from among None = (y : Actor) → among y → ⊥
