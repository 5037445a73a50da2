-- The eight directions, clockwise: 0 north, 1 north-east, 2 east, 3 south-east, 4 south,
-- 5 south-west, 6 west, 7 north-west.
use Rattle.std.specs.Prelude.{ℕ, ◌+◌, ◌-◌, ◌%◌, ◌&&◌, ◌||◌, nat_lt, ◌==◌, if◌then◌else◌, Option}
use Rattle.std.specs.Prelude.{Some, None}
use Rattle.world_units.specs.declared.cell.CPos.{CPos}

-- Even directions lead to a neighbour that shares a side, odd ones to one that shares a corner.
abbrev pub leg_length_of : ℕ → ℕ
leg_length_of d = if d % 2 == 0 then 1024 else 1448

-- The direction the other way.
abbrev pub opposite_of : ℕ → ℕ
opposite_of d = (d + 4) % 8

-- How much a step goes east, west, north and south: 1 or 0.
abbrev pub east_of : ℕ → ℕ
east_of d = if nat_lt 0 d && nat_lt d 4 then 1 else 0

abbrev pub west_of : ℕ → ℕ
west_of d = if nat_lt 4 d then 1 else 0

abbrev pub north_of : ℕ → ℕ
north_of d = if nat_lt d 2 || nat_lt 6 d then 1 else 0

abbrev pub south_of : ℕ → ℕ
south_of d = if nat_lt 2 d && nat_lt d 6 then 1 else 0

-- A coordinate after a shift up and a shift down, where it stays within 0 to 255.
abbrev pub shifted : ℕ → ℕ → ℕ → Option ℕ
shifted n up down =
    if nat_lt (n + up) down || nat_lt (255 + down) (n + up) then None else Some (n + up - down)

abbrev pub cell_at : Option ℕ → Option ℕ → Option CPos
cell_at (Some x) (Some y) = Some (record { x = x; y = y })
cell_at (Some x) None = None
cell_at None y = None

-- The neighbour of a cell in a direction: north is y - 1, east is x + 1.
abbrev pub step_of : CPos → ℕ → Option CPos
step_of p d = cell_at (shifted p.x (east_of d) (west_of d)) (shifted p.y (south_of d) (north_of d))
