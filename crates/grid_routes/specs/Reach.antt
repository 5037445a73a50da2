-- How far a search goes: on towards one cell alone, or everywhere.
use Rattle.std.specs.Prelude.{ℕ, ◌+◌, ◌-◌, ◌*◌, ◌≤◌, max, Option, Some, None, ⊤}
use Rattle.world_units.specs.declared.cell.CPos.{CPos}
use Rattle.grid_routes.specs.declared.reach.Reach.{Reach}

-- How far two numbers are apart.
abbrev pub apart : ℕ → ℕ → ℕ
apart a b = (a - b) + (b - a)

-- What steps across so many columns and rows cost at least: 7 for each across a corner, and 5 for each that is left.
abbrev pub least_cost_across : (columns rows : ℕ) → ℕ
least_cost_across columns rows = 2 * (columns + rows) + 3 * max columns rows

-- No walk from one cell to another costs less than this.
abbrev pub least_cost_between : CPos → CPos → ℕ
least_cost_between p q = least_cost_across (apart p.x q.x) (apart p.y q.y)

-- A search goes on from a cell with this label: it does so everywhere, or where a walk over the cell
-- from the one that the search is for may cost no more than so much.
abbrev pub IsReached : Option Reach → CPos → ℕ → Type 0
IsReached None p label = ⊤
IsReached (Some reach) p label = label + least_cost_between p reach.toward ≤ reach.most
