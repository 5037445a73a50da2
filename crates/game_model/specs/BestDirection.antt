-- The distance and the best direction of a cell as functions, from walks of bounded length. That
-- they are those over all walks is proved where routes are searched.
use Rattle.std.specs.Prelude.{ℕ, zero, suc, ◌+◌, ◌*◌, ◌==◌, min, Bool, false, if◌then◌else◌}
use Rattle.std.specs.Prelude.{List, [], ◌∷◌, map, Option, Some, None}
use Rattle.std.specs.List.{find, fold}
use Rattle.std.specs.Option.{option_map}
use Rattle.world_units.specs.declared.cell.CPos.{CPos}
use Rattle.world_units.specs.Cells.{same_cell}
use Rattle.world_units.specs.Directions.{step_of}
use Rattle.game_model.specs.declared.map.Map.{Map}
use Rattle.game_model.specs.Walks.{Land, step_cost_of}

-- The eight directions.
abbrev pub directions : List ℕ
directions = 0 ∷ 1 ∷ 2 ∷ 3 ∷ 4 ∷ 5 ∷ 6 ∷ 7 ∷ []

-- The lesser of two costs. Where there is none, it is the other.
abbrev pub lesser : Option ℕ → Option ℕ → Option ℕ
lesser None other = other
lesser (Some cost) None = Some cost
lesser (Some cost) (Some other) = Some (min cost other)

-- The least of some costs.
abbrev pub least_of : List (Option ℕ) → Option ℕ
least_of costs = fold lesser None costs

-- The cost of a step together with that of the rest of the way. A step cost of 0 allows no step.
abbrev pub by_step_cost : (step_cost : ℕ) → (rest : Option ℕ) → Option ℕ
by_step_cost zero rest = None
by_step_cost (suc less) rest = option_map (λ left. suc less + left) rest

-- The same of the step from p into the neighbour in direction d, where there is one.
abbrev pub by_step : Land → (CPos → Option ℕ) → CPos → ℕ → Option CPos → Option ℕ
by_step land rest p d (Some q) = by_step_cost (step_cost_of land.entry_cost p d q) (rest q)
by_step land rest p d None = None

-- The least cost of a way from p that begins with direction d, where the cost of the rest is known
-- of each cell.
abbrev pub by_direction : Land → (CPos → Option ℕ) → CPos → ℕ → Option ℕ
by_direction land rest p d = by_step land rest p d (step_of p d)

-- The least cost of all walks from p of at most so many steps.
abbrev pub least_within : Land → (steps : ℕ) → CPos → Option ℕ
least_within land zero p = if same_cell p land.goal then Some 0 else None
least_within land (suc more) p =
    if same_cell p land.goal then Some 0
    else least_of (map (by_direction land (least_within land more) p) directions)

-- More steps than a walk of least cost has: it costs at least 1 a step, and less than this.
abbrev pub enough_steps : Map → ℕ
enough_steps map = 71 * (map.width * map.height + 1)

-- The least cost of all walks from p over a map.
unfoldable pub distance_of : Map → Land → CPos → Option ℕ
distance_of map land p = least_within land (enough_steps map) p

-- The first is a cost, and the same as the second.
abbrev pub is_cost : Option ℕ → Option ℕ → Bool
is_cost None other = false
is_cost (Some cost) None = false
is_cost (Some cost) (Some other) = cost == other

-- The step in direction d begins a walk of least cost.
abbrev pub leads_on : Map → Land → CPos → ℕ → Bool
leads_on map land p d = is_cost (by_direction land (distance_of map land) p d) (distance_of map land p)

-- The best direction of a cell: the least that begins a walk of least cost. There is none exactly
-- where no walk exists or the cell is the goal.
unfoldable pub best_dir_of : Map → Land → CPos → Option ℕ
best_dir_of map land p =
    if same_cell p land.goal then None else find (leads_on map land p) directions
