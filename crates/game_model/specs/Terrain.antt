-- What it costs to enter a cell.
use Rattle.std.specs.Prelude.{ℕ, zero, suc}
use Rattle.rule_traits.specs.declared.trait_fields.Costs.{Costs}
use Rattle.game_model.specs.declared.terrain.Terrain.{Terrain}
use Rattle.game_model.specs.declared.terrain.Terrain.TheVariants.{Clear, Road, Rough, Water, Rock}

-- What it costs to enter a cell of this terrain. Nothing enters where that is 0.
abbrev pub cost_on : Costs → Terrain → ℕ
cost_on costs Clear = costs.clear
cost_on costs Road = costs.road
cost_on costs Rough = costs.rough
cost_on costs Water = costs.water
cost_on costs Rock = 0

-- The number by which a terrain is stored.
abbrev pub number_of : Terrain → ℕ
number_of Clear = 0
number_of Road = 1
number_of Rough = 2
number_of Water = 3
number_of Rock = 4

-- The terrain of a number, which is Rock where it is no terrain's.
abbrev pub terrain_of : ℕ → Terrain
terrain_of zero = Clear
terrain_of (suc zero) = Road
terrain_of (suc (suc zero)) = Rough
terrain_of (suc (suc (suc zero))) = Water
terrain_of (suc (suc (suc (suc n)))) = Rock
