-- What a map keeps for the rules that it is read with, and what a match stands on.
use Rattle.std.specs.Prelude.{◌≡◌, ◌≢◌, ◌<◌, ◌≤◌, ◌⊎◌, ℕ, List, length}
use Rattle.std.specs.List.{All, AllPairs}
use Rattle.world_units.specs.declared.angle.TheConstants.{FULL_TURN}
use Rattle.game_orders.specs.declared.limits.TheConstants.{MAX_CLIENTS}
use Rattle.rule_traits.specs.declared.kind.Kind.{Kind}
use Rattle.rule_traits.specs.ValidRules.{AreValidRules}
use Rattle.game_model.specs.declared.limits.TheConstants.{MAX_ACTORS, MAX_CASH, MAX_ORE, MAX_SIDE}
use Rattle.game_model.specs.declared.limits.TheConstants.{NEUTRAL}
use Rattle.game_model.specs.declared.map.Map.{Map}
use Rattle.game_model.specs.declared.map.Start.{Start}
use Rattle.game_model.specs.Grid.{Grid, HasSize, IsOn, IsWhole}
use Rattle.game_model.specs.Setup.{Setup}

-- The owner is one of so many clients, or nobody.
abbrev pub IsOwner : (clients owner : ℕ) → Type 0
IsOwner clients owner = (owner < clients) ⊎ (owner ≡ NEUTRAL)

-- The ore of a grid of this size: it has every cell, and no cell has more than `MAX_ORE`.
pub record IsOreOf (width height : ℕ) (ore : Grid ℕ) : Type 0 where
  pub size : HasSize width height ore
  pub whole : IsWhole ore
  pub most : All (λ bales. bales ≤ MAX_ORE) ore.cells

-- The start is of a kind of the rules, and stands on the map.
pub record IsStartFor (rules : List Kind) (map : Map) (s : Start) : Type 0 where
  pub kind : s.kind < length rules
  pub owner : IsOwner MAX_CLIENTS s.owner
  pub cell : IsOn map.width map.height s.cell
  pub facing : s.facing < FULL_TURN

-- What a map keeps for these rules: its size is within the limits, terrain and ore are of that
-- size, and its starts stand on distinct cells.
pub record IsMapFor (rules : List Kind) (map : Map) : Type 0 where
  pub least_width : 1 ≤ map.width
  pub most_width : map.width ≤ MAX_SIDE
  pub least_height : 1 ≤ map.height
  pub most_height : map.height ≤ MAX_SIDE
  pub terrain : HasSize map.width map.height map.terrain
  pub whole_terrain : IsWhole map.terrain
  pub ore : IsOreOf map.width map.height map.ore
  pub count : length map.starts ≤ MAX_ACTORS
  pub starts : All (IsStartFor rules map) map.starts
  pub apart : AllPairs (λ (a b : Start). a.cell ≢ b.cell) map.starts
  pub cash : map.cash ≤ MAX_CASH

-- What a match stands on: valid rules, and a map that keeps what it keeps for them.
pub record IsSetup (setup : Setup) : Type 0 where
  pub rules : AreValidRules setup.rules
  pub map : IsMapFor setup.rules setup.map
