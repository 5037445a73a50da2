-- A shroud as contracts see it, and what an update makes of it.
use Rattle.std.specs.Prelude.{ℕ, ◌||◌, Bool, false, List}
use Rattle.world_units.specs.declared.cell.CPos.{CPos}
use Rattle.rule_traits.specs.declared.kind.Kind.{Kind}
use Rattle.game_model.specs.declared.actor.Actor.{Actor}
use Rattle.game_model.specs.Grid.{Grid}
use Rattle.shroud.specs.Grids.{grids_of, flag_of}
use Rattle.shroud.specs.Sights.{is_seen}

-- The rules by which actors see, the size of the map, the clients, what each of them sees and has
-- explored, and how many actors were counted.
pub record ShroudState : Type 0 where
  pub rules : List Kind
  pub width : ℕ
  pub height : ℕ
  pub clients : ℕ
  pub seen : List (Grid Bool)
  pub explored : List (Grid Bool)
  pub touched : ℕ

-- No cell.
abbrev pub nowhere : (c : ℕ) → CPos → Bool
nowhere c p = false

-- Nothing is seen and nothing explored, and no actor was counted.
abbrev pub shrouded : List Kind → (width height clients : ℕ) → ShroudState
shrouded rules width height clients =
    record {
      rules = rules;
      width = width;
      height = height;
      clients = clients;
      seen = grids_of width height clients nowhere;
      explored = grids_of width height clients nowhere;
      touched = 0;
    }

-- The cells that a client has explored, or sees by these actors.
abbrev pub explored_by : ShroudState → List Actor → (c : ℕ) → CPos → Bool
explored_by s actors c p = flag_of s.explored c p || is_seen s.rules actors c p

-- Each client sees what these actors see, and has explored this and what it had explored before.
-- How many actors were counted in all is said apart.
abbrev pub updated : ShroudState → List Actor → (touched : ℕ) → ShroudState
updated s actors touched =
    record s {
      seen = grids_of s.width s.height s.clients (is_seen s.rules actors);
      explored = grids_of s.width s.height s.clients (explored_by s actors);
      touched = touched;
    }
