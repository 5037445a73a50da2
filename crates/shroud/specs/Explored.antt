-- What was seen in the course of a match.
use Rattle.std.specs.Prelude.{ℕ, Bool, List}
use Rattle.std.specs.List.{list_any}
use Rattle.world_units.specs.declared.cell.CPos.{CPos}
use Rattle.rule_traits.specs.declared.kind.Kind.{Kind}
use Rattle.game_model.specs.declared.world.World.{World}
use Rattle.shroud.specs.Sights.{sees_in}

-- Client c has explored the cell in the course of these worlds: it saw it in one of them.
abbrev pub is_explored : List Kind → List World → (c : ℕ) → CPos → Bool
is_explored rules worlds c p = list_any (sees_in rules c p) worlds
