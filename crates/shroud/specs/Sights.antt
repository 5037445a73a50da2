-- What the actors of a world see.
use Rattle.std.specs.Prelude.{ℕ, ◌==◌, nat_le, ◌&&◌, Bool, false, List, Option, Some, None}
use Rattle.std.specs.List.{list_any}
use Rattle.world_units.specs.declared.cell.CPos.{CPos}
use Rattle.world_units.specs.Cells.{dist_sq_of, square}
use Rattle.rule_traits.specs.declared.kind.Kind.{Kind}
use Rattle.rule_traits.specs.declared.trait_fields.Reveals.{Reveals}
use Rattle.rule_traits.specs.Rules.{kind_at}
use Rattle.game_model.specs.declared.actor.Actor.{Actor}
use Rattle.game_model.specs.declared.world.World.{World}
use Rattle.game_model.specs.World.{is_alive}

-- What a kind says of its sight: nothing without RevealsShroud, nor of a number that is no kind's.
abbrev pub reveals_in : Option Kind → Option Reveals
reveals_in (Some kind) = kind.reveals
reveals_in None = None

-- A cell is within range of another: the squared distance of the cells is at most the range
-- squared.
abbrev pub reaches : Option Reveals → (from to : CPos) → Bool
reaches (Some reveals) from to = nat_le (dist_sq_of from to) (square reveals.range)
reaches None from to = false

-- A living actor of client c, whose kind has RevealsShroud, has the cell within its range.
abbrev pub sees : List Kind → (c : ℕ) → CPos → Actor → Bool
sees rules c p a =
    is_alive a && (a.body.owner == c) && reaches (reveals_in (kind_at rules a.kind)) a.cell p

-- Client c sees the cell: one of the actors does for it. An actor of no client is no client's.
abbrev pub is_seen : List Kind → List Actor → (c : ℕ) → CPos → Bool
is_seen rules actors c p = list_any (sees rules c p) actors

-- The same of a world.
abbrev pub sees_in : List Kind → (c : ℕ) → CPos → World → Bool
sees_in rules c p w = is_seen rules w.actors c p
