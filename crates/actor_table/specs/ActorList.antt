-- Lists of actors: who holds a cell, and what changes of one actor make of the list.
use Rattle.std.specs.Prelude.{◌≡◌, ℕ, suc, ◌==◌, not, false, List, [], ◌∷◌, ◌++◌}
use Rattle.std.specs.Prelude.{filter, take, drop, Option}
use Rattle.std.specs.Option.{option_map}
use Rattle.std.specs.List.{find}
use Rattle.world_units.specs.declared.cell.CPos.{CPos}
use Rattle.world_units.specs.Cells.{same_cell}
use Rattle.game_model.specs.declared.actor.Actor.{Actor}
use Rattle.game_model.specs.World.{is_alive, is_occupied}

-- The id of the actor that holds a cell.
abbrev pub holder_of : List Actor → CPos → Option ℕ
holder_of actors p =
    option_map (λ (a : Actor). a.id) (find (λ (a : Actor). same_cell a.cell p) actors)

-- The list without the actor of an id.
abbrev pub without_id : List Actor → ℕ → List Actor
without_id actors id = filter (λ (a : Actor). not (a.id == id)) actors

-- The list without the i-th actor if that has no health.
abbrev pub without_dead_at : List Actor → ℕ → List Actor
without_dead_at actors i =
    take i actors ++ (filter is_alive (take 1 (drop i actors)) ++ drop (suc i) actors)

-- No two actors hold one cell.
abbrev pub CellsDiffer : List Actor → Type 0
CellsDiffer [] = Unit {0}
CellsDiffer (a ∷ actors) = (is_occupied actors a.cell ≡ false) × CellsDiffer actors
