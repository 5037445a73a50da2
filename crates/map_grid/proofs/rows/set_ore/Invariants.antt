use Rattle.std.proofs.Common.{◌≡◌, drop}
use Rattle.map_grid.specs.Rows.{cells_set, ore_of}
use Rattle.map_grid.specs.declared.fault.MapFault.TheVariants.{BadRow}
use Rattle.map_grid.proofs.rows.set_ore.Given as goal

abbrev pub invariant-loop-x : goal.invariant-loop-x
invariant-loop-x l =
    (l.ore.width ≡ l.initial.ore.width) × (l.ore.height ≡ l.initial.ore.height)
    × (cells_set ore_of (BadRow l.fn.place) l.x l.fn.y (drop l.x l.row) l.ore
    ≡ cells_set ore_of (BadRow l.fn.place) 0 l.fn.y l.row l.initial.ore)
