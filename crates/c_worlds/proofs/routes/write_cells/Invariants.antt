-- The first cells are written.
use Rattle.std.proofs.Common.{◌≡◌, ◌++◌, map, take, drop}
use Rattle.c_worlds.specs.Routes.{c_cell_of}
use Rattle.c_worlds.proofs.routes.write_cells.Given as goal

abbrev pub invariant-loop-i : goal.invariant-loop-i
invariant-loop-i l = l.out ≡ take l.i (map c_cell_of l.cells) ++ drop l.i l.fn.out
