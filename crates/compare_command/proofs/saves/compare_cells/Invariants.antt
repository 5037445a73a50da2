-- The cells so far were compared.
use Rattle.std.proofs.Common.{◌≡◌, length}
use Rattle.compare_command.specs.Each.{each}
use Rattle.compare_command.specs.Found.{with_found}
use Rattle.compare_command.specs.Saves.{cell_of}
use Rattle.compare_command.proofs.EachLemmas.{rest_of}
use Rattle.compare_command.proofs.saves.compare_cells.Given as goal

abbrev pub invariant-loop-place : goal.invariant-loop-place
invariant-loop-place l =
    with_found l.found (rest_of (cell_of l.width l.cells l.others) (length l.cells) l.place)
    ≡ with_found l.initial.found (each (cell_of l.width l.cells l.others) 0 (length l.cells))
