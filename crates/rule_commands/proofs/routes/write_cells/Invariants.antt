-- What is written, with the cells that are left, is all.
use Rattle.std.proofs.Common.{◌≡◌, ◌++◌, drop, string_bytes}
use Rattle.rule_commands.specs.Routes.{cells_text}
use Rattle.rule_commands.proofs.routes.write_cells.Given as goal

abbrev pub invariant-loop-cell : goal.invariant-loop-cell
invariant-loop-cell l =
    string_bytes l.text ++ cells_text (drop l.cell-index l.cells) ≡ string_bytes l.fn.text ++ cells_text l.fn.cells
