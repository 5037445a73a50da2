-- What is added so far and what is left are together the whole.
use Rattle.std.proofs.Common.{◌≡◌, ◌++◌, ◌-◌, string_bytes}
use Rattle.worlds_command.specs.SetupLines.{letters_from}
use Rattle.worlds_command.proofs.setup_lines.add_letters.Given as goal

abbrev pub invariant-loop-column : goal.invariant-loop-column
invariant-loop-column l =
    string_bytes l.text ++ letters_from l.tiles l.row l.column (l.tiles.width - l.column)
    ≡ string_bytes l.initial.text ++ letters_from l.tiles l.row 0 l.tiles.width
