use Rattle.std.proofs.Common.{◌≡◌, ◌++◌}
use Rattle.std.specs.Prelude.{string_bytes}
use Rattle.shroud.specs.Grids.{flag_of}
use Rattle.view_command.specs.ViewText.{letters_to}
use Rattle.view_command.proofs.text.add_row.Given as goal

abbrev pub invariant-loop-x : goal.invariant-loop-x
invariant-loop-x l =
    string_bytes l.text
    ≡ string_bytes l.fn.text
    ++ letters_to (flag_of l.shroud.seen l.client) (flag_of l.shroud.explored l.client) l.y l.x
