use Rattle.std.proofs.Common.{◌≡◌, ◌++◌}
use Rattle.std.specs.Prelude.{string_bytes}
use Rattle.shroud.specs.Grids.{flag_of}
use Rattle.view_command.specs.ViewText.{rows_to}
use Rattle.view_command.proofs.text.add_rows.Given as goal

abbrev pub invariant-loop-y : goal.invariant-loop-y
invariant-loop-y l =
    string_bytes l.text
    ≡ string_bytes l.fn.text
    ++ rows_to (flag_of l.shroud.seen l.client) (flag_of l.shroud.explored l.client) l.width l.y
