use Rattle.std.proofs.Common.{arith, rules}
use Rattle.worlds_command.proofs.LineLemmas.{letter_added}
use Rattle.worlds_command.proofs.setup_lines.add_letters.Goals as goal

pub loop-column-preserved : goal.loop-column-preserved
loop-column-preserved c =
    letter_added c.args.tiles.now c.args.row c.loop-column.column c.args.tiles.now.width _ _ _
    (omega (arith, c.loop-column-test.true, c.width-column-end.ensures)) c.loop-column.invariant
    (search rules)
