use Rattle.std.proofs.Common.{arith, ◌<◌, ◌≤◌, ◌+◌, length, map}
use Rattle.c_worlds.specs.Routes.{c_cell_of}
use Rattle.c_worlds.proofs.WriteLemmas.{one_more}
use Rattle.c_worlds.proofs.routes.write_cells.Goals as goal

pub loop-i-preserved : goal.loop-i-preserved
loop-i-preserved c =
    let cells = c.args.cells.now in
    let lt : c.loop-i.i < length cells = c.loop-i-test.true in
    let room : length cells ≤ length c.args.out.now = c.requires in
    one_more (map c_cell_of cells) c.args.out.now c.loop-i.out c.loop-i.i (c.loop-i.i + 1) c.c_cell_at.result (omega arith)
    c.c_cell_at.ensures (omega (arith, lt, room)) c.loop-i.invariant
