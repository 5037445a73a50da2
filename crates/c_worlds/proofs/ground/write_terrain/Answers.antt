use Rattle.std.proofs.Common.{arith, ◌≡◌, ◌<◌, ◌≤◌, ◌++◌, ◌+◌, length, map, drop, ap, ◌∙◌}
use Rattle.game_model.specs.Terrain.{number_of}
use Rattle.c_worlds.proofs.WriteLemmas.{all_written, counted, one_more}
use Rattle.c_worlds.proofs.ground.write_terrain.Goals as goal

pub loop-i-preserved : goal.loop-i-preserved
loop-i-preserved c =
    let cells = c.args.tiles.now.cells in
    let lt : c.loop-i.i < c.cell_count-i-end.result = c.loop-i-test.true in
    let all : c.cell_count-i-end.result ≡ length cells = c.cell_count-i-end.ensures.count in
    let room : length cells ≤ length c.args.out.now = c.requires in
    one_more (map number_of cells) c.args.out.now c.loop-i.out c.loop-i.i (c.loop-i.i + 1) c.number_at.result (omega arith)
    c.number_at.ensures (omega (arith, lt, all, room)) c.loop-i.invariant

pub returns : goal.returns
returns c =
    let cells = c.args.tiles.now.cells in
    let most : c.loop-i.i ≤ c.cell_count-i-end.result = c.loop-i.auto.i-end in
    let past : c.cell_count-i-end.result ≤ c.loop-i.i = c.loop-i-test.false in
    let all : c.cell_count-i-end.result ≡ length cells = c.cell_count-i-end.ensures.count in
    let count : length (map number_of cells) ≡ length cells = counted number_of cells in
    let end : c.loop-i.i ≡ length (map number_of cells) = omega arith in
    all_written (map number_of cells) c.args.out.now c.loop-i.out c.loop-i.i end c.loop-i.invariant
    ∙ ap (λ n. map number_of cells ++ drop n c.args.out.now) count
