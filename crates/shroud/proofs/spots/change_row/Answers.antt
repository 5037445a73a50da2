use Rattle.std.proofs.Common.{◌≡◌, ℕ, ◌+◌, ◌<◌, length, set, ap, subst, ◌∙◌, arith}
use Rattle.shroud.specs.Discs.{covers}
use Rattle.shroud.specs.Spots.{AreChanged, changed, in_row, spot_at}
use Rattle.shroud.proofs.RowLemmas.{columns_begin, columns_more, columns_end}
use Rattle.shroud.proofs.spots.change_row.Goals as goal

pub loop-x-init : goal.loop-x-init
loop-x-init c =
    columns_begin c.args.by c.args.start c.args.y c.args.width c.args.disc.now
    c.columns-columns.result c.args.cells.now c.requires.disc c.columns-columns.ensures

pub loop-x-preserved : goal.loop-x-preserved
loop-x-preserved c =
    let cells = c.loop-x.cells in
    let start : ℕ = c.args.start in
    let x : ℕ = c.loop-x.x in
    let within : start + x < length cells =
    omega (arith, c.loop-x.auto.cells, c.requires.room, c.loop-x-test.true, c.columns-columns.ensures.within) in
    let new_is :
    c.change_spot.new.cells
    ≡ set cells (start + x) (changed (covers c.args.disc.now x c.args.y) c.args.by (spot_at cells (start + x))) =
    c.change_spot.ensures
    ∙ ap (λ (n : ℕ). set cells (start + n) (changed c.covers.result c.args.by (spot_at cells (start + n)))) c.from.ensures
    ∙ ap (λ b. set cells (start + x) (changed b c.args.by (spot_at cells (start + x)))) c.covers.ensures in
    columns_more c.args.by start x c.args.y c.args.disc.now c.args.cells.now cells
    c.change_spot.new.cells c.loop-x.invariant within new_is

pub returns : goal.returns
returns c =
    let span = c.columns-columns.result in
    let ends : c.loop-x.x ≡ span.end =
    omega (arith, c.loop-x.auto.x, c.loop-x-test.false, c.columns-columns.ensures.rises) in
    columns_end c.args.by c.args.start c.args.y c.args.width c.args.disc.now span c.args.cells.now
    c.loop-x.cells c.requires.disc c.columns-columns.ensures
    (subst (λ (n : ℕ). AreChanged c.args.by (in_row c.args.start n c.args.y c.args.disc.now) c.args.cells.now c.loop-x.cells) ends c.loop-x.invariant)
