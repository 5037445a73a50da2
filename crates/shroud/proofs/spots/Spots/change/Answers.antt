use Rattle.std.proofs.Common.{◌≡◌, ℕ, ◌*◌, ◌<◌, refl, ap, subst, ◌∙◌, arith}
use Rattle.shroud.specs.Spots.{AreChanged, SpotState, in_row, in_rows, row_of}
use Rattle.shroud.proofs.RowLemmas.{rows_begin, rows_more, rows_end}
use Rattle.shroud.proofs.spots.Spots.change.Goals as goal

pub loop-y-init : goal.loop-y-init
loop-y-init c =
    let s = c.args.self.now in (
      rows_begin c.args.by s.width s.height c.args.client c.args.disc.now c.rows-rows.result s.cells
          c.requires.disc c.rows-rows.ensures.span,
      refl,
    )

pub loop-y-preserved : goal.loop-y-preserved
loop-y-preserved c =
    let s : SpotState = c.args.self.now in
    let mid : SpotState = c.loop-y.self in
    let new : SpotState = c.change_row_of.new.self in
    let client : ℕ = c.args.client in
    let y : ℕ = c.loop-y.y in
    let by : ℕ = c.args.by in
    let disc = c.args.disc.now in
    let kept = c.loop-y.invariant.1 in
    let width : mid.width ≡ s.width = ap {B = ℕ} (λ (m : SpotState). m.width) kept in
    let height : mid.height ≡ s.height = ap {B = ℕ} (λ (m : SpotState). m.height) kept in
    let row : y < s.height = omega (arith, c.loop-y-test.true, c.rows-rows.ensures.span.within) in
    let wide : AreChanged by (in_row (row_of mid.height client y * s.width) s.width y disc) mid.cells new.cells =
    subst (λ (n : ℕ). AreChanged by (in_row (row_of mid.height client y * n) n y disc) mid.cells new.cells)
    width c.change_row_of.ensures.changes in
    let changes : AreChanged by (in_row (row_of s.height client y * s.width) s.width y disc) mid.cells new.cells =
    subst (λ (n : ℕ). AreChanged by (in_row (row_of n client y * s.width) s.width y disc) mid.cells new.cells)
    height wide in (
      rows_more by s.width s.height s.clients client y disc s.cells mid.cells new.cells
          c.rows-rows.ensures.whole row c.loop-y.invariant.0 changes,
      c.change_row_of.ensures.same ∙ ap (λ (m : SpotState). record m { cells = new.cells }) kept,
    )

pub returns-clause-changes : goal.returns-clause-changes
returns-clause-changes c =
    let s : SpotState = c.args.self.now in
    let span = c.rows-rows.result in
    let ends : c.loop-y.y ≡ span.end =
    omega (arith, c.loop-y.auto.y-end, c.loop-y-test.false, c.rows-rows.ensures.span.rises) in
    rows_end c.args.by s.width s.height s.clients c.args.client c.args.disc.now span s.cells
    c.loop-y.self.cells c.rows-rows.ensures.whole c.requires.disc c.rows-rows.ensures.span
    (subst (λ (n : ℕ). AreChanged c.args.by (in_rows s.width s.height c.args.client n c.args.disc.now) s.cells c.loop-y.self.cells) ends c.loop-y.invariant.0)
