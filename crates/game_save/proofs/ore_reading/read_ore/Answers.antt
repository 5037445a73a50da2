use Rattle.std.proofs.Common.{◌≡◌, ◌≤◌, ◌*◌, ◌∙◌, take, inr, arith}
use Rattle.std.proofs.lemmas.List.{length-set}
use Rattle.std.proofs.lemmas.Result.{err_from_is_err_and}
use Rattle.game_model.specs.declared.limits.TheConstants.{MAX_ORE}
use Rattle.game_model.specs.Grid.{place_of}
use Rattle.game_save.specs.WorldReading.{next_ore}
use Rattle.game_save.proofs.EachLemmas.{each_bad, each_end}
use Rattle.game_save.proofs.OreLemmas.{ore_bad, ore_more, ore_read, ore_step}
use Rattle.game_save.proofs.ore_reading.read_ore.Goals as goal

pub returns-in_err-bales-clause-reads : goal.returns-in_err-bales-clause-reads
returns-in_err-bales-clause-reads c =
    let p =
    err_from_is_err_and c.from_residual-in_err-bales.result c.from_residual-in_err-bales.ensures.1 in
    rw (p.1, p.2) (
    inr (
    ore_bad c.args.width c.args.height (c.from.result * c.from-2.result) c.args.c.now _
    c.loop-place.invariant.end
    (each_bad next_ore (take c.loop-place.place c.loop-place.ore.cells)
    (c.from.result * c.from-2.result) c.loop-place.place c.loop-place.c _ _
    c.loop-place-test.true c.in_err-bales.ensures.reads c.loop-place.invariant.rest)
    )
    )

pub loop-place-preserved : goal.loop-place-preserved
loop-place-preserved c =
    let ore = c.loop-place.ore in
    let p = c.cell_at.result in
    let i = c.loop-place.place in
    let there : place_of ore.width p ≡ i =
    rw c.loop-place.invariant.size.width c.cell_at.ensures.place in
    rw c.set.ensures (
    record {
      rest =
          ore_step ore p (c.from.result * c.from-2.result) i c.loop-place.c c.read_bales.new.c
          c.in_ok-bales.bales _ c.loop-place-test.true c.loop-place.invariant.whole there
          c.in_ok-bales.ensures.reads c.loop-place.invariant.rest;
      size =
          record {
            width = c.loop-place.invariant.size.width;
            height = c.loop-place.invariant.size.height;
          };
      whole =
          length-set ore.cells (place_of ore.width p) c.in_ok-bales.bales
          ∙ c.loop-place.invariant.whole;
      end = c.loop-place.invariant.end;
      most =
          ore_more (λ bales. bales ≤ MAX_ORE) ore p i c.in_ok-bales.bales
          (omega (arith, c.loop-place.invariant.whole, c.loop-place-test.true)) there
          c.loop-place.invariant.most c.in_ok-bales.ensures.most;
    }
    )

pub returns-clause-reads : goal.returns-clause-reads
returns-clause-reads c =
    ore_read c.args.width c.args.height (c.from.result * c.from-2.result) c.loop-place.place
    c.loop-place.ore c.args.c.now c.loop-place.c c.loop-place.invariant.end
    c.loop-place.invariant.size c.loop-place.invariant.whole c.loop-place-test.false
    (each_end next_ore (take c.loop-place.place c.loop-place.ore.cells)
    (c.from.result * c.from-2.result) c.loop-place.place c.loop-place.c _ c.loop-place-test.false
    c.loop-place.invariant.rest)
