use Rattle.std.proofs.Common.{◌*◌, ◌%◌, ◌≡◌, ◌≢◌, ap, length, arith}
use Rattle.grid_routes.proofs.Spreading.{spread-across, spread-done, spread-none, spread-straight}
use Rattle.grid_routes.proofs.offers.offer_all.Goals as goal

pub returns-clause-spread : goal.returns-clause-spread
returns-clause-spread c = λ shelves entry_cost level near far are from.
    let offers = c.args.offers.now in
    let size : length shelves.cells ≡ length c.args.cells.now = ap length near.same in
    let apart : offers.straight % 71 ≢ offers.across % 71 =
    (λ same. omega (arith, same, are.straight, are.across, are.some, are.cheap)) in
    let rows = c.requires.straight_rows in
    let rows' = c.requires.across_rows in
    let n = c.above-north.ensures.beside in
    let s = c.below-south.ensures.beside in
    let zero =
    spread-none c.args.width c.args.height c.args.labels.now shelves offers.straight offers.across apart near.whole entry_cost c.args.q.cell level c.requires.here.on from
    c.args.cells.now c.args.straight.now c.args.across.now near far (omega (arith, rows)) (omega (arith, rows')) in
    let one =
    spread-straight c.args.width c.args.height c.args.labels.now shelves offers.straight offers.across apart near.whole entry_cost c.args.q.cell level c.requires.here.on from
    0 _ _ _ _ zero _ _ _ _ c.try_offer.ensures.cells (omega arith) n (5 * are.cost) (omega (arith, are.some)) are.step_costs.north are.straight _ (omega (arith, rows, size, c.try_offer.ensures.grows)) c.try_offer.ensures.offers in
    let two =
    spread-across c.args.width c.args.height c.args.labels.now shelves offers.straight offers.across apart near.whole entry_cost c.args.q.cell level c.requires.here.on from
    1 _ _ _ _ one _ _ _ _ c.try_offer-2.ensures.cells (omega arith) (c.right_of-north_east.ensures.above n) (7 * are.cost) (omega (arith, are.some)) are.step_costs.north_east are.across _ (omega (arith, rows', size, c.try_offer-2.ensures.grows)) c.try_offer-2.ensures.offers in
    let three =
    spread-straight c.args.width c.args.height c.args.labels.now shelves offers.straight offers.across apart near.whole entry_cost c.args.q.cell level c.requires.here.on from
    2 _ _ _ _ two _ _ _ _ c.try_offer-3.ensures.cells (omega arith) c.right-east.ensures.beside (5 * are.cost) (omega (arith, are.some)) are.step_costs.east are.straight _ (omega (arith, rows, size, c.try_offer.ensures.grows, c.try_offer-3.ensures.grows)) c.try_offer-3.ensures.offers in
    let four =
    spread-across c.args.width c.args.height c.args.labels.now shelves offers.straight offers.across apart near.whole entry_cost c.args.q.cell level c.requires.here.on from
    3 _ _ _ _ three _ _ _ _ c.try_offer-4.ensures.cells (omega arith) (c.right_of-south_east.ensures.below s) (7 * are.cost) (omega (arith, are.some)) are.step_costs.south_east are.across _ (omega (arith, rows', size, c.try_offer-2.ensures.grows, c.try_offer-4.ensures.grows)) c.try_offer-4.ensures.offers in
    let five =
    spread-straight c.args.width c.args.height c.args.labels.now shelves offers.straight offers.across apart near.whole entry_cost c.args.q.cell level c.requires.here.on from
    4 _ _ _ _ four _ _ _ _ c.try_offer-5.ensures.cells (omega arith) s (5 * are.cost) (omega (arith, are.some)) are.step_costs.south are.straight _ (omega (arith, rows, size, c.try_offer.ensures.grows, c.try_offer-3.ensures.grows, c.try_offer-5.ensures.grows)) c.try_offer-5.ensures.offers in
    let six =
    spread-across c.args.width c.args.height c.args.labels.now shelves offers.straight offers.across apart near.whole entry_cost c.args.q.cell level c.requires.here.on from
    5 _ _ _ _ five _ _ _ _ c.try_offer-6.ensures.cells (omega arith) (c.left_of-south_west.ensures.below s) (7 * are.cost) (omega (arith, are.some)) are.step_costs.south_west are.across _ (omega (arith, rows', size, c.try_offer-2.ensures.grows, c.try_offer-4.ensures.grows, c.try_offer-6.ensures.grows)) c.try_offer-6.ensures.offers in
    let seven =
    spread-straight c.args.width c.args.height c.args.labels.now shelves offers.straight offers.across apart near.whole entry_cost c.args.q.cell level c.requires.here.on from
    6 _ _ _ _ six _ _ _ _ c.try_offer-7.ensures.cells (omega arith) c.left-west.ensures.beside (5 * are.cost) (omega (arith, are.some)) are.step_costs.west are.straight _ (omega (arith, rows, size, c.try_offer.ensures.grows, c.try_offer-3.ensures.grows, c.try_offer-5.ensures.grows, c.try_offer-7.ensures.grows)) c.try_offer-7.ensures.offers in
    let eight =
    spread-across c.args.width c.args.height c.args.labels.now shelves offers.straight offers.across apart near.whole entry_cost c.args.q.cell level c.requires.here.on from
    7 _ _ _ _ seven _ _ _ _ c.try_offer-8.ensures.cells (omega arith) (c.left_of-north_west.ensures.above n) (7 * are.cost) (omega (arith, are.some)) are.step_costs.north_west are.across _ (omega (arith, rows', size, c.try_offer-2.ensures.grows, c.try_offer-4.ensures.grows, c.try_offer-6.ensures.grows, c.try_offer-8.ensures.grows)) c.try_offer-8.ensures.offers in
    spread-done c.args.width c.args.height c.args.labels.now shelves offers.straight offers.across apart near.whole entry_cost c.args.q.cell level c.requires.here.on from
    _ _ _ _ c.requires.full eight
