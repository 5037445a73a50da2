use Rattle.grid_routes.proofs.Spreading.{offered-by}
use Rattle.grid_routes.proofs.offers.try_offer.Goals as goal

pub returns-in-Some-clause-offers : goal.returns-in-Some-clause-offers
returns-in-Some-clause-offers c = λ shelves entry_cost q d level holds offer.
    let there = offer.beside.some c.in-Some.n c.in-Some.is in
    rw (c.try_relax.ensures.labels, c.try_relax.ensures.cells, c.try_relax.ensures.len, offer.labelled)
    (offered-by c.args.width c.args.height _ shelves _ _ c.in-Some.n c.args.allowed entry_cost q d level offer.cost
    c.requires.full there.1 c.requires.row (rw offer.labelled at holds) offer.direction offer.on offer.from offer.some offer.step there.0)
