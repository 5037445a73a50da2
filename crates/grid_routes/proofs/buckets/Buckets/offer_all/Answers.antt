use Rattle.std.proofs.Common.{◌≡◌, ◌%◌, ◌∙◌, ap, arith, get_or, length, sym}
use Rattle.std.proofs.lemmas.List.{get_or_default}
use Rattle.grid_routes.specs.Held.{Shelves, IsWhole}
use Rattle.grid_routes.proofs.Spreading.{written}
use Rattle.grid_routes.proofs.buckets.Buckets.offer_all.Goals as goal

pub returns-clause-spread : goal.returns-clause-spread
returns-clause-spread c = λ entry_cost level are from.
    let inside = c.self.inside in
    let lens = inside.lens.items in
    let s : Shelves = record {
      room = inside.room;
      cells = inside.cells.items;
      lens = lens;
      lost = inside.lost;
    } in
    let whole : IsWhole s = c.self.invariant.0 in
    let lent = c.as_mut_slice-cells.ensures in
    let long : inside.cells.len ≡ length inside.cells.items = sym lent.len ∙ ap length lent.value in
    let sides = c.bucket_of-straight_bucket.ensures in
    let corners = c.bucket_of-across_bucket.ensures in
    let near : c.index.result.now ≡ get_or lens (c.args.offers.now.straight % 71) 0 =
    c.index.ensures ∙ ap (λ b. get_or lens b c.index.result.now) sides
    ∙ get_or_default lens (c.args.offers.now.straight % 71) c.index.result.now 0 (omega (arith, whole.lens)) in
    let far : c.index-2.result.now ≡ get_or lens (c.args.offers.now.across % 71) 0 =
    c.index-2.ensures ∙ ap (λ b. get_or lens b c.index-2.result.now) corners
    ∙ get_or_default lens (c.args.offers.now.across % 71) c.index-2.result.now 0 (omega (arith, whole.lens)) in
    rw (← c.self.view_is, written inside.cells.items c.offer_all.new.cells inside.cells.len long (c.offer_all.ensures.cells ∙ ap length lent.value), sides, corners)
    (c.offer_all.ensures.spread s entry_cost level
    (record { whole = whole; same = sym lent.value; count = sym near })
    (record { whole = whole; same = sym lent.value; count = sym far }) are from)
