use Rattle.std.proofs.Common.{◌≡◌, ◌<◌, length, get_or, ◌∙◌, arith}
use Rattle.std.proofs.lemmas.List.{get_or_default}
use Rattle.grid_routes.specs.Held.{Shelves}
use Rattle.grid_routes.proofs.Shelves.{more-whole}
use Rattle.grid_routes.proofs.buckets.Buckets.push.Goals as goal

pub invariant_of-self : goal.invariant_of-self
invariant_of-self c =
    let lens = c.self.inside.lens.items in
    let s : Shelves = record {
      room = c.self.inside.room;
      cells = c.self.inside.cells.items;
      lens = lens;
      lost = c.self.inside.lost;
    } in
    let within : c.args.bucket < length lens = omega (arith, c.self.invariant.0.lens, c.requires) in
    let len : c.index-len.result.now ≡ get_or lens c.args.bucket 0 =
    c.index-len.ensures ∙ get_or_default lens c.args.bucket c.index-len.result.now 0 within in
    let room : get_or lens c.args.bucket 0 < c.self.inside.room = omega (arith, len, c.if-len-self.true) in
    (rw (c.widen.ensures.items, len) (more-whole s c.args.bucket c.args.p c.self.invariant.0 c.requires room), omega (arith, c.widen.ensures.capacity, c.self.invariant.1))
