use Rattle.std.proofs.Common.{◌≡◌, rules, replicate}
use Rattle.grid_routes.proofs.Shelves.{none-held}
use Rattle.grid_routes.proofs.buckets.Buckets.create.Goals as goal

pub invariant_of-result : goal.invariant_of-result
invariant_of-result c =
    let zeros : c.resize.new.self.items ≡ replicate 71 0 = search rules in
    (rw (c.in_ok-cells.ensures.items, zeros) (none-held _), search rules)
