use Rattle.std.proofs.Common.{◌<◌, ◌%◌, arith}
use Rattle.grid_routes.specs.Labels.{label_of}
use Rattle.grid_routes.proofs.Lowering.{relaxed-all}
use Rattle.grid_routes.proofs.Shelves.{pushed-puts}
use Rattle.grid_routes.proofs.offers.relax.Goals as goal

pub returns-then-label-label_at-clause-relaxed : goal.returns-then-label-label_at-clause-relaxed
returns-then-label-label_at-clause-relaxed c =
    let less : c.args.label < label_of c.args.field.now.labels c.args.n.cell = rw c.label_at.ensures at c.if-label-label_at.true in
    rw (c.push.ensures.value, c.lower_at.ensures.value)
    (relaxed-all c.args.field.now c.args.buckets.now _ c.args.n.cell c.args.label c.lower_at.ensures.full
    (pushed-puts c.args.buckets.now (c.args.label % 71) c.args.n.cell c.push.ensures.whole (omega arith)) c.requires.on less)
