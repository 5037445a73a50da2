use Rattle.std.proofs.Common.{arith}
use Rattle.grid_routes.proofs.Filling.{fill-past, fill-push}
use Rattle.grid_routes.proofs.search.Search.refill_cell.Goals as goal

pub returns-then-label-lt-NONE-clause-filled : goal.returns-then-label-lt-NONE-clause-filled
returns-then-label-lt-NONE-clause-filled c =
    rw c.push.ensures.value
    (fill-push c.args.self.now.field c.args.self.now.buckets c.args.p c.label-label.result c.requires.full
    c.push.ensures.whole c.requires.room c.requires.on c.label-label.ensures c.requires.filled)

pub push-requires : goal.push-requires
push-requires c = omega arith

pub returns-else-level-label-clause-filled : goal.returns-else-level-label-clause-filled
returns-else-level-label-clause-filled c =
    fill-past c.args.self.now.field c.args.self.now.buckets c.args.p c.level.result c.label-label.result c.level.ensures
    c.label-label.ensures c.else-level-label.either c.requires.filled
