use Rattle.std.proofs.Common.{rules, ◌<◌, length}
use Rattle.actor_table.proofs.OrderCalls.{index_here, before_not_lesser, after_lesser}
use Rattle.actor_table.proofs.order.find.Goals as goal

pub find_between-requires-clause-between : goal.find_between-requires-clause-between
find_between-requires-clause-between c =
    let inside : c.min-guess.result < length c.args.order.now = search rules in
    after_lesser c.args.order.now c.args.id c.min-guess.result _ c.requires inside c.if-there-id-2.true

pub find_before-requires-clause-before : goal.find_before-requires-clause-before
find_before-requires-clause-before c =
    let inside : c.min-guess.result < length c.args.order.now = search rules in
    before_not_lesser c.args.order.now c.args.id c.min-guess.result _ c.requires inside c.if-there-id-2.false c.if-there-id.false

pub returns-then-there-id-clause-found : goal.returns-then-there-id-clause-found
returns-then-there-id-clause-found c =
    let inside : c.min-guess.result < length c.args.order.now = search rules in
    index_here c.args.order.now c.args.id c.min-guess.result _ inside c.if-there-id.true
