use Rattle.std.proofs.Common.{◌∙◌, sym, arith}
use Rattle.peer_core.proofs.SameLemmas.{only_one}
use Rattle.peer_core.proofs.stored_orders.StoredOrders.create.Goals as goal

pub returns-then-len-eq1 : goal.returns-then-len-eq1
returns-then-len-eq1 c =
    c.stored-then-len-eq1.ensures
    ∙ only_one c.args.orders.now c.in-Some.first.now (sym c.in-Some.ensures.value) (omega arith)
