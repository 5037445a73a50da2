use Rattle.std.proofs.Common.{ap, ◌∙◌, arith, slice_get}
use Rattle.peer_core.specs.Entries.{play_at}
use Rattle.peer_core.proofs.PlaysLemmas.{found_in_column, found_early}
use Rattle.peer_core.proofs.plays.Plays.get.Goals as goal

pub returns-then-n-len : goal.returns-then-n-len
returns-then-n-len c =
    let column = c.self.inside.column.items in
    c.orders_at.ensures ∙ ap (λ orders. slice_get orders c.args.n) c.as_slice.ensures.value
    ∙ found_in_column column c.self.inside.early.entries c.args.n (omega arith)
    ∙ ap (λ plays. play_at plays c.args.n) c.self.view_is

pub returns-else-n-len : goal.returns-else-n-len
returns-else-n-len c =
    c.get.ensures.value
    ∙ found_early c.self.inside.column.items c.self.inside.early.entries c.args.n (omega arith)
    ∙ ap (λ plays. play_at plays c.args.n) c.self.view_is
