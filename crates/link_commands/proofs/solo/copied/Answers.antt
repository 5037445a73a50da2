use Rattle.std.proofs.Common.{◌∙◌, ◌∷◌, [], ◌++◌, ap, sym, take}
use Rattle.std.proofs.lemmas.List.{take_more}
use Rattle.std.proofs.lemmas.Option.{slice_get_within, get_or_from_slice_get}
use Rattle.link_commands.proofs.solo.copied.Goals as goal

-- One play more was copied.
pub loop-n-preserved : goal.loop-n-preserved
loop-n-preserved c =
    let plays = c.args.plays.now in
    let n = c.loop-n.n in
    let orders = c.get.result in
    c.in_ok-push.ensures.items
    ∙ ap (λ all. all ++ orders ∷ []) c.loop-n.invariant
    ∙ sym (take_more plays n orders (slice_get_within plays n orders c.get.ensures)
    ∙ ap (λ x. take n plays ++ x ∷ []) (get_or_from_slice_get plays n orders orders c.get.ensures))
