use Rattle.match_serve.proofs.PieceLemmas.{pairs, changed}
use Rattle.match_serve.proofs.serving.serve_links.Goals as goal

pub returns : goal.returns
returns g c =
    pairs _ _ _ c.for_each_mut.auto.s (λ i d below.
    let call = (c.for_each_mut.ensures i d below).1 in
    changed _ _ _ _ _ call.argument_is call.left call.call)
