use Rattle.std.proofs.Common.{ap, sym, ◌∙◌}
use Rattle.match_run.specs.declared.client_pass.ClientPass.{ClientPass}
use Rattle.frame_table.specs.Calls.{view_of}
use Rattle.match_run.proofs.LocalPasses.{shares_same}
use Rattle.match_run.proofs.playing.play_all.Goals as goal

pub returns-clause-shares : goal.returns-clause-shares
returns-clause-shares g c =
    shares_same _ _ c.for_each_mut.auto.s (λ i d below.
    let changed = (c.for_each_mut.ensures i d below).1 in
    ap (λ (f : ClientPass). (view_of f.pass).share) (sym changed.left) ∙ changed.call.1 ∙ ap (λ (f : ClientPass). (view_of f.pass).share) changed.argument_is)
