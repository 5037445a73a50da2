use Rattle.std.proofs.Common.{refl, ◌∙◌}
use Rattle.replay_run.proofs.RerunLemmas.{begins, part_step}
use Rattle.replay_run.proofs.rerun.run_replay_from.Goals as goal

pub loop-kind-init : goal.loop-kind-init
loop-kind-init g c = (
  c.requires.clients,
  c.requires.made,
  begins _ _ _ _ _ c.requires.valid c.parts_after-left.ensures refl refl refl,
)

pub loop-kind-preserved : goal.loop-kind-preserved
loop-kind-preserved g c =
    let is = c.loop-kind.invariant in (
      c.pass.ensures.clients ∙ is.0,
      c.pass.ensures.steps is.1,
      part_step _ _ _ _ _ _ _ _ is.2 c.in-Some.ensures c.pass.ensures.value,
    )
