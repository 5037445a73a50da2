use Rattle.std.proofs.Common.{sym, ◌∙◌}
use Rattle.match_net.proofs.AheadLemmas.{put_step, unchanged_step}
use Rattle.match_net.proofs.reading.put_orders.Goals as goal

pub returns-in-Ok-clause-step : goal.returns-in-Ok-clause-step
returns-in-Ok-clause-step g c = put_step _ _ _ _ _ _ _ c.requires.may c.in-Ok.ensures.ok c.requires.goes c.requires.step

pub returns-in-Err-clause-step : goal.returns-in-Err-clause-step
returns-in-Err-clause-step g c =
    unchanged_step _ _ _ _ (c.put.ensures.pass.marks ∙ sym c.requires.pass.marks) c.in-Err.ensures.err c.requires.step
