use Rattle.std.proofs.Common.{refl}
use Rattle.drill.proofs.DrilledLemmas.{opened_whole, all_left}
use Rattle.drill.proofs.run.run_without_report.Goals as goal

pub run_events-requires-clause-whole : goal.run_events-requires-clause-whole
run_events-requires-clause-whole g c = opened_whole _ _ _ _ c.in_ok-run.ensures

pub returns : goal.returns
returns g c =
    all_left _ _ _ _ _ _ _ _ _ c.in_ok-run.ensures refl c.in-Ok.ensures.clients c.in-Ok.ensures.lag c.in-Ok.ensures.runs
    c.into_drilled.ensures.server c.into_drilled.ensures.peers
