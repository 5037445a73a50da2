use Rattle.drill.proofs.DrilledLemmas.{opened_whole, events_cut, closing_cut, report_written}
use Rattle.drill.proofs.run.run_drill.Goals as goal

pub run_events-requires-clause-whole : goal.run_events-requires-clause-whole
run_events-requires-clause-whole g c = opened_whole _ _ _ _ c.in-Ok.ensures

pub returns-in-Err : goal.returns-in-Err
returns-in-Err g c =
    events_cut _ _ _ _ _ _ _ _ c.in-Err.fault c.in-Ok.ensures c.new.ensures.bytes
    c.in-Err.ensures.runs c.in-Err.ensures.later c.in-Err.ensures.failed

pub returns-in-Err-finish : goal.returns-in-Err-finish
returns-in-Err-finish g c =
    closing_cut _ _ _ (g.K.Sink.state c.run_events.new.out) _ _ _ _ _ _ _ c.in-Err-finish.fault
    c.in-Ok.ensures c.new.ensures.bytes
    c.in_default-run_events.ensures.clients c.in_default-run_events.ensures.lag c.in_default-run_events.ensures.runs
    c.into_drilled-left.ensures.server c.into_drilled-left.ensures.peers
    c.in-Err-finish.ensures.cut c.in_default-run_events.ensures.later c.in-Err-finish.ensures.later
    c.in-Err-finish.ensures.failed

pub returns : goal.returns
returns g c =
    report_written _ _ _ (g.K.Sink.state c.run_events.new.out) _ _ _ _ _ _ _
    c.in-Ok.ensures c.new.ensures.bytes
    c.in_default-run_events.ensures.clients c.in_default-run_events.ensures.lag c.in_default-run_events.ensures.runs
    c.into_drilled-left.ensures.server c.into_drilled-left.ensures.peers
    c.in_default-finish.ensures.printed c.in_default-finish.ensures.empty
    c.in_default-run_events.ensures.later c.in_default-finish.ensures.later
