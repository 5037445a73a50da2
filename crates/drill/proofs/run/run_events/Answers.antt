use Rattle.std.proofs.Common.{◌+◌, drop, ◌∙◌, arith}
use Rattle.drill_words.specs.Event.{event_fits}
use Rattle.drill_words.specs.EventView.{event_of}
use Rattle.drill.proofs.RunsEventsLemmas.{fits_at, of_first_run, ran_cut, ran_all, ran_one_more, next_event, none_left}
use Rattle.drill.proofs.run.run_events.Goals as goal

pub take_event-requires-clause-fits : goal.take_event-requires-clause-fits
take_event-requires-clause-fits g c =
    rw c.loop-number.invariant.0
    (fits_at (event_fits _) c.args.events.now c.loop-number.number (event_of c.get-event.result) c.requires.fit c.get-event.ensures)

-- The run was cut at the next event.
pub returns-in-Err-clause-runs : goal.returns-in-Err-clause-runs
returns-in-Err-clause-runs g c =
    ran_cut _ c.loop-number.number (event_of c.get-event.result) (drop c.loop-number.number c.args.events.now)
    (drop (c.loop-number.number + 1) c.args.events.now) _ _ _ _ _ _ _ _ _ _ c.in-Err.fault
    (next_event c.args.events.now c.loop-number.number (event_of c.get-event.result) c.get-event.ensures)
    c.loop-number.invariant.2 (of_first_run _ _ _ c.args.run.now _ _ _ _ _ _ _ _ _ c.loop-number.invariant.0 c.loop-number.invariant.1 c.in-Err.ensures.runs)

-- One event more ran.
pub loop-number-preserved : goal.loop-number-preserved
loop-number-preserved g c = (
  c.in_default.ensures.clients ∙ c.loop-number.invariant.0,
  c.in_default.ensures.lag ∙ c.loop-number.invariant.1,
  ran_one_more _ c.loop-number.number (event_of c.get-event.result) (drop c.loop-number.number c.args.events.now)
      (drop (c.loop-number.number + 1) c.args.events.now) _ _ _ _ _ _ _ _ _ _
      (next_event c.args.events.now c.loop-number.number (event_of c.get-event.result) c.get-event.ensures)
      c.loop-number.invariant.2
      (of_first_run _ _ _ c.args.run.now _ _ _ _ _ _ _ _ _ c.loop-number.invariant.0 c.loop-number.invariant.1 c.in_default.ensures.runs),
  omega arith,
)

-- No event is left.
pub returns-clause-runs : goal.returns-clause-runs
returns-clause-runs g c =
    ran_all _ c.loop-number.number (drop c.loop-number.number c.args.events.now) _ _ _ _ _ _ _
    (none_left c.args.events.now c.loop-number.number (rw c.len-number-end.ensures at c.loop-number-test.false)) c.loop-number.invariant.2
