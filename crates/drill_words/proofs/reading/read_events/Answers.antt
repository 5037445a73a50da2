use Rattle.std.proofs.Common.{◌≡◌, length, Ok, Err, ◌∙◌, inr}
use Rattle.std.proofs.lemmas.Result.{err_from_is_err_and}
use Rattle.drill_words.specs.Event.{event_fits}
use Rattle.drill_words.specs.BareEvent.{with_orders}
use Rattle.drill_words.specs.Drill.{event_on}
use Rattle.drill_words.proofs.DrillLemmas.{events_from-more, events_from-fault, few_push}
use Rattle.drill_words.proofs.DrillLemmas.{list_all_push}
use Rattle.drill_words.proofs.reading.read_events.Goals as goal

-- The first line of those that are left has a fault.
pub returns-in_err-bare-clause-events : goal.returns-in_err-bare-clause-events
returns-in_err-bare-clause-events c =
    let p = err_from_is_err_and c.from_residual.result c.from_residual.ensures.1 in
    let read : event_on c.args.clients (length c.loop-number.events) (record { number = c.in-Some.number; words = c.in-Some.cursor }) ≡ Err c.in_err-bare.field-0.0 =
    cc (c.in_err-bare.ensures.line, c.len-before.ensures) in
    rw (p.1, p.2) (
    inr (
    cc (
      events_from-fault c.args.clients c.loop-number.events c.in_err-bare.field-0.0 _ c.loop-number.lines c.next.new.self c.in-Some.ensures read,
      c.loop-number.invariant.whole,
    )
    )
    )

-- It is one more event.
pub loop-number-preserved : goal.loop-number-preserved
loop-number-preserved c =
    let read : event_on c.args.clients (length c.loop-number.events) (record { number = c.in-Some.number; words = c.in-Some.cursor }) ≡ Ok (with_orders c.read_event_on.new.orders c.in_ok-bare.bare) =
    cc (c.in_ok-bare.ensures.line, c.len-before.ensures) in
    rw c.in-Ok.ensures.ok (
    record {
      whole = events_from-more c.args.clients c.loop-number.events (with_orders c.read_event_on.new.orders c.in_ok-bare.bare) _ c.loop-number.lines c.next.new.self c.in-Some.ensures read
          ∙ c.loop-number.invariant.whole;
      few = few_push c.loop-number.events (with_orders c.read_event_on.new.orders c.in_ok-bare.bare) _ c.loop-number.invariant.few (λ full. c.in_ok-bare.ensures.room (c.len-before.ensures ∙ full));
      fit = list_all_push (event_fits c.args.clients) c.loop-number.events (with_orders c.read_event_on.new.orders c.in_ok-bare.bare) c.loop-number.invariant.fit c.in_ok-bare.ensures.fits;
    }
    )
