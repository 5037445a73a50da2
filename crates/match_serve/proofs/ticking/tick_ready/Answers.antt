use Rattle.match_serve.proofs.TickLemmas.{looked, ticked_more, ticked_all, told, heard_more, marked}
use Rattle.match_serve.proofs.ticking.tick_ready.Goals as goal

pub loop-turn-preserved-in-Yes : goal.loop-turn-preserved-in-Yes
loop-turn-preserved-in-Yes g c =
    let reports = c.take_reports.ensures in
    let far = told _ _ _ _ _ _ _ _ c.take_reports.new.board _ _ c.loop-turn.invariant.0 reports.wanted reports.boards in
    let more = heard_more _ _ c.loop-turn.board c.take_reports.new.board _ _ _ c.loop-turn.invariant.1 c.loop-turn.invariant.0.boards c.in_ok-take_reports.ensures.board reports.joined reports.same in (
      ticked_more _ _ _ _ _ _ _ _ _ _ _ _ _ _ far c.ready.ensures.later c.ready.ensures.pass c.in_ok-tick-in-Yes.ensures.pass _ c.in-Yes.is c.ready.ensures.means c.in_ok-tick-in-Yes.ensures.ticks c.in_ok-tick-in-Yes.ensures.clients c.in_ok-tick-in-Yes.ensures.steps,
      marked _ _ _ _ _ _ _ _ _ _ _ _ _ c.in_ok-tick-in-Yes.ensures.ticks more,
    )

pub loop-turn-preserved : goal.loop-turn-preserved
loop-turn-preserved g c =
    let reports = c.take_reports.ensures in
    let far = told _ _ _ _ _ _ _ _ c.take_reports.new.board _ _ c.loop-turn.invariant.0 reports.wanted reports.boards in
    let more = heard_more _ _ c.loop-turn.board c.take_reports.new.board _ _ _ c.loop-turn.invariant.1 c.loop-turn.invariant.0.boards c.in_ok-take_reports.ensures.board reports.joined reports.same in
    (looked _ _ _ _ _ _ _ _ c.loop-turn.pass c.take_reports.new.board c.loop-turn.board _ _ c.loop-turn.sim far c.ready.ensures.later c.ready.ensures.pass, more)

pub returns-in-Over-clause-ticked : goal.returns-in-Over-clause-ticked
returns-in-Over-clause-ticked g c =
    let reports = c.take_reports.ensures in
    let far = told _ _ _ _ _ _ _ _ c.take_reports.new.board _ _ c.loop-turn.invariant.0 reports.wanted reports.boards in
    ticked_all _ _ _ _ _ _ _ _ _ _ c.loop-turn.board _ _ c.loop-turn.sim far c.ready.ensures.later c.ready.ensures.pass c.take_frame-departures.ensures.pass _ c.in-Over.is c.ready.ensures.means _ c.take_frame-departures.ensures.taken
