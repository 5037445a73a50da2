use Rattle.std.proofs.Common.{ap, length, ◌∙◌, arith}
use Rattle.std.proofs.lemmas.List.FromFn.{length-map-range_with_len}
use Rattle.match_run.proofs.BotColumns.{on_ok}
use Rattle.match_run.proofs.LocalTicks.{ticked_more, ended_all}
use Rattle.match_run.proofs.ticking.tick_all.Goals as goal

pub tick-requires-clause-clients : goal.tick-requires-clause-clients
tick-requires-clause-clients g c =
    let clients = c.loop-n.invariant.0.stepped.clients in
    let long = ap length c.in_ok-put_plays.ensures.ordered ∙ length-map-range_with_len _ _ _ in
    omega arith

pub loop-n-preserved : goal.loop-n-preserved
loop-n-preserved g c =
    let far = c.loop-n.invariant in (
      ticked_more _ _ _ _ _ c.loop-n.pass c.put_plays.new.pass c.take_frame.new.pass _ _ _ _ _ _ far.0 c.in_ok-put_plays.ensures.fed c.in_ok-take_frame.ensures.fed c.take_frame.ensures.pass c.in_ok-take_frame.ensures.knows
          (c.take_frame.ensures.share ∙ c.put_plays.ensures.share ∙ far.0.share) c.in_ok-put_plays.ensures.ordered c.tick.ensures.world c.tick.ensures.clients c.tick.ensures.steps c.in_ok-take_frame.ensures.taken,
      far.1,
    )

pub returns-clause-bots : goal.returns-clause-bots
returns-clause-bots g c =
    let far = c.loop-n.invariant in
    let end = far.1 in
    let test = c.loop-n-test.false in
    on_ok _ _ _ (λ waited. ended_all _ _ _ _ _ c.loop-n.pass c.leave_all.new.pass c.await_end.new.pass _ _ _ far.0 (omega arith) c.leave_all.ensures.ended waited) c.await_end.ensures.bots
