use Rattle.std.proofs.Common.{length}
use Rattle.match_run.proofs.BotPasses.{later_ended_all}
use Rattle.match_run.proofs.LocalTicks.{waited_later}
use Rattle.match_run.proofs.ticking.await_end.Goals as goal

pub returns-in-Over-clause-bots : goal.returns-in-Over-clause-bots
returns-in-Over-clause-bots g c columns ended =
    later_ended_all (length c.args.scripts.now) c.args.table.now columns c.loop-turn.pass c.ready.new.pass c.ready.ensures.later (c.loop-turn.invariant.1 columns ended)

pub loop-turn-preserved : goal.loop-turn-preserved
loop-turn-preserved g c = (
  waited_later _ _ _ _ _ c.loop-turn.invariant.0 c.ready.ensures.pass c.ready.ensures.later,
  λ columns ended. later_ended_all (length c.args.scripts.now) c.args.table.now columns c.loop-turn.pass c.ready.new.pass c.ready.ensures.later (c.loop-turn.invariant.1 columns ended),
)
