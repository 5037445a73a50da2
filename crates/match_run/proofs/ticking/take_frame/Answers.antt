use Rattle.std.proofs.Common.{length, ◌∙◌}
use Rattle.match_run.proofs.BotPasses.{later_fed_all}
use Rattle.match_run.proofs.LocalPasses.{later_local, later_knows}
use Rattle.match_run.proofs.LocalTicks.{waited_later, not_over}
use Rattle.match_run.proofs.ticking.take_frame.Goals as goal

pub loop-turn-preserved-in-Continue-1 : goal.loop-turn-preserved-in-Continue-1
loop-turn-preserved-in-Continue-1 g c =
    let far = c.loop-turn.invariant in
    let took = c.in_ok-take_more-in-Yes.ensures in (
      record { local = c.take_more.ensures.pass; knows = took.knows; share = c.take_more.ensures.share ∙ c.ready.ensures.later.share ∙ far.0.share },
      took.taken,
      λ plays fed. took.fed plays (later_fed_all (length c.args.scripts.now) c.args.table.now plays c.loop-turn.pass c.ready.new.pass c.ready.ensures.later (far.2 plays fed)),
    )

pub loop-turn-preserved : goal.loop-turn-preserved
loop-turn-preserved g c =
    let far = c.loop-turn.invariant in (
      waited_later _ _ _ _ _ far.0 c.ready.ensures.pass c.ready.ensures.later,
      far.1,
      λ plays fed. later_fed_all (length c.args.scripts.now) c.args.table.now plays c.loop-turn.pass c.ready.new.pass c.ready.ensures.later (far.2 plays fed),
    )

-- A script has a play at this frame.
pub unreachable-requires : goal.unreachable-requires
unreachable-requires g c =
    let far = c.loop-turn.invariant.0 in
    let local = later_local _ _ _ _ far.local c.ready.ensures.pass c.ready.ensures.later in
    let knows = later_knows _ _ _ _ far.local c.ready.ensures.pass c.ready.ensures.later far.knows in
    not_over _ _ _ _ _ local knows c.requires.played c.in-Over.is c.ready.ensures.means
