use Rattle.std.proofs.Common.{◌≡◌, ◌≤◌, List, Some, length, arith, ap, sym, ◌∙◌}
use Rattle.std.specs.Prelude.{slice_get}
use Rattle.std.specs.Option.{option_copied}
use Rattle.game_model.specs.declared.actor.Actor.{Actor}
use Rattle.sync_hash.specs.FitsFields.{ActorFits}
use Rattle.sync_hash.specs.HashedBytes.{actor_bytes}
use Rattle.game_save.proofs.WritingLemmas.{all_hold, all_written, is_there, item_holds, item_written}
use Rattle.game_save.proofs.save_writing.append_actors.Goals as goal

pub unreachable-requires : goal.unreachable-requires
unreachable-requires g c =
    is_there (g.W.LendsWorld.world_of c.args.w.now).actors c.loop-i.i
    (omega (arith, c.loop-i-test.true, c.actor_count-i-end.ensures))
    (sym c.actor_at.ensures ∙ ap option_copied c.in_default.is)

pub loop-i-preserved : goal.loop-i-preserved
loop-i-preserved g c =
    let actors : List Actor = (g.W.LendsWorld.world_of c.args.w.now).actors in
    let a : Actor = c.in-Some.actor.now in
    let here : slice_get actors c.loop-i.i ≡ Some a =
    sym c.actor_at.ensures ∙ ap option_copied c.in-Some.is in (
      item_written actor_bytes _ c.loop-i.out.items c.append_actor.new.out.items actors c.loop-i.i a
          here c.loop-i.invariant.0 c.in_ok-append_actor.ensures.bytes,
      item_holds ActorFits actors c.loop-i.i a here c.loop-i.invariant.1
          c.in_ok-append_actor.ensures.fits,
    )

pub returns-clause-bytes : goal.returns-clause-bytes
returns-clause-bytes g c =
    let actors : List Actor = (g.W.LendsWorld.world_of c.args.w.now).actors in
    let past : length actors ≤ c.loop-i.i =
    omega (arith, c.loop-i-test.false, c.actor_count-i-end.ensures) in
    all_written actor_bytes _ c.loop-i.out.items actors c.loop-i.i past c.loop-i.invariant.0

pub returns-clause-fits : goal.returns-clause-fits
returns-clause-fits g c =
    let actors : List Actor = (g.W.LendsWorld.world_of c.args.w.now).actors in
    let past : length actors ≤ c.loop-i.i =
    omega (arith, c.loop-i-test.false, c.actor_count-i-end.ensures) in
    all_hold ActorFits actors c.loop-i.i past c.loop-i.invariant.1
