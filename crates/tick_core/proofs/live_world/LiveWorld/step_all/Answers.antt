use Rattle.std.proofs.Common.{◌≡◌, ◌<◌, ℕ, Some, length, get_or, ap, arith, ◌∙◌}
use Rattle.std.specs.Prelude.{slice_get}
use Rattle.std.proofs.lemmas.Option.{slice_get-get_or}
use Rattle.game_model.specs.World.{ids_of}
use Rattle.game_tick.proofs.TurnLemmas.{length-ids_of}
use Rattle.tick_core.specs.Live.{Standing}
use Rattle.tick_core.proofs.BusyLemmas.{stepped_all, stepped_next}
use Rattle.tick_core.proofs.live_world.LiveWorld.step_all.Goals as goal

-- The next actor makes its step; there is one, since all stay at their places.
pub loop-i-preserved : goal.loop-i-preserved
loop-i-preserved c =
    let first = c.args.self.now.world.actors in
    let many : length c.self.inside.scene.world.actors ≡ length first = ap (λ (s : Standing). length s.world.actors) c.self.view_is in
    let within : c.loop-i.i < length first = omega (arith, c.loop-i-test.true, c.actors-i-end.ensures.value, many) in
    let id : ℕ = get_or (ids_of first) c.loop-i.i 0 in
    let at : slice_get (ids_of first) c.loop-i.i ≡ Some id =
    slice_get-get_or (ids_of first) c.loop-i.i 0 (omega (arith, within, length-ids_of first)) in
    let here : slice_get (ids_of c.loop-i.self.world.actors) c.loop-i.i ≡ Some id = c.loop-i.invariant.ids c.loop-i.i within ∙ at in
    stepped_next c.args.self.now c.loop-i.self _ c.loop-i.i id within here c.step_at.ensures.stands c.step_at.ensures.acting
    (c.step_at.ensures.world id here) c.loop-i.invariant

pub returns-clause-world : goal.returns-clause-world
returns-clause-world c =
    let many : length c.self.inside.scene.world.actors ≡ length c.args.self.now.world.actors = ap (λ (s : Standing). length s.world.actors) c.self.view_is in
    stepped_all c.args.self.now c.loop-i.self c.loop-i.i (omega (arith, c.loop-i-test.false, c.actors-i-end.ensures.value, many)) c.loop-i.invariant
