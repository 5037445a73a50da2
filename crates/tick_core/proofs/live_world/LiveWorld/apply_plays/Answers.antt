use Rattle.std.proofs.Common.{◌≡◌, ◌≤◌, ◌∙◌, length, subst, sym, refl, arith}
use Rattle.game_model.specs.Setup.{Setup}
use Rattle.tick_core.specs.Ordered.{IsReady}
use Rattle.tick_core.proofs.TickLemmas.{entered_next, entered_all, ready_now}
use Rattle.tick_core.proofs.live_world.LiveWorld.apply_plays.Goals as goal
use Rattle.tick_core.proofs.live_world.LiveWorld.apply_plays.Goals.{in-Some, in_default}

pub loop-c-init : goal.loop-c-init
loop-c-init c = record { setup = refl; rest = refl; clients = refl; ready = c.requires.ready }

pub apply_entry-requires-clause-ready : goal.apply_entry-requires-clause-ready
apply_entry-requires-clause-ready c =
    ready_now c.loop-c.self.setup c.args.self.now.world c.loop-c.self.world c.loop-c.invariant.ready

-- The entry of the next client is applied; there is one, since the frame has one for each client.
pub loop-c-preserved : goal.loop-c-preserved
loop-c-preserved c =
    elim c.match-get.branch [
      | in-Some w ↦ rw w.self-is
          (entered_next c.args.self.now c.loop-c.self _ c.loop-c.c c.args.f.now _ (sym (rw c.from.ensures at w.in-Some.ensures.value)) w.apply_entry.ensures c.loop-c.invariant)
      | in_default w ↦
          let past : length c.args.f.now ≤ c.loop-c.c = rw c.from.ensures at w.in_default.ensures.past in
          absurd (omega (arith, past, c.requires.whole))
    ]

pub returns-clause-world : goal.returns-clause-world
returns-clause-world c =
    entered_all c.args.self.now c.loop-c.self c.loop-c.c c.args.f.now (omega (arith, c.requires.whole)) c.loop-c.invariant

pub returns-clause-ready : goal.returns-clause-ready
returns-clause-ready c =
    subst (λ (s : Setup). IsReady s c.args.self.now.world c.loop-c.self.world) c.loop-c.invariant.setup c.loop-c.invariant.ready
