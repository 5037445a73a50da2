use Rattle.std.proofs.Common.{arith}
use Rattle.game_tick.proofs.KeepsLemmas.{tick_keeps}
use Rattle.game_tick.proofs.TickLemmas.{tick_valid}
use Rattle.tick_core.proofs.ReadyLemmas.{ready_valid}
use Rattle.tick_core.proofs.game.GameSim.step.Goals as goal

pub tick-requires-clause-more : goal.tick-requires-clause-more
tick-requires-clause-more c =
    let valid = c.self.invariant.valid in
    let few = rw (← c.self.view_is) at c.requires.more in
    omega (arith, valid.most_tick, valid.pace.most, few)

pub tick-requires-clause-draws : goal.tick-requires-clause-draws
tick-requires-clause-draws c =
    let valid = c.self.invariant.valid in
    let few = rw (← c.self.view_is) at c.requires.more in
    omega (arith, valid.drawn, few)

pub tick-requires-clause-ready : goal.tick-requires-clause-ready
tick-requires-clause-ready c =
    let live = c.self.inside.live in
    ready_valid live.setup c.self.inside.steps live.world c.self.invariant.valid

-- A tick makes of a valid world one that is valid after one frame more.
pub invariant_of-self : goal.invariant_of-self
invariant_of-self c =
    let live = c.self.inside.live in
    rw c.tick.ensures
    (record {
      stands = c.self.invariant.stands;
      valid = tick_valid live.setup c.self.inside.steps live.world c.args.f.now c.self.invariant.stands.map c.self.invariant.valid;
    })

pub returns-clause-clients : goal.returns-clause-clients
returns-clause-clients c =
    let live = c.self.inside.live in
    rw (c.tick.ensures, ← c.self.view_is) (tick_keeps live.setup live.world c.args.f.now).cash.clients

pub returns-clause-keeps : goal.returns-clause-keeps
returns-clause-keeps c =
    let live = c.self.inside.live in
    rw (c.tick.ensures, ← c.self.view_is) (tick_keeps live.setup live.world c.args.f.now)
