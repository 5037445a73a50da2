use Rattle.std.proofs.Common.{◌≡◌, ◌-◌}
use Rattle.game_orders.specs.declared.limits.TheConstants.{MAX_FRAMES}
use Rattle.match_net.specs.Playing.{telling, ticks}
use Rattle.match_net.proofs.player_round.tick_all.Given as goal

abbrev pub invariant-loop-turn : goal.invariant-loop-turn
invariant-loop-turn g l =
    ticks (MAX_FRAMES - l._turn) (record { after = g.S.Sim.after; hash = g.S.Sim.hash_of }) l.quiet
    (telling l.peer l.bytes.items)
    ≡ ticks MAX_FRAMES (record { after = g.S.Sim.after; hash = g.S.Sim.hash_of }) l.quiet
    (telling l.fn.peer l.fn.bytes.items)
