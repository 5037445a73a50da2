use Rattle.std.proofs.Common.{◌≡◌, ◌-◌, ◌++◌}
use Rattle.match_net.specs.Playing.{sealed_bytes}
use Rattle.match_net.proofs.player_round.seal_all.Given as goal

abbrev pub invariant-loop-n : goal.invariant-loop-n
invariant-loop-n g l =
    l.bytes.items
    ++ sealed_bytes (g.P.OrderSource.orders_of l.plays l.peer.world l.peer.me) l.n (l.upto - l.n)
    ≡ l.fn.bytes.items
    ++ sealed_bytes (g.P.OrderSource.orders_of l.plays l.peer.world l.peer.me) l.from
    (l.upto - l.from)
