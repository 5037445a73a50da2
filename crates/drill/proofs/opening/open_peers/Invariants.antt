-- The peers so far and those that are left are together all peers.
use Rattle.std.proofs.Common.{◌≡◌, ◌-◌, ◌++◌}
use Rattle.drill.specs.Opening.{fresh_peers}
use Rattle.drill.proofs.opening.open_peers.Given as goal

abbrev pub invariant-loop-me : goal.invariant-loop-me
invariant-loop-me g l =
    l.peers.items ++ fresh_peers l.clients l.lag (g.M.Maker.made l.maker l.seed l.clients) l.me (l.clients - l.me)
    ≡ fresh_peers l.clients l.lag (g.M.Maker.made l.maker l.seed l.clients) 0 l.clients
