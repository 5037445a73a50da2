-- What is added so far and what is left are together the whole.
use Rattle.std.proofs.Common.{◌≡◌, ◌++◌, drop, string_bytes}
use Rattle.drill.specs.Report.{peer_lines}
use Rattle.drill.proofs.closing.add_peers.Given as goal

abbrev pub invariant-loop-p : goal.invariant-loop-p
invariant-loop-p g l =
    string_bytes l.text ++ peer_lines g.S.Sim.hash_of g.S.Sim.summary_of l.p (drop l.p l.peers)
    ≡ string_bytes l.initial.text ++ peer_lines g.S.Sim.hash_of g.S.Sim.summary_of 0 l.peers
