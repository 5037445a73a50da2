use Rattle.std.proofs.Common.{◌∙◌}
use Rattle.peer_core.specs.Entries.{all_arrived}
use Rattle.peer_core.specs.Peer.{peer_state}
use Rattle.peer_core.proofs.PeerLemmas.{delivered_whole, err_same}
use Rattle.peer_core.proofs.peer.Peer.receive.Goals as goal

-- What arrived stays within a match and in order, and nothing else changes.
pub invariant_of-self : goal.invariant_of-self
invariant_of-self g c =
    let p = c.self.inside in (
      delivered_whole g.S.Sim.clients_of g.S.Sim.steps
          (peer_state p.me p.clients p.lag
          (all_arrived 0 p.entries.items) p.ticked p.sealed p.sim) c.receive_from.result
          (all_arrived 0 c.receive_from.new.entries.items) c.args.c c.args.n c.args.e.now c.receive_from.ensures.after
          (err_same c.receive_from.result p.entries.items c.receive_from.new.entries.items c.receive_from.ensures.err) c.self.invariant.0,
      c.receive_from.ensures.clients ∙ c.self.invariant.1,
    )
