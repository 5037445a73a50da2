use Rattle.std.proofs.Common.{◌∙◌}
use Rattle.peer_core.specs.Entries.{all_arrived}
use Rattle.peer_core.specs.Peer.{peer_state}
use Rattle.peer_core.proofs.PeerLemmas.{delivered_whole, err_same}
use Rattle.peer_core.proofs.MeansLemmas.{outcome_means}
use Rattle.peer_core.proofs.peer.Peer.deliver.Goals as goal

-- What arrived stays within a match and in order, and nothing else changes.
pub invariant_of-self : goal.invariant_of-self
invariant_of-self g c =
    let p = c.self.inside in (
      delivered_whole g.S.Sim.clients_of g.S.Sim.steps
          (peer_state p.me p.clients p.lag
          (all_arrived 0 p.entries.items) p.ticked p.sealed p.sim) c.deliver_to.result
          (all_arrived 0 c.deliver_to.new.entries.items) c.args.c c.args.n c.args.e c.deliver_to.ensures.after
          (err_same c.deliver_to.result p.entries.items c.deliver_to.new.entries.items c.deliver_to.ensures.err) c.self.invariant.0,
      c.deliver_to.ensures.clients ∙ c.self.invariant.1,
    )

-- So after any answer.
pub returns-clause-rising : goal.returns-clause-rising
returns-clause-rising g c = (invariant_of-self g c).0.rising

pub returns-clause-ended : goal.returns-clause-ended
returns-clause-ended g c = (invariant_of-self g c).0.ended

pub returns-clause-means : goal.returns-clause-means
returns-clause-means g c =
    rw (← c.self.view_is)
    (outcome_means c.deliver_to.result
    (all_arrived 0 c.self.inside.entries.items) c.args.c c.args.n c.args.e c.self.invariant.0.rising
    c.deliver_to.ensures.answer)
