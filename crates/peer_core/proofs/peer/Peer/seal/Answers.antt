use Rattle.std.proofs.Common.{arith, subst}
use Rattle.std.proofs.lemmas.Grind.{common_steps}
use Rattle.peer_core.specs.Peer.{PeerState, IsPeer}
use Rattle.peer_core.proofs.SealLemmas.{means_by}
use Rattle.peer_core.proofs.peer.Peer.seal.Goals as goal

-- What each answer means follows from the answer and the peer after it.
pub returns-then-left-clause-answer : goal.returns-then-left-clause-answer
returns-then-left-clause-answer g c = grind (arith, common_steps)

pub returns-then-left-clause-after : goal.returns-then-left-clause-after
returns-then-left-clause-after g c = grind (arith, common_steps)

pub returns-then-left-clause-means : goal.returns-then-left-clause-means
returns-then-left-clause-means g c =
    means_by g.S.Sim.clients_of g.S.Sim.steps c.args.self.now _ _
    (subst (IsPeer g.S.Sim.clients_of g.S.Sim.steps) c.self.view_is c.self.invariant.0)
    (returns-then-left-clause-answer g c) (returns-then-left-clause-after g c)

pub returns-then-self-eq-MAX_FRAMES-clause-answer : goal.returns-then-self-eq-MAX_FRAMES-clause-answer
returns-then-self-eq-MAX_FRAMES-clause-answer g c = grind (arith, common_steps)

pub returns-then-self-eq-MAX_FRAMES-clause-after : goal.returns-then-self-eq-MAX_FRAMES-clause-after
returns-then-self-eq-MAX_FRAMES-clause-after g c = grind (arith, common_steps)

pub returns-then-self-eq-MAX_FRAMES-clause-means : goal.returns-then-self-eq-MAX_FRAMES-clause-means
returns-then-self-eq-MAX_FRAMES-clause-means g c =
    means_by g.S.Sim.clients_of g.S.Sim.steps c.args.self.now _ _
    (subst (IsPeer g.S.Sim.clients_of g.S.Sim.steps) c.self.view_is c.self.invariant.0)
    (returns-then-self-eq-MAX_FRAMES-clause-answer g c)
    (returns-then-self-eq-MAX_FRAMES-clause-after g c)

pub returns-then-self-from-clause-answer : goal.returns-then-self-from-clause-answer
returns-then-self-from-clause-answer g c = grind (arith, common_steps)

pub returns-then-self-from-clause-after : goal.returns-then-self-from-clause-after
returns-then-self-from-clause-after g c = grind (arith, common_steps)

pub returns-then-self-from-clause-means : goal.returns-then-self-from-clause-means
returns-then-self-from-clause-means g c =
    means_by g.S.Sim.clients_of g.S.Sim.steps c.args.self.now _ _
    (subst (IsPeer g.S.Sim.clients_of g.S.Sim.steps) c.self.view_is c.self.invariant.0)
    (returns-then-self-from-clause-answer g c) (returns-then-self-from-clause-after g c)

pub returns-clause-answer : goal.returns-clause-answer
returns-clause-answer g c = grind (arith, common_steps)

pub returns-clause-after : goal.returns-clause-after
returns-clause-after g c = grind (arith, common_steps)

pub returns-clause-means : goal.returns-clause-means
returns-clause-means g c =
    means_by g.S.Sim.clients_of g.S.Sim.steps c.args.self.now _ _
    (subst (IsPeer g.S.Sim.clients_of g.S.Sim.steps) c.self.view_is c.self.invariant.0)
    (returns-clause-answer g c) (returns-clause-after g c)
