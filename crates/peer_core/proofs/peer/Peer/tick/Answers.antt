use Rattle.std.proofs.Common.{refl, ap, sym, ◌∙◌, subst}
use Rattle.peer_core.specs.Arrived.{ready_by, frame_by, IsRising}
use Rattle.peer_core.specs.Entries.{all_arrived}
use Rattle.peer_core.specs.Peer.{PeerState, peer_state}
use Rattle.peer_core.proofs.PeerLemmas.{ticked_whole, ticked_means, not_yet_means, over_means}
use Rattle.peer_core.proofs.peer.Peer.tick.Goals as goal

-- A frame that is ready is one of a match, so the count stays within the limit.
pub invariant_of-self : goal.invariant_of-self
invariant_of-self g c =
    let p = c.self.inside in (
      ticked_whole g.S.Sim.clients_of g.S.Sim.steps
          (peer_state p.me p.clients p.lag
          (all_arrived 0 p.entries.items) p.ticked p.sealed p.sim) c.step.new.self
          (c.in-Yes.ensures.limit refl) c.step.ensures.clients c.step.ensures.counted c.self.invariant.0,
      c.self.invariant.1,
    )

pub returns-in-Yes-clause-means : goal.returns-in-Yes-clause-means
returns-in-Yes-clause-means g c =
    let p = c.self.inside in
    rw (← c.self.view_is)
    (ticked_means g.S.Sim.after (peer_state p.me p.clients p.lag
    (all_arrived 0 p.entries.items) p.ticked p.sealed p.sim) c.step.new.self
    c.self.invariant.0.rising
    (c.in-Yes.ensures.value
    ∙ ap (λ (peer : PeerState g.row.S.Denot). ready_by peer.arrived peer.clients p.ticked)
    (sym c.self.view_is))
    (c.step.ensures.world ∙ ap (g.S.Sim.after p.sim) (c.fill_frame.ensures.value
    ∙ ap (λ entries. frame_by (all_arrived 0 entries) p.clients p.ticked) c.deref.ensures.value)))

pub returns-in-NotYet-clause-means : goal.returns-in-NotYet-clause-means
returns-in-NotYet-clause-means g c =
    let P : PeerState g.row.S.Denot → Type 0 = λ peer. IsRising peer.arrived in
    not_yet_means g.S.Sim.after c.args.self.now c.in-NotYet.c
    (subst P c.self.view_is c.self.invariant.0.rising)
    (c.in-NotYet.ensures.value ∙ ap (ready_by c.args.self.now.arrived c.args.self.now.clients)
    (ap (λ (peer : PeerState g.row.S.Denot). peer.ticked) c.self.view_is))

pub returns-in-Over-clause-means : goal.returns-in-Over-clause-means
returns-in-Over-clause-means g c =
    let P : PeerState g.row.S.Denot → Type 0 = λ peer. IsRising peer.arrived in
    over_means g.S.Sim.after c.args.self.now (subst P c.self.view_is c.self.invariant.0.rising)
    (c.in-Over.ensures.value ∙ ap (ready_by c.args.self.now.arrived c.args.self.now.clients)
    (ap (λ (peer : PeerState g.row.S.Denot). peer.ticked) c.self.view_is))
