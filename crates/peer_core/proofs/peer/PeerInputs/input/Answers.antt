use Rattle.std.proofs.Common.{◌≡◌, ◌<◌, length, ap, sym, ◌∙◌, arith, Some}
use Rattle.frame_core.specs.Input.{input_of}
use Rattle.peer_core.specs.Arrived.{has_of}
use Rattle.peer_core.specs.Peer.{PeerState}
use Rattle.peer_core.specs.Entries.{all_arrived}
use Rattle.peer_core.proofs.EachLemmas.{inputs_length, input_there}
use Rattle.peer_core.proofs.MatchLemmas.{played_in_match}
use Rattle.peer_core.proofs.peer.PeerInputs.input.Goals as goal

pub input-requires : goal.input-requires
input-requires g c =
    let peer = c.args.self.now in
    let clients : c.self.inside.clients ≡ peer.clients =
    ap (λ (p : PeerState g.row.S.Denot). p.clients) c.self.view_is in
    omega (arith, c.requires, inputs_length peer.arrived peer.clients c.args.n, c.self.invariant.1, clients, ap length c.deref.ensures.value)

pub returns-clause-value : goal.returns-clause-value
returns-clause-value g c =
    let peer = c.args.self.now in
    let below : c.args.c < peer.clients = omega
    (arith, c.requires, inputs_length peer.arrived peer.clients c.args.n) in
    let arrived : all_arrived 0 c.deref.result.now ≡ peer.arrived =
    ap (all_arrived 0) c.deref.ensures.value
    ∙ ap (λ (p : PeerState g.row.S.Denot). p.arrived) c.self.view_is in
    input_there peer.arrived peer.clients c.args.c c.args.n below
    ∙ ap Some (sym (c.input.ensures ∙ ap (λ xs. input_of (has_of xs c.args.c c.args.n)) arrived))

pub returns-clause-limit : goal.returns-clause-limit
returns-clause-limit g c =
    λ played.
    played_in_match (all_arrived 0 c.self.inside.entries.items) c.args.c c.args.n c.self.invariant.0.in_match
    (ap (λ entries. input_of (has_of (all_arrived 0 entries) c.args.c c.args.n))
    (sym c.deref.ensures.value)
    ∙ sym c.input.ensures ∙ played)
