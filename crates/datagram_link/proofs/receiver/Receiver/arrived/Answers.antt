use Rattle.std.proofs.Common.{◌≡◌, false, sym, ◌∙◌, arith}
use Rattle.datagram_link.specs.Receiver.{IsReceiver, is_too_far}
use Rattle.datagram_link.proofs.ReceiverLemmas.{near_number, receiver_filled, receiver_bound}
use Rattle.datagram_link.proofs.ReceiverLemmas.{receiver_moved}
use Rattle.datagram_link.proofs.receiver.Receiver.arrived.Goals as goal

pub overflow_add-self : goal.overflow_add-self
overflow_add-self c =
    let next = c.self.inside.next in
    let places = c.put_payload-2.new.places.items in
    let far : is_too_far c.args.self.now c.args.number ≡ false =
    sym c.is_too_far.ensures ∙ c.if-is_too_far.false in
    let near = near_number c.args.self.now c.args.number far (omega arith) in
    let is = c.if-number-self.false in
    let whole : IsReceiver next places =
    receiver_filled next 0 _ c.self.inside.window.items places c.self.invariant (omega arith)
    c.put_payload-2.ensures.items in
    let bound = receiver_bound next places whole (omega arith) in
    let count = c.move_on-count.ensures.count in
    omega arith

pub invariant_of-self-2 : goal.invariant_of-self-2
invariant_of-self-2 c =
    let next = c.self.inside.next in
    let places = c.put_payload-2.new.places.items in
    let far : is_too_far c.args.self.now c.args.number ≡ false =
    sym c.is_too_far.ensures ∙ c.if-is_too_far.false in
    let near = near_number c.args.self.now c.args.number far (omega arith) in
    let is = c.if-number-self.false in
    let whole : IsReceiver next places =
    receiver_filled next 0 _ c.self.inside.window.items places c.self.invariant (omega arith)
    c.put_payload-2.ensures.items in
    rw c.move_on-count.ensures.count
    (receiver_moved next places c.move_on-count.new.places.items whole c.move_on-count.ensures.places)

pub returns-clause-places : goal.returns-clause-places
returns-clause-places c = (invariant_of-self-2 c).places
