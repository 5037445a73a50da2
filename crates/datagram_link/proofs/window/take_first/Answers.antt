use Rattle.std.proofs.Common.{◌≡◌, ◌∷◌, Some}
use Rattle.datagram_link.proofs.WindowLemmas.{first_taken}
use Rattle.datagram_link.proofs.window.take_first.Goals as goal

pub returns-in-Some-Some : goal.returns-in-Some-Some
returns-in-Some-Some c =
    let first : c.args.places.now.items ≡ Some c.in-Some-Some.payload ∷ c.pop_front.new.self.items =
    rw (c.in-Some-Some.is, c.in-Some-Some.field-0-is) at c.pop_front.ensures.items in
    first_taken c.in-Some-Some.payload _ _ _ first c.push_back_reserved.ensures.items
