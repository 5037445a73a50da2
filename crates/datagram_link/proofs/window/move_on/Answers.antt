use Rattle.std.proofs.Common.{refl, sym, ◌∙◌, arith}
use Rattle.datagram_link.proofs.WindowLemmas.{run_le, moved_none}
use Rattle.datagram_link.proofs.window.move_on.Goals as goal

pub loop-payload-init : goal.loop-payload-init
loop-payload-init c =
    let short = run_le c.args.places.now.items in
    let few = c.requires.few in
    let room = c.requires.room in
    record {
      count = omega arith;
      places = refl;
      ready = refl;
      room = omega arith;
      few = omega arith;
    }

pub returns-clause-places : goal.returns-clause-places
returns-clause-places c =
    let none = c.in_default.ensures in
    none.1 ∙ sym (moved_none c.loop-payload.places.items none.0) ∙ c.loop-payload.invariant.places
