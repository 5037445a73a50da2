use Rattle.std.proofs.Common.{◌≡◌, Some, refl, ◌∙◌}
use Rattle.motion.proofs.ChangeLemmas.{found_moved, table_part_moved}
use Rattle.motion.proofs.towards.set_out.Goals as goal

pub set_leg-requires : goal.set_leg-requires
set_leg-requires c =
    rw (found_moved c.args.t.now c.move_to.new.self c.args.id c.in-Some.a.now c.args.next c.in-Some.ensures c.move_to.ensures) refl

pub returns : goal.returns
returns c a found =
    let same : Some c.in-Some.a.now ≡ Some a = c.in-Some.ensures ∙ found in
    table_part_moved c.args.t.now c.move_to.new.self c.set_leg.new.self c.args.id a c.args.next _ _ c.len-ids_rise.ensures.list found (cc) c.move_to.ensures c.set_leg.ensures
