use Rattle.std.proofs.Common.{◌≡◌, Some, ◌∙◌}
use Rattle.motion.proofs.ChangeLemmas.{table_part_body}
use Rattle.motion.proofs.towards.turn.Goals as goal

pub returns : goal.returns
returns c a found =
    let same : Some c.in-Some.a.now ≡ Some a = c.in-Some.ensures ∙ found in
    table_part_body c.args.t.now c.set_facing.new.self c.args.id a _ _ c.len-ids_rise.ensures.list found (cc) c.set_facing.ensures
