use Rattle.std.proofs.Common.{arith}
use Rattle.yaml_lines.specs.Trees.{trees_of}
use Rattle.yaml_merge.proofs.KeptSteps.{next_moved, next_kept, next_long, next_stay, next_lighter}
use Rattle.yaml_merge.proofs.SettledSteps.{distinct_once}
use Rattle.yaml_merge.proofs.keeping.keep.Goals as goal

pub set_at-requires : goal.set_at-requires
set_at-requires c =
    let next = next_moved (trees_of c.args.tops.now.forest) _ _ _ _ c.as_slice-in-vacant.ensures.value (c.in_ok-at.ensures {u = tt}).next in
    omega (arith, next.place, c.vacant.invariant.long)

pub vacant-preserved : goal.vacant-preserved
vacant-preserved c =
    let told = c.vacant.invariant in
    let tops = trees_of c.args.tops.now.forest in
    let next = next_moved tops _ _ _ _ c.as_slice-in-vacant.ensures.value (c.in_ok-at.ensures {u = tt}).next in
    record {
      are_kept = next_kept tops c.vacant.kept.items _ _ _ (distinct_once _ c.requires.distinct) told.long next c.set_at.ensures told.are_kept;
      long = next_long tops c.vacant.kept.items _ _ _ told.long c.set_at.ensures;
      stay = next_stay tops c.args.kept.now.items c.vacant.kept.items _ _ _ told.long next c.set_at.ensures told.stay;
    }

pub vacant-smaller : goal.vacant-smaller
vacant-smaller c =
    let told = c.vacant.invariant in
    let tops = trees_of c.args.tops.now.forest in
    let next = next_moved tops _ _ _ _ c.as_slice-in-vacant.ensures.value (c.in_ok-at.ensures {u = tt}).next in
    next_lighter tops c.vacant.kept.items _ _ _ told.long next c.set_at.ensures
