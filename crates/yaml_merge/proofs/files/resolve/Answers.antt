use Rattle.std.proofs.Common.{rules, map, sym, subst}
use Rattle.yaml_lines.specs.Trees.{none, trees_of}
use Rattle.yaml_merge.specs.Settled.{IsDistinct}
use Rattle.yaml_merge.specs.Resolving.{resolved_files}
use Rattle.yaml_merge.proofs.LimitSteps.{resolve_few, resolve_low}
use Rattle.yaml_merge.proofs.ReadableSteps.{resolve_readable}
use Rattle.yaml_merge.proofs.SettledSteps.{resolve_settled, merged_files_distinct}
use Rattle.yaml_merge.proofs.SettledSteps.{distinct_once, resolved_tops_once}
use Rattle.yaml_merge.proofs.files.resolve.Goals as goal

pub returns-clause-done : goal.returns-clause-done
unfolding resolved_files
returns-clause-done c = search rules

pub returns-clause-settled : goal.returns-clause-settled
returns-clause-settled c = resolve_settled c.args.files.now _ (returns-clause-done c)

pub returns-clause-readable : goal.returns-clause-readable
returns-clause-readable c = resolve_readable c.args.files.now _ (returns-clause-done c)

pub returns-clause-nodes : goal.returns-clause-nodes
returns-clause-nodes c = resolve_few c.args.files.now _ (returns-clause-done c)

pub returns-clause-low : goal.returns-clause-low
returns-clause-low c = resolve_low c.args.files.now _ (returns-clause-done c)

pub resolve_tops-requires : goal.resolve_tops-requires
resolve_tops-requires c =
    record { distinct = subst IsDistinct (sym (c.in_ok-tops.ensures {u = tt})) (merged_files_distinct (map trees_of c.args.files.now) none tt) }

pub remove_tops-requires : goal.remove_tops-requires
remove_tops-requires c =
    let distinct : IsDistinct (trees_of c.in_ok-tops.tops.forest) =
    subst IsDistinct (sym (c.in_ok-tops.ensures {u = tt})) (merged_files_distinct (map trees_of c.args.files.now) none tt) in
    record { once = resolved_tops_once (trees_of c.in_ok-tops.tops.forest) _ (distinct_once _ distinct) (c.in_ok-done.ensures {u = tt}).done }
