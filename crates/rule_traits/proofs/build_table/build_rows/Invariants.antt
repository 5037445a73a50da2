use Rattle.std.proofs.Common.{◌≡◌, length, map, take}
use Rattle.rule_traits.specs.BuildTable.{row_of, users_in}
use Rattle.rule_traits.proofs.build_table.build_rows.Given as goal

abbrev pub invariant-loop-kind : goal.invariant-loop-kind
invariant-loop-kind l =
    l.rows ≡ map (row_of (users_in l.users) (length l.kinds)) (take l.kind-index l.kinds)
