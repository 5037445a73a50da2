use Rattle.std.proofs.Common.{◌≡◌, drop}
use Rattle.rule_traits.specs.BuildTable.{marked_by, row_of, users_in}
use Rattle.rule_traits.proofs.build_table.build_row.Given as goal

abbrev pub invariant-loop-name : goal.invariant-loop-name
invariant-loop-name l =
    marked_by (users_in l.users) l.row.items (drop l.name-index l.produces) ≡ row_of (users_in l.users) l.fn.kinds l.builder
