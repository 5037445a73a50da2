use Rattle.std.proofs.Common.{◌≡◌, drop}
use Rattle.rule_traits.specs.BuildTable.{marked}
use Rattle.rule_traits.proofs.build_table.mark.Given as goal

abbrev pub invariant-loop-user : goal.invariant-loop-user
invariant-loop-user l = marked l.row (drop l.user-index l.users) ≡ marked l.initial.row l.users
