use Rattle.std.proofs.Common.{◌≡◌, ℕ, List, [], drop}
use Rattle.rule_traits.specs.BuildTable.{users_in, with_kinds}
use Rattle.rule_traits.proofs.build_table.queue_users.Given as goal

abbrev pub invariant-loop-number : goal.invariant-loop-number
invariant-loop-number l =
    (name : List ℕ) →
    with_kinds l.number (drop l.number l.kinds) name (users_in l.users name) ≡ with_kinds 0 l.kinds name []
