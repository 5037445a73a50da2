use Rattle.std.proofs.Common.{◌≡◌, ℕ, List, drop}
use Rattle.rule_traits.specs.BuildTable.{users_in, with_queues}
use Rattle.rule_traits.proofs.build_table.add_queues.Given as goal

abbrev pub invariant-loop-queue : goal.invariant-loop-queue
invariant-loop-queue l =
    (name : List ℕ) →
    with_queues l.number (drop l.queue-index l.queues) name (users_in l.users name)
    ≡ with_queues l.number l.queues name (users_in l.initial.users name)
