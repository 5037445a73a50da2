use Rattle.std.proofs.Common.{◌≡◌}
use Rattle.actor_table.proofs.table.ActorTable.mark_all.Given as goal

abbrev pub invariant-loop-i : goal.invariant-loop-i
invariant-loop-i l = l.self ≡ l.initial.self
