-- What is found so far and what is left are together all.
use Rattle.std.proofs.Common.{◌≡◌, ◌≤◌, ◌+◌, ◌-◌, drop, length}
use Rattle.compare_command.specs.Found.{with_found}
use Rattle.compare_command.specs.Merging.{merged}
use Rattle.compare_command.proofs.actors.compare_actors.Given as goal

abbrev pub invariant-loop-i : goal.invariant-loop-i
invariant-loop-i l =
    (with_found l.found (merged (drop l.i l.actors) (drop l.j l.others))
    ≡ with_found l.initial.found (merged l.actors l.others))
    × (l.i ≤ length l.actors) × (l.j ≤ length l.others)

abbrev pub decreases-loop-i : goal.decreases-loop-i
decreases-loop-i l = (length l.actors - l.i) + (length l.others - l.j)
