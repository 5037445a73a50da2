-- The steps so far were made.
use Rattle.std.proofs.Common.{◌≡◌, ◌≤◌, ◌+◌, ◌*◌}
use Rattle.drill.specs.Draft.{size}
use Rattle.drill.specs.MadeRound.{rising, with_some_entries_to}
use Rattle.drill.proofs.made_round.add_some_entries.Given as goal

abbrev pub invariant-loop-peer : goal.invariant-loop-peer
invariant-loop-peer l =
    (l.draft ≡ rising (with_some_entries_to l.told l.frame) l.peer l.initial.draft) × (size l.draft ≤ size l.initial.draft + 8 * l.peer)
