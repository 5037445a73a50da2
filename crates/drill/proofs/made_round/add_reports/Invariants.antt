-- The steps so far were made.
use Rattle.std.proofs.Common.{◌≡◌, ◌≤◌, ◌+◌, ◌*◌}
use Rattle.drill_words.specs.declared.event.Event.TheVariants.{Report}
use Rattle.drill.specs.Draft.{size, with_packet}
use Rattle.drill.specs.MadeRound.{rising}
use Rattle.drill.proofs.made_round.add_reports.Given as goal

abbrev pub invariant-loop-peer : goal.invariant-loop-peer
invariant-loop-peer l =
    (l.draft ≡ rising (λ peer. with_packet (Report peer)) l.peer l.initial.draft) × (size l.draft ≤ size l.initial.draft + 2 * l.peer)
