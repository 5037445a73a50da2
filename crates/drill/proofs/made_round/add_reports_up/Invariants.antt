-- The steps so far were made.
use Rattle.std.proofs.Common.{◌≡◌, ◌≤◌, ◌+◌}
use Rattle.drill_words.specs.declared.event.Event.TheVariants.{Up}
use Rattle.drill.specs.Draft.{size, with_event}
use Rattle.drill.specs.MadeRound.{rising}
use Rattle.drill.proofs.made_round.add_reports_up.Given as goal

abbrev pub invariant-loop-peer : goal.invariant-loop-peer
invariant-loop-peer l =
    (l.draft ≡ rising (λ peer. with_event (Up (l.first + peer))) l.peer l.initial.draft) × (size l.draft ≤ size l.initial.draft + l.peer)
