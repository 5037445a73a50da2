-- The steps so far were made.
use Rattle.std.proofs.Common.{◌≡◌, ◌≤◌, ◌+◌}
use Rattle.drill_words.specs.declared.event.Event.TheVariants.{Tick}
use Rattle.drill.specs.Draft.{size, with_event}
use Rattle.drill.specs.MadeRound.{rising}
use Rattle.drill.proofs.made_round.add_ticks.Given as goal

abbrev pub invariant-loop-peer : goal.invariant-loop-peer
invariant-loop-peer l =
    (l.draft ≡ rising (λ peer. with_event (Tick peer)) l.peer l.initial.draft) × (size l.draft ≤ size l.initial.draft + l.peer)
