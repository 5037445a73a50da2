-- The steps so far were made.
use Rattle.std.proofs.Common.{◌≡◌, ◌≤◌, ◌+◌, ◌*◌}
use Rattle.drill_words.specs.declared.event.Event.TheVariants.{Down}
use Rattle.drill.specs.Draft.{size, with_event_unless_lost}
use Rattle.drill.specs.MadeRound.{rising}
use Rattle.drill.proofs.made_round.add_some_entries_to.Given as goal

abbrev pub invariant-loop-client : goal.invariant-loop-client
invariant-loop-client l =
    (l.draft ≡ rising (λ client. with_event_unless_lost (Down l.peer client l.frame)) l.client l.initial.draft) × (size l.draft ≤ size l.initial.draft + 2 * l.client)
