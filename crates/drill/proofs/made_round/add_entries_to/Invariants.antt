-- The steps that are left make of what there is what all make of the first.
use Rattle.std.proofs.Common.{◌≡◌, ◌≤◌, ◌+◌}
use Rattle.drill_words.specs.declared.event.Event.TheVariants.{Down}
use Rattle.drill.specs.Draft.{size, with_event}
use Rattle.drill.specs.MadeRound.{falling}
use Rattle.drill.proofs.made_round.add_entries_to.Given as goal

abbrev pub invariant-loop-client : goal.invariant-loop-client
invariant-loop-client l =
    (falling (λ client. with_event (Down l.peer client l.frame)) l.client l.draft ≡ falling (λ client. with_event (Down l.peer client l.frame)) l.told l.initial.draft)
    × (size l.draft + l.client ≤ size l.initial.draft + l.told)
