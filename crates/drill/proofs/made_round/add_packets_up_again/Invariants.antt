-- The steps that are left make of what there is what all make of the first.
use Rattle.std.proofs.Common.{◌≡◌, ◌≤◌, ◌+◌}
use Rattle.drill_words.specs.declared.event.Event.TheVariants.{Up}
use Rattle.drill.specs.Draft.{size, with_event}
use Rattle.drill.specs.MadeRound.{falling}
use Rattle.drill.proofs.made_round.add_packets_up_again.Given as goal

abbrev pub invariant-loop-client : goal.invariant-loop-client
invariant-loop-client l =
    (falling (λ client. with_event (Up (l.first + client))) l.client l.draft ≡ falling (λ client. with_event (Up (l.first + client))) l.sealing l.initial.draft)
    × (size l.draft + l.client ≤ size l.initial.draft + l.sealing)
