use Rattle.match_commands.proofs.linking.play_made.Goals as goal

-- There is what a player plays by.
pub returns-in-Ok-clause-plays : goal.returns-in-Ok-clause-plays
returns-in-Ok-clause-plays g c = rw (c.in-Ok.is) (rw c.deref.ensures.value at c.play_over.ensures.plays)
