use Rattle.match_commands.proofs.RefusingLemmas.{saves_where, other_refused, continues_where, worlds_where, views_where, locals_where}
use Rattle.match_commands.proofs.refusing.refusals_are_exact.Goals as goal

pub returns-clause-save : goal.returns-clause-save
returns-clause-save c = saves_where

pub returns-clause-other_match : goal.returns-clause-other_match
returns-clause-other_match c = other_refused

pub returns-clause-too_few : goal.returns-clause-too_few
returns-clause-too_few c = continues_where

pub returns-clause-worlds : goal.returns-clause-worlds
returns-clause-worlds c = worlds_where

pub returns-clause-view : goal.returns-clause-view
returns-clause-view c = views_where

pub returns-clause-local : goal.returns-clause-local
returns-clause-local c = locals_where
