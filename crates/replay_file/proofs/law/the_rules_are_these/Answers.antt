use Rattle.replay_file.proofs.ValidLemmas.{valid_obeys}
use Rattle.replay_file.proofs.law.the_rules_are_these.Goals as goal

pub returns-clause-whole : goal.returns-clause-whole
returns-clause-whole c = λ r valid. valid_obeys r valid
