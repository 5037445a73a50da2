use Rattle.compare_command.proofs.SaveLawLemmas.{equal_none, saves_equal}
use Rattle.compare_command.proofs.law.equal_saves_have_no_difference.Goals as goal

pub returns-clause-equal : goal.returns-clause-equal
returns-clause-equal c = λ setup a b saved saved' none. saves_equal setup a b saved saved' none

pub returns-clause-none : goal.returns-clause-none
returns-clause-none c = λ setup a b saved same. equal_none setup a b saved same
