use Rattle.yaml_merge.proofs.LawSteps.{child_wins, empty_gives_way, parent_wins}
use Rattle.yaml_merge.proofs.laws.values_win.Goals as goal

pub returns-clause-child : goal.returns-clause-child
returns-clause-child c = child_wins

pub returns-clause-empty : goal.returns-clause-empty
returns-clause-empty c = empty_gives_way

pub returns-clause-parent : goal.returns-clause-parent
returns-clause-parent c = parent_wins
