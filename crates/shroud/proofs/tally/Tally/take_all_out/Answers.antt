use Rattle.std.proofs.Common.{sym, ◌∙◌}
use Rattle.shroud.proofs.TallyLemmas.{none_left}
use Rattle.shroud.proofs.tally.Tally.take_all_out.Goals as goal

pub returns-clause-left : goal.returns-clause-left
returns-clause-left c =
    none_left c.loop-first.self.lists.left (sym c.first.ensures ∙ c.in_default.is)
