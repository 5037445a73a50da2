use Rattle.std.proofs.Common.{ap, ◌∙◌}
use Rattle.shroud.specs.Tally.{TallyState, shroud_of}
use Rattle.shroud.proofs.ShownLemmas.{shows_nothing}
use Rattle.shroud.proofs.shroud.Shroud.create.Goals as goal

pub returns : goal.returns
returns c =
    ap (λ (t : TallyState). shroud_of t 0) c.in_ok-create.ensures
    ∙ shows_nothing c.args.rules.value c.args.w c.args.h c.args.clients
