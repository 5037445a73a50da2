use Rattle.std.proofs.Common.{subst, ◌<◌}
use Rattle.world_units.proofs.Turns.{turned-arrives}
use Rattle.world_units.proofs.turning.turns_arrive.Goals as goal

pub returns : goal.returns
returns c =
    turned-arrives c.args.f c.args.d c.args.by c.args.steps
    (subst (λ x. x < 1024) c.units-facing.ensures.value c.units-facing.ensures.below_full_turn)
    (subst (λ x. x < 1024) c.units-aim.ensures.value c.units-aim.ensures.below_full_turn)
