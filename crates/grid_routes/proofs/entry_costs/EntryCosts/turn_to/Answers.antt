use Rattle.std.proofs.Common.{◌∙◌}
use Rattle.grid_routes.proofs.Entering.{turned-footing}
use Rattle.grid_routes.proofs.entry_costs.EntryCosts.turn_to.Goals as goal

pub invariant_of-self : goal.invariant_of-self
invariant_of-self c =
    let old = c.self.invariant in
    let first = c.renew.ensures in
    let second = c.renew-2.ensures in
    record {
      sound = record { size = old.sound.size; cheap = c.requires };
      size = record {
        width = second.size.width ∙ first.size.width ∙ old.size.width;
        height = second.size.height ∙ first.size.height ∙ old.size.height;
      };
      footing = turned-footing c.self.inside.terrain c.self.inside.blocks c.self.inside.goal c.args.goal c.self.inside.surface
          c.renew.new.self c.renew-2.new.self old.footing first second;
      charged = c.charges-self-inside.ensures;
    }
