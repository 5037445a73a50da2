use Rattle.std.proofs.Common.{◌∙◌}
use Rattle.production.proofs.Living.{any_living}
use Rattle.production.proofs.needs.has_kind.Goals as goal

pub returns : goal.returns
returns c =
    rw c.of_kind.ensures at c.has_living.ensures ∙ any_living c.args.t.now.actors c.args.client c.args.kind c.len-ids_rise.ensures.list.rise
