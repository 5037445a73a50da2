use Rattle.std.proofs.Common.{ap, is_some}
use Rattle.yaml_merge.proofs.keeping.is_kept.Goals as goal

pub returns-in-Some : goal.returns-in-Some
returns-in-Some c = ap is_some (c.in-Some.ensures {u = tt})
