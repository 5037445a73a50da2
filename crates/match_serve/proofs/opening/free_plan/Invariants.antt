use Rattle.std.proofs.Common.{◌≡◌, ◌≤◌, replicate}
use Rattle.frame_table.specs.declared.planned.Planned.TheVariants.{Free}
use Rattle.match_serve.proofs.opening.free_plan.Given as goal

abbrev pub invariant-loop-client : goal.invariant-loop-client
invariant-loop-client l = (l.each ≡ replicate l._client Free) × (l._client ≤ l.clients)
