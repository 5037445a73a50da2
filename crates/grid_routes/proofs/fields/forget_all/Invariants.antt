use Rattle.grid_routes.specs.Kept.{AreForgotten}
use Rattle.grid_routes.proofs.fields.forget_all.Given as goal

abbrev pub invariant-loop-place : goal.invariant-loop-place
invariant-loop-place l = AreForgotten l.fn.kept.items l.kept.items l.place
