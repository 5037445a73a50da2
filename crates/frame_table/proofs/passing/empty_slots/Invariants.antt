use Rattle.std.proofs.Common.{◌≡◌, replicate, Some, [], ◌∷◌}
use Rattle.frame_core.specs.Column.{no_column}
use Rattle.frame_table.proofs.passing.empty_slots.Given as goal

abbrev pub invariant-loop-client : goal.invariant-loop-client
invariant-loop-client l = l.slots.items ≡ replicate l._client (Some (no_column ∷ []))
