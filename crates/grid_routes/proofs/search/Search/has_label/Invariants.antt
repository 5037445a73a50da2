use Rattle.std.proofs.Common.{◌≡◌, ℕ, ◌<◌}
use Rattle.world_units.specs.declared.cell.CPos.{CPos}
use Rattle.grid_routes.specs.Labels.{label_of}
use Rattle.grid_routes.specs.Held.{IsAt}
use Rattle.grid_routes.proofs.search.Search.has_label.Given as goal

abbrev pub invariant-loop-i : goal.invariant-loop-i
invariant-loop-i l =
    (i : ℕ) (p : CPos) → i < l.i → IsAt l.self.buckets l.bucket i p → label_of l.self.field.labels p ≡ l.label → ⊥
