-- Distances.
use Rattle.std.specs.Prelude.{ℕ, ◌+◌, ◌*◌, List, Option, Some, None}
use Rattle.base.specs.Numbers.{number_of}
use Rattle.rule_values.specs.Parts.{parts_at}

-- Cells of 1024 units, and units.
abbrev pub cells_and_units : Option ℕ → Option ℕ → Option ℕ
cells_and_units (Some cells) (Some units) = Some (1024 * cells + units)
cells_and_units (Some cells) None = None
cells_and_units None units = None

-- A number of units where no `c` (99) stands, else a number before the first `c` and one after it.
abbrev pub dist_by : List ℕ → Option (List ℕ × List ℕ) → Option ℕ
dist_by text None = number_of text
dist_by text (Some parts) = cells_and_units (number_of parts.0) (number_of parts.1)

unfoldable pub dist_of : List ℕ → Option ℕ
dist_of text = dist_by text (parts_at 99 text)
