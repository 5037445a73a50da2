-- Cells, as two numbers up to 255 with a comma between them.
use Rattle.std.specs.Prelude.{ℕ, nat_lt, List, Option, Some, None, if◌then◌else◌}
use Rattle.base.specs.Numbers.{number_of}
use Rattle.yaml_lines.specs.Blanks.{trim}
use Rattle.rule_values.specs.Parts.{parts_at}

abbrev pub up_to_255 : Option ℕ → Option ℕ
up_to_255 (Some n) = if nat_lt n 256 then Some n else None
up_to_255 None = None

-- A number up to 255, with blanks round it or none.
unfoldable pub coordinate_of : List ℕ → Option ℕ
coordinate_of text = up_to_255 (number_of (trim text))

abbrev pub pair_of : Option ℕ → Option ℕ → Option (ℕ × ℕ)
pair_of (Some x) (Some y) = Some (x, y)
pair_of (Some x) None = None
pair_of None y = None

abbrev pub cell_by : Option (List ℕ × List ℕ) → Option (ℕ × ℕ)
cell_by None = None
cell_by (Some parts) = pair_of (coordinate_of parts.0) (coordinate_of parts.1)

-- The coordinates before and after the first comma (44).
unfoldable pub cell_of : List ℕ → Option (ℕ × ℕ)
cell_of text = cell_by (parts_at 44 text)
