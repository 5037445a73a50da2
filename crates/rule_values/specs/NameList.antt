-- Lists of names.
use Rattle.std.specs.Prelude.{ℕ, List, ◌∷◌, map, ◌==◌, if◌then◌else◌}
use Rattle.std.specs.List.{filter, slice_split}
use Rattle.base.specs.Lines.{has_bytes}
use Rattle.yaml_lines.specs.Blanks.{trim}
use Rattle.rule_values.specs.declared.name_list.Names.{Names}

-- The parts between commas (44), trimmed of blanks, without the empty ones.
unfoldable pub names_of : List ℕ → List (List ℕ)
names_of text = filter has_bytes (map trim (slice_split (λ b. b == 44) text))

-- A name before others, where it is not empty.
abbrev pub with_name : List ℕ → List (List ℕ) → List (List ℕ)
with_name name names = if has_bytes name then name ∷ names else names

-- The names that an iterator has still to give.
abbrev pub names_left : Names → List (List ℕ)
names_left it = names_of it.rest.now
