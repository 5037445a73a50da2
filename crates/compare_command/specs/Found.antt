-- The differences that were found so far.
use Rattle.std.specs.Prelude.{ℕ, ◌+◌, List, [], ◌++◌, length}
use Rattle.compare_command.specs.Difference.{Difference}
use Rattle.compare_command.specs.Lines.{lines_of}

-- Their lines, and how many they are.
pub record FoundState : Type 0 where
  pub text : List ℕ
  pub count : ℕ

abbrev pub nothing_found : FoundState
nothing_found = record { text = []; count = 0 }

-- After a line was added.
abbrev pub with_line : FoundState → List ℕ → FoundState
with_line found line = record { text = found.text ++ line; count = found.count + 1 }

-- After these were found too.
abbrev pub with_found : FoundState → List Difference → FoundState
with_found found differences =
    record {
      text = found.text ++ lines_of differences;
      count = found.count + length differences;
    }
