-- The answer to the command `check`.
use Rattle.std.specs.Prelude.{ℕ, ◌+◌, List, [], ◌∷◌, ◌++◌, if◌then◌else◌, Option, Ok, codes}
use Rattle.std.specs.Fmt.{decimal}
use Rattle.base.specs.Steps.{◌>>=◌}
use Rattle.rule_traits.specs.declared.kind.Kind.{Kind}
use Rattle.rule_traits.specs.declared.skipped.Skipped.{Skipped}
use Rattle.rule_traits.specs.declared.traits.Trait.{Trait}
use Rattle.rule_traits.specs.Traits.{all_traits, name_of, has_trait}
use Rattle.game_model.specs.declared.map.Map.{Map}
use Rattle.command_answers.specs.Step.{Step}
use Rattle.command_answers.specs.Contents.{Contents}
use Rattle.rule_commands.specs.RuleFiles.{name_at}
use Rattle.rule_commands.specs.Maps.{typed_rules, optional_map, map_lines}

-- A node that was passed over: its file, its line and its key.
unfoldable pub skipped_line : List (List ℕ) → Skipped → List ℕ
skipped_line names node =
    codes "skipped " ++ name_at node.place.file names ++ codes " " ++ decimal node.place.line
    ++ codes " " ++ node.key ++ codes "\n"

abbrev pub skipped_lines : List (List ℕ) → List Skipped → List ℕ
skipped_lines names [] = []
skipped_lines names (node ∷ rest) = skipped_line names node ++ skipped_lines names rest

-- The names of those of these traits that a kind has, each after a blank.
abbrev pub trait_names : Kind → List Trait → List ℕ
trait_names kind [] = []
trait_names kind (trait ∷ rest) =
    (if has_trait kind trait then codes " " ++ name_of trait else []) ++ trait_names kind rest

-- The names of all traits that a kind has, in the order of the table.
unfoldable pub kind_traits : Kind → List ℕ
kind_traits kind = trait_names kind all_traits

-- A kind: its number, its name, and the names of its traits.
unfoldable pub kind_line : ℕ → Kind → List ℕ
kind_line number kind =
    codes "kind " ++ decimal number ++ codes " " ++ kind.name
    ++ kind_traits kind ++ codes "\n"

abbrev pub kind_lines : ℕ → List Kind → List ℕ
kind_lines number [] = []
kind_lines number (kind ∷ rest) = kind_line number kind ++ kind_lines (number + 1) rest

-- What was passed over, then the kinds, then the map, if one is named.
abbrev pub check_lines : List (List ℕ) → List Kind × List Skipped → Option Map → List ℕ
check_lines names made checked =
    skipped_lines names made.1 ++ kind_lines 0 made.0 ++ map_lines checked ++ codes "end\n"

-- The lines of typed rules and of a map for them, or the first fault: those of the rules come
-- before those of the map.
abbrev pub check_step : (names : List (List ℕ)) → Option (List ℕ) → Contents → Step (List ℕ)
check_step names map_file contents = do
  made ← typed_rules names contents.rules
  checked ← optional_map made.0 map_file contents.map_file
  Ok (check_lines names made checked)
