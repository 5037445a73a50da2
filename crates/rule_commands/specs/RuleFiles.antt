-- Rule files as one tree, and the answer to the command `yaml`.
use Rattle.std.specs.Prelude.{ℕ, ◌+◌, List, [], ◌∷◌, ◌++◌, Option, None, Some, Result, Ok, Err}
use Rattle.std.specs.Prelude.{unwrap_or, slice_get}
use Rattle.base.specs.Steps.{◌>>=◌}
use Rattle.yaml_lines.specs.declared.place.Place.{Place}
use Rattle.yaml_lines.specs.declared.fault.LineFault.{LineFault}
use Rattle.yaml_lines.specs.Fault as line
use Rattle.yaml_lines.specs.Trees.{Trees, flat}
use Rattle.yaml_lines.specs.Built.{parsed}
use Rattle.yaml_lines.specs.Printed.{printed}
use Rattle.yaml_merge.specs.declared.fault.MergeFault.{MergeFault}
use Rattle.yaml_merge.specs.Fault as merge
use Rattle.yaml_merge.specs.Resolving.{resolved_files}
use Rattle.command_answers.specs.Reply.{Reply, refusal}
use Rattle.command_answers.specs.Step.{Step}

-- The name of the file with this number.
abbrev pub name_at : ℕ → List (List ℕ) → List ℕ
name_at file names = unwrap_or (slice_get names file) []

-- A fault in the rule files: the line at fault, and the cause. Only out of memory has no place, and
-- no definition's fault is that one.
abbrev pub fault_reply : (names : List (List ℕ)) → Option Place → (cause : List ℕ) → Reply
fault_reply names None cause = refusal [] 0 cause
fault_reply names (Some place) cause = refusal (name_at place.file names) place.line cause

-- The forest of a file's lines, or its first line fault.
abbrev pub line_step : List (List ℕ) → Result Trees LineFault → Step Trees
line_step names (Ok forest) = Ok forest
line_step names (Err fault) = Err (fault_reply names (line.place_of fault) (line.cause_of fault))

-- The forests of some files, numbered from `file` on, after those of the files before. The first
-- file with a fault in its lines decides.
abbrev pub parsed_after :
    List (List ℕ) → (before : List Trees) → (file : ℕ) → List (List ℕ) → Step (List Trees)
parsed_after names before file [] = Ok before
parsed_after names before file (bytes ∷ contents) = do
  forest ← line_step names (parsed file bytes)
  parsed_after names (before ++ forest ∷ []) (file + 1) contents

abbrev pub parsed_files : (names contents : List (List ℕ)) → Step (List Trees)
parsed_files names contents = parsed_after names [] 0 contents

abbrev pub merge_step : List (List ℕ) → Result Trees MergeFault → Step Trees
merge_step names (Ok forest) = Ok forest
merge_step names (Err fault) =
    Err (fault_reply names (merge.place_of fault) (merge.cause_of fault))

-- The files as one resolved forest, or the first fault: those in lines come before those in
-- merging.
unfoldable pub resolved_rules : List (List ℕ) → List (List ℕ) → Step Trees
resolved_rules names contents = do
  forests ← parsed_files names contents
  merge_step names (resolved_files forests)

-- The resolved forest as text.
abbrev pub yaml_step : (names contents : List (List ℕ)) → Step (List ℕ)
yaml_step names contents = do
  forest ← resolved_rules names contents
  Ok (printed (flat 0 forest))
