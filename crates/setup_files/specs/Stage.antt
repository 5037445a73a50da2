-- The files of a setup, and what they make.
use Rattle.std.specs.Prelude.{◌≡◌, ℕ, ◌≤◌, nat_lt, Bool, true, false, if◌then◌else◌}
use Rattle.std.specs.Prelude.{List, [], ◌∷◌, ◌++◌, length, Option, None, Some, Ok, Err}
use Rattle.std.specs.Prelude.{IfSome}
use Rattle.setup_files.specs.declared.limits.TheConstants.{MAX_RULE_FILES}
use Rattle.setup_files.specs.declared.making.Made.{Made}
use Rattle.setup_files.specs.Reading.{Read, made_of}

-- The bytes of the rule files and of the map, and what they make, once they were read.
pub record StageState : Type 0 where
  pub rules : List (List ℕ)
  pub map_file : Option (List ℕ)
  pub made : Option Made

-- What holds of every stage: it has no more rule files than a setup may have, and what it has made
-- is what its files make.
pub record IsStage (stage : StageState) : Type 0 where
  pub files : length stage.rules ≤ MAX_RULE_FILES
  pub reads : IfSome stage.made (λ made. made_of stage.rules stage.map_file ≡ Ok made)

abbrev pub no_files : StageState
no_files = record { rules = []; map_file = None; made = None }

-- With one more rule file, where there is room.
abbrev pub with_rules : StageState → List ℕ → StageState
with_rules stage bytes =
    if nat_lt (length stage.rules) MAX_RULE_FILES
    then record stage { rules = stage.rules ++ bytes ∷ [] } else stage

abbrev pub map_after : Option (List ℕ) → List ℕ → Option (List ℕ)
map_after None bytes = Some bytes
map_after (Some kept) bytes = Some kept

-- With this map, where there was none.
abbrev pub with_map : StageState → List ℕ → StageState
with_map stage bytes = record stage { map_file = map_after stage.map_file bytes }

-- Whether files make something.
abbrev pub is_made : Read Made → Bool
is_made (Ok made) = true
is_made (Err fault) = false

-- With what its files make, where they make something.
abbrev pub stage_by : StageState → Read Made → StageState
stage_by stage (Ok made) = record stage { made = Some made }
stage_by stage (Err fault) = stage

-- After its files were read.
abbrev pub stage_read : StageState → StageState
stage_read stage = stage_by stage (made_of stage.rules stage.map_file)
