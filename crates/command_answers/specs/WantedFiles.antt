-- The files that a request wants to be read.
use Rattle.std.specs.Prelude.{ℕ, ◌==◌, Bool, nat_lt, if◌then◌else◌, List, [], ◌∷◌, ◌++◌, length, map}
use Rattle.std.specs.Prelude.{Option, None, Some, option_map, codes}
use Rattle.std.specs.List.{starts_with}
use Rattle.drill_words.specs.declared.limits.TheConstants.{MAX_DRILL_BYTES}
use Rattle.command_answers.specs.declared.files.TheConstants.{MAX_RULE_BYTES}
use Rattle.command_answers.specs.declared.files.TheConstants.{MAX_SAVE_BYTES, MAX_REPLAY_BYTES}

-- A file to be read, and how many bytes it may have.
pub record Wanted : Type 0 where
  pub name : List ℕ
  pub limit : ℕ

pub record WantedFiles : Type 0 where
  pub rules : List Wanted
  pub map_file : Option Wanted
  -- A file that is read before the script or the replay.
  pub first : Option Wanted
  pub script : Option Wanted
  -- A replay, or what the first file is compared with. What the first one holds may decide of it.
  pub replay : (first : Option (List ℕ)) → Option Wanted

-- No files.
abbrev pub no_files : WantedFiles
no_files =
    record {
      rules = [];
      map_file = None;
      first = None;
      script = None;
      replay = λ first. None;
    }

abbrev pub and_then : Option Wanted → List Wanted → List Wanted
and_then None rest = rest
and_then (Some file) rest = file ∷ rest

-- The files in the order in which they are read: rules, then map, then the first, then script or
-- replay, whatever the first holds.
abbrev pub in_order : WantedFiles → List Wanted
in_order wanted =
    wanted.rules
    ++ and_then wanted.map_file
    (and_then wanted.first (and_then wanted.script (and_then (wanted.replay None) [])))

abbrev pub rule_file : List ℕ → Wanted
rule_file name = record { name = name; limit = MAX_RULE_BYTES }

abbrev pub save_file : List ℕ → Wanted
save_file name = record { name = name; limit = MAX_SAVE_BYTES }

abbrev pub script_file : List ℕ → Wanted
script_file name = record { name = name; limit = MAX_DRILL_BYTES }

abbrev pub replay_file : List ℕ → Wanted
replay_file name = record { name = name; limit = MAX_REPLAY_BYTES }

-- Rule files, and a map, if one is named. A map is as long as a rule file at most.
abbrev pub rules_and_map : List (List ℕ) → Option (List ℕ) → WantedFiles
rules_and_map names map_file =
    record no_files { rules = map rule_file names; map_file = option_map rule_file map_file }

-- The same files, and after the map this one.
abbrev pub with_first : Wanted → WantedFiles → WantedFiles
with_first first files = record files { first = Some first }

-- The same files, and a save after the map.
abbrev pub with_save : List ℕ → WantedFiles → WantedFiles
with_save name files = with_first (save_file name) files

-- The same files, and a script after them.
abbrev pub with_script : List ℕ → WantedFiles → WantedFiles
with_script script files = record files { script = Some (script_file script) }

-- The same files, and a replay after them.
abbrev pub with_replay : List ℕ → WantedFiles → WantedFiles
with_replay name files = record files { replay = λ first. Some (replay_file name) }

-- ---- two files that are compared

-- The bytes begin as those of a save.
abbrev pub begins_save : List ℕ → Bool
begins_save bytes = starts_with (λ a b. a == b) bytes (codes "LSSV")

-- How many bytes both may have, by those of the first: it is a save where it begins as one, and else
-- a replay.
abbrev pub pair_limit : (first : List ℕ) → ℕ
pair_limit first = if begins_save first then MAX_SAVE_BYTES else MAX_REPLAY_BYTES

-- The first has more.
abbrev pub is_too_long : (first : List ℕ) → Bool
is_too_long first = nat_lt (pair_limit first) (length first)

-- How many bytes the second may have. It is not read where the first has too many.
abbrev pub second_limit : (first : List ℕ) → Option ℕ
second_limit first = if is_too_long first then None else Some (pair_limit first)

-- The second of them.
abbrev pub second_file : List ℕ → (first : Option (List ℕ)) → Option Wanted
second_file name None = Some (replay_file name)
second_file name (Some first) =
    option_map (λ limit. record { name = name; limit = limit }) (second_limit first)

-- The same files, and after them two that are compared.
abbrev pub with_compared : (first second : List ℕ) → WantedFiles → WantedFiles
with_compared first second files =
    record (with_first (replay_file first) files) { replay = second_file second }
