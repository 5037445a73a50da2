-- What the wanted files hold.
use Rattle.std.specs.Prelude.{ℕ, ◌≤◌, nat_lt, if◌then◌else◌, ◌≡◌, ◌⊎◌, List, [], ◌∷◌, ◌++◌, length}
use Rattle.std.specs.Prelude.{Option, None, Some, IsSome, Ok, Err, codes}
use Rattle.base.specs.Steps.{◌>>=◌}
use Rattle.game_io.specs.Files.{Files}
use Rattle.command_answers.specs.Reply.{Reply, refusal}
use Rattle.command_answers.specs.Step.{Step}
use Rattle.command_answers.specs.WantedFiles.{Wanted, WantedFiles}

-- The bytes of each wanted file.
pub record Contents : Type 0 where
  pub rules : List (List ℕ)
  pub map_file : Option (List ℕ)
  pub first : Option (List ℕ)
  pub script : Option (List ℕ)
  pub replay : Option (List ℕ)

abbrev pub missing : Wanted → Reply
missing file = refusal file.name 0 (codes "Missing")

abbrev pub too_long : Wanted → Reply
too_long file = refusal file.name 0 (codes "TooLong")

-- All bytes of a file, which is there and no longer than it may be.
abbrev pub content_of : Wanted → Option (List ℕ) → Step (List ℕ)
content_of file None = Err (missing file)
content_of file (Some bytes) =
    if nat_lt file.limit (length bytes) then Err (too_long file) else Ok bytes

-- The contents of some files, after those that were read before. The first that cannot be read
-- decides.
abbrev pub read_after : (before : List (List ℕ)) → List Wanted → Files → Step (List (List ℕ))
read_after before [] files = Ok before
read_after before (file ∷ rest) files = do
  bytes ← content_of file (files file.name)
  read_after (before ++ bytes ∷ []) rest files

-- The content of a file, if one is wanted.
abbrev pub read_optional : Option Wanted → Files → Step (Option (List ℕ))
read_optional None files = Ok None
read_optional (Some file) files = do
  bytes ← content_of file (files file.name)
  Ok (Some bytes)

-- Rules are read first, then the map, then the file that comes before the script or the replay, and
-- then that. The first one that cannot be read decides.
abbrev pub contents_of : WantedFiles → Files → Step Contents
contents_of wanted files = do
  rules ← read_after [] wanted.rules files
  map_file ← read_optional wanted.map_file files
  first ← read_optional wanted.first files
  script ← read_optional wanted.script files
  replay ← read_optional (wanted.replay first) files
  Ok
      (record {
        rules = rules;
        map_file = map_file;
        first = first;
        script = script;
        replay = replay;
      })

-- The first of the files is there. Where it is not, that is answered, and no read can fail.
abbrev pub IsFirstThere : List Wanted → Files → Type 0
IsFirstThere [] files = ⊥
IsFirstThere (file ∷ rest) files = IsSome (files file.name)

-- These may be the contents of the files: one for each, and none longer than it may be.
abbrev pub AreWithinLimits : List Wanted → List (List ℕ) → Type 0
AreWithinLimits [] [] = Unit {0}
AreWithinLimits [] (bytes ∷ contents) = ⊥
AreWithinLimits (file ∷ rest) [] = ⊥
AreWithinLimits (file ∷ rest) (bytes ∷ contents) =
    (length bytes ≤ file.limit) × AreWithinLimits rest contents

abbrev pub IsWithinLimit : Option Wanted → Option (List ℕ) → Type 0
IsWithinLimit None None = Unit {0}
IsWithinLimit None (Some bytes) = ⊥
IsWithinLimit (Some file) None = ⊥
IsWithinLimit (Some file) (Some bytes) = length bytes ≤ file.limit

-- These may be the contents of the wanted files.
pub record AreContents (wanted : WantedFiles) (contents : Contents) : Type 0 where
  pub rules : AreWithinLimits wanted.rules contents.rules
  pub map_file : IsWithinLimit wanted.map_file contents.map_file
  pub first : IsWithinLimit wanted.first contents.first
  pub script : IsWithinLimit wanted.script contents.script
  pub replay : IsWithinLimit (wanted.replay contents.first) contents.replay

-- The reply is that one of the files is missing or too long.
abbrev pub IsUnread : List Wanted → Reply → Type 0
IsUnread [] reply = ⊥
IsUnread (file ∷ rest) reply =
    (reply ≡ missing file) ⊎ ((reply ≡ too_long file) ⊎ IsUnread rest reply)
