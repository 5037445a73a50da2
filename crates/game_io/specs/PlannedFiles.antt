-- Files in a memory form, of which chosen calls fail.
use Rattle.std.specs.Prelude.{ℕ, List, [], ◌∷◌, take, Option, None, Some}
use Rattle.game_io.specs.Files.{Files, with_file}
use Rattle.game_io.specs.DiskState.{DiskState}
use Rattle.game_io.specs.Plan.{Plan, faults_of}
use Rattle.game_io.specs.declared.failing_call.Remains.{Remains}
use Rattle.game_io.specs.declared.failing_call.Remains.TheVariants.{Old, Nothing, Prefix}

-- What remains in a file of this content after a write of these bytes that failed.
abbrev pub content_after : Remains → Option (List ℕ) → List ℕ → Option (List ℕ)
content_after Old content bytes = content
content_after Nothing content bytes = None
content_after (Prefix count) content bytes = Some (take count bytes)

-- A file by its name: its bytes, or that there is no such file any more.
pub record NamedFile : Type 0 where
  pub name : List ℕ
  pub content : Option (List ℕ)

-- The files of a list in which the newest stand first: of two of one name the first counts.
abbrev pub files_of : List NamedFile → Files
files_of [] = λ name. None
files_of (file ∷ rest) = with_file file.name file.content (files_of rest)

-- The files, and the plan of the calls.
pub record PlannedFiles : Type 0 where
  pub list : List NamedFile
  pub plan : Plan

-- A disk that holds these files: all of them are observable.
abbrev pub disk_state : PlannedFiles → DiskState
disk_state held = record { files = Some (files_of held.list); faults = faults_of held.plan }
