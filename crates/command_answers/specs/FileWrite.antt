-- A file that a reply writes.
use Rattle.std.specs.Prelude.{◌≡◌, ◌⊎◌, ℕ, List, Option, None, Some}
use Rattle.std.specs.Option.{option_map}
use Rattle.game_io.specs.Files.{Files, with_file}
use Rattle.game_io.specs.DiskState.{LeftPartly}

-- Its name, and all of its bytes.
pub record FileWrite : Type 0 where
  pub name : List ℕ
  pub bytes : List ℕ

-- The name of the file, if there is one.
abbrev pub name_of : Option FileWrite → Option (List ℕ)
name_of = option_map (λ write. write.name)

-- The files after the write, if there is one: its file has its bytes, and no other file changed.
abbrev pub files_after : Option FileWrite → Option Files → Option Files
files_after None files = files
files_after (Some write) files = option_map (with_file write.name (Some write.bytes)) files

-- The write failed: its file holds what it held, nothing, or a prefix of its bytes, and no other
-- file changed.
abbrev pub IsLeftPartly : Option FileWrite → (old new : Option Files) → Type 0
IsLeftPartly None old new = ⊥
IsLeftPartly (Some write) old new = LeftPartly old new write.name write.bytes

-- No file changed but that of this name, if one is given.
abbrev pub OnlyChanges : Option (List ℕ) → (old new : Option Files) → Type 0
OnlyChanges None old new = new ≡ old
OnlyChanges (Some name) old new =
    (new ≡ old)
    ⊎ ((content : Option (List ℕ)) × (new ≡ option_map (with_file name content) old))
