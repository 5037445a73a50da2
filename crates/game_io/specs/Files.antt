-- Files by their names.
use Rattle.std.specs.Prelude.{ℕ, if◌then◌else◌, List, Option}
use Rattle.std.specs.Str.{bytes_eq}

-- The bytes of each name that is there.
abbrev pub Files : Type 0
Files = List ℕ → Option (List ℕ)

-- The files with another content of one name: these bytes, or no such file.
abbrev pub with_file : List ℕ → Option (List ℕ) → Files → Files
with_file name content files = λ other. if bytes_eq name other then content else files other
