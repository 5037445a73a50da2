-- A disk as contracts see it, and what a call that reads or writes a file did.
use Rattle.std.specs.Prelude.{◌≡◌, ℕ, ◌≤◌, nat_lt, if◌then◌else◌, List, length, ◌++◌, Option, None}
use Rattle.std.specs.Prelude.{Some, Result, Ok, Err, IfOk, IfSome, IfNone, IsSome, ◌⊎◌}
use Rattle.std.specs.Option.{option_map}
use Rattle.std.specs.Global.{Vec}
use Rattle.base.specs.Cause.{Increased}
use Rattle.game_io.specs.Files.{Files, with_file}
use Rattle.game_io.specs.declared.disk_error.DiskError.{DiskError}
use Rattle.game_io.specs.declared.disk_error.DiskError.TheVariants.{Missing, Failed, TooLong}
use Rattle.game_io.specs.declared.disk_error.DiskError.TheVariants.{NoMemory}

-- The files, where they are observable, and how often it has failed, up to the greatest 64-bit
-- number.
pub record DiskState : Type 0 where
  pub files : Option Files
  pub faults : ℕ

-- What a read of a file's content answers where nothing fails: no such file, longer than the limit,
-- or all bytes.
abbrev pub read_answer : Option (List ℕ) → ℕ → Result (List ℕ) DiskError
read_answer None limit = Err Missing
read_answer (Some bytes) limit = if nat_lt limit (length bytes) then Err TooLong else Ok bytes

-- A read answered as it should, or was out of memory, or failed at a file that is there.
abbrev pub IsAnswer : Result (Vec ℕ) DiskError → Option (List ℕ) → ℕ → Type 0
IsAnswer (Ok bytes) content limit = read_answer content limit ≡ Ok bytes.items
IsAnswer (Err Missing) content limit = read_answer content limit ≡ Err Missing
IsAnswer (Err Failed) content limit = IsSome content
IsAnswer (Err TooLong) content limit = read_answer content limit ≡ Err TooLong
IsAnswer (Err NoMemory) content limit = Unit {0}

-- P for the answer that something failed.
abbrev pub OnFailed : {T : Type 0} → Result T DiskError → Type 0 → Type 0
OnFailed (Ok value) P = Unit {0}
OnFailed (Err Missing) P = Unit {0}
OnFailed (Err Failed) P = P
OnFailed (Err TooLong) P = Unit {0}
OnFailed (Err NoMemory) P = Unit {0}

-- P for every refusal but out of memory.
abbrev pub OnRefused : {T : Type 0} → Result T DiskError → Type 0 → Type 0
OnRefused (Ok value) P = Unit {0}
OnRefused (Err Missing) P = P
OnRefused (Err Failed) P = P
OnRefused (Err TooLong) P = P
OnRefused (Err NoMemory) P = Unit {0}

-- A call read at most `limit` bytes of the file `name`. No file changed.
pub record ReadsFile
    (old new : DiskState) (name : List ℕ) (limit : ℕ) (result : Result (Vec ℕ) DiskError)
    : Type 0 where
  pub same : new.files ≡ old.files
  pub observable : IfSome old.files (λ files. IsAnswer result (files name) limit)
  pub opaque : IfNone old.files (OnRefused result (Increased old.faults new.faults))
  pub short : IfOk result (λ bytes. length bytes.items ≤ limit)
  pub later : old.faults ≤ new.faults
  pub failed : OnFailed result (Increased old.faults new.faults)

-- After a failed write the name holds what it held, nothing, or a prefix of the bytes.
abbrev pub LeftPartly : Option Files → Option Files → List ℕ → List ℕ → Type 0
LeftPartly old new name bytes =
    (new ≡ old)
    ⊎ ((new ≡ option_map (with_file name None) old)
    ⊎ ((prefix rest : List ℕ)
    × (prefix ++ rest ≡ bytes)
    × (new ≡ option_map (with_file name (Some prefix)) old)))

-- What a write left of the files, by its answer. It never answers that a file is missing or too
-- long.
abbrev pub LeavesFiles :
    {T : Type 0} → Result T DiskError → (old new : Option Files) → (name bytes : List ℕ) → Type 0
LeavesFiles (Ok value) old new name bytes = new ≡ option_map (with_file name (Some bytes)) old
LeavesFiles (Err Missing) old new name bytes = ⊥
LeavesFiles (Err Failed) old new name bytes = LeftPartly old new name bytes
LeavesFiles (Err TooLong) old new name bytes = ⊥
LeavesFiles (Err NoMemory) old new name bytes = new ≡ old

-- A call wrote the bytes to the file `name`, and changed no other file.
pub record WritesFile {T : Type 0}
    (old new : DiskState) (name bytes : List ℕ) (result : Result T DiskError) : Type 0 where
  pub files : LeavesFiles result old.files new.files name bytes
  pub later : old.faults ≤ new.faults
  pub failed : OnFailed result (Increased old.faults new.faults)
