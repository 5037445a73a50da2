-- How a list of parts is stored: the bytes of each part as in a file, with the number of a frame's
-- entries after its tag.
use Rattle.std.specs.Prelude.{◌≡◌, ℕ, zero, suc, ◌-◌, ◌≤◌, ◌==◌, nat_lt, false, if◌then◌else◌}
use Rattle.std.specs.Prelude.{List, [], ◌∷◌, ◌++◌, length, drop, replicate, Option, Some, None, Ok, Err}
use Rattle.std.specs.List.{flat_map, AllByRecursion}
use Rattle.base.specs.Steps.{◌>>=◌}
use Rattle.wire_bytes.specs.Field.{field_bytes}
use Rattle.wire_bytes.specs.Read.{number_at}
use Rattle.game_orders.specs.declared.limits.TheConstants.{MAX_CLIENTS}
use Rattle.replay_file.specs.declared.limits.TheConstants.{GREATEST_TAG}
use Rattle.replay_file.specs.declared.part.Part.{Part}
use Rattle.replay_file.specs.declared.part.Part.TheVariants.{Frame, Mark}
use Rattle.replay_file.specs.declared.part_fault.PartFault.TheVariants.{Short, Bad}
use Rattle.replay_file.specs.Frames.{frames_of}
use Rattle.replay_file.specs.PartBytes.{entries_bytes, FitsPart}
use Rattle.replay_file.specs.PartReading.{PartRead, entries_after, mark_in}

unfoldable pub stored_bytes : Part → List ℕ
stored_bytes (Frame entries) =
    field_bytes 1 1 ++ (field_bytes 1 (length entries) ++ entries_bytes entries)
stored_bytes (Mark hash) = field_bytes 1 2 ++ field_bytes 8 hash

abbrev pub all_stored : List Part → List ℕ
all_stored parts = flat_map stored_bytes parts

-- A frame of so many entries.
unfoldable pub counted_frame : ℕ → List ℕ → PartRead Part
counted_frame count bytes =
    if nat_lt MAX_CLIENTS count then Err Bad
    else (entries_after GREATEST_TAG [] (replicate count false) bytes >>= λ entries.
    Ok (Frame entries.0, entries.1))

-- The first part of stored bytes.
unfoldable pub stored_at : List ℕ → PartRead Part
stored_at bytes = do
  tag ← number_at Short 1 bytes
  if tag.0 == 1 then (number_at Short 1 tag.1 >>= λ count. counted_frame count.0 count.1)
      else (if tag.0 == 2 then mark_in tag.1 else Err Bad)

abbrev pub onto_parts : PartRead Part → (List ℕ → List Part) → List Part
onto_parts (Ok read) others = read.0 ∷ others read.1
onto_parts (Err fault) others = []

-- At most so many parts of stored bytes.
unfoldable pub parts_up_to : ℕ → List ℕ → List Part
parts_up_to zero bytes = []
parts_up_to (suc more) bytes = onto_parts (stored_at bytes) (λ left. parts_up_to more left)

-- The parts of stored bytes, of which there are no more than bytes.
unfoldable pub parts_in : List ℕ → List Part
parts_in bytes = parts_up_to (length bytes) bytes

-- The first part was taken of a list of parts, or none is left.
abbrev pub TakesPart : (old new : List Part) → Option Part → Type 0
TakesPart old new None = (old ≡ []) × (new ≡ [])
TakesPart old new (Some part) = old ≡ part ∷ new

-- A frame has no more entries than there may be clients.
abbrev pub IsSmall : Part → Type 0
IsSmall (Frame entries) = length entries ≤ MAX_CLIENTS
IsSmall (Mark hash) = Unit {0}

-- The bytes store the parts that are read from them.
pub record IsStore (bytes : List ℕ) : Type 0 where
  pub stored : bytes ≡ all_stored (parts_in bytes)
  pub fits : AllByRecursion FitsPart (parts_in bytes)
  pub small : AllByRecursion IsSmall (parts_in bytes)

-- So do the last bytes that are left of stored ones.
pub record EndsStore (old new : List ℕ) : Type 0 where
  pub store : IsStore new
  pub few : length new ≤ length old
  pub last : drop (length old - length new) old ≡ new

-- So do the bytes after the first `read` ones.
pub record IsStoreAfter (read : ℕ) (bytes : List ℕ) : Type 0 where
  pub few : read ≤ length bytes
  pub store : IsStore (drop read bytes)

-- They do, and so many of the parts are frames.
pub record IsCountedStore (bytes : List ℕ) (frames : ℕ) : Type 0 where
  pub store : IsStore bytes
  pub count : frames ≡ length (frames_of (parts_in bytes))
