-- What the bytes that were read for a part are: its spelling, of a part that may follow.
use Rattle.std.specs.Prelude.{◌≡◌, ◌⊎◌, ◌≤◌, ℕ, List, ◌++◌, Option, Some, None, Result, Ok, Err}
use Rattle.std.specs.List.{AllByRecursion}
use Rattle.wire_bytes.specs.Field.{field_bytes}
use Rattle.game_orders.specs.declared.limits.TheConstants.{MAX_FRAMES}
use Rattle.replay_file.specs.declared.part.Part.{Part}
use Rattle.replay_file.specs.declared.replay.Replay.{Replay}
use Rattle.replay_file.specs.declared.replay_fault.ReplayFault.{ReplayFault}
use Rattle.replay_file.specs.declared.replay_fault.ReplayFault.TheVariants as cause
use Rattle.replay_file.specs.declared.standing.Standing.{Standing}
use Rattle.replay_file.specs.FirstFault.{fault_at, IsFaultInParts, IsReadFault, Spells}
use Rattle.replay_file.specs.PartBytes.{part_bytes, parts_bytes, end_bytes, FitsPart}
use Rattle.replay_file.specs.PartReading.{next_in}
use Rattle.replay_file.specs.PartRules.{MayFollow, EachMayFollow, opening, after_parts}

-- What was read after a part's tag is, with the tag, the spelling of a part that may follow.
abbrev pub SpellsTagged :
    (version : ℕ) → Standing → (tag : ℕ) → (old new : List ℕ) → Part → Type 0
SpellsTagged version s tag old new part =
    (field_bytes 1 tag ++ old ≡ part_bytes part ++ new) × MayFollow version s part

-- What was read is the end, or the spelling of a part that may follow.
abbrev pub SpellsNext :
    (version : ℕ) → Standing → (old new : List ℕ) → Option Part → Type 0
SpellsNext version s old new None = old ≡ end_bytes ++ new
SpellsNext version s old new (Some part) =
    (old ≡ part_bytes part ++ new) × MayFollow version s part

-- The next part was read, or the end, or the fault that stands there.
abbrev pub GivesNext :
    (total version : ℕ) → Standing → (old new : List ℕ) → Result (Option Part) ReplayFault →
    Type 0
GivesNext total version s old new (Ok next) =
    (next_in version s old ≡ Ok (next, new)) × SpellsNext version s old new next
GivesNext total version s old new (Err fault) =
    fault_at total old (next_in version s old) ≡ Some fault

-- The bytes are the parts and the end, and the parts may follow one another.
pub record SpellsParts (version clients : ℕ) (bytes : List ℕ) (parts : List Part) : Type 0 where
  pub spelled : bytes ≡ parts_bytes parts ++ end_bytes
  pub follow : EachMayFollow version (opening clients) parts
  pub fits : AllByRecursion FitsPart parts

-- All parts were read up to the end, or out of memory, or the first fault among them.
abbrev pub GivesParts :
    (total version clients : ℕ) → List ℕ → Result (List Part) ReplayFault → Type 0
GivesParts total version clients bytes (Ok parts) = SpellsParts version clients bytes parts
GivesParts total version clients bytes (Err fault) =
    (fault ≡ cause.NoMemory) ⊎ IsFaultInParts version clients total bytes fault

-- Of the bytes these parts were read so far, and the others are left.
pub record ReadSoFar
    (version clients : ℕ) (bytes left : List ℕ) (parts : List Part) (s : Standing) : Type 0 where
  pub spelled : bytes ≡ parts_bytes parts ++ left
  pub follow : EachMayFollow version (opening clients) parts
  pub fits : AllByRecursion FitsPart parts
  pub standing : s ≡ after_parts (opening clients) parts
  pub few : s.frames ≤ MAX_FRAMES

-- A replay was read whole, or out of memory, or the first fault.
abbrev pub AnswersTo : (here : ℕ) → List ℕ → Result Replay ReplayFault → Type 0
AnswersTo here bytes (Ok r) = Spells here bytes r
AnswersTo here bytes (Err fault) = IsReadFault here bytes fault
