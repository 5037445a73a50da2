-- The first fault of bytes that are no replay.
use Rattle.std.specs.Prelude.{◌≡◌, ◌⊎◌, ℕ, ◌-◌, ◌==◌, nat_le, Bool, not, ◌&&◌}
use Rattle.std.specs.Prelude.{if◌then◌else◌, List, [], ◌∷◌, ◌++◌, length}
use Rattle.std.specs.Prelude.{Option, Some, None, Result, Ok, Err}
use Rattle.std.specs.List.{AllByRecursion}
use Rattle.base.specs.Steps.{◌>>=◌}
use Rattle.wire_bytes.specs.Read.{number_at}
use Rattle.replay_file.specs.declared.header.Header.{Header}
use Rattle.replay_file.specs.declared.part.Part.{Part}
use Rattle.replay_file.specs.declared.part_fault.PartFault.TheVariants.{Short, Bad}
use Rattle.replay_file.specs.declared.replay.Replay.{Replay}
use Rattle.replay_file.specs.declared.replay_fault.ReplayFault.{ReplayFault}
use Rattle.replay_file.specs.declared.replay_fault.ReplayFault.TheVariants.{BadMagic, BadVersion}
use Rattle.replay_file.specs.declared.replay_fault.ReplayFault.TheVariants.{Torn, BadRecord}
use Rattle.replay_file.specs.declared.replay_fault.ReplayFault.TheVariants.{TrailingBytes}
use Rattle.replay_file.specs.declared.replay_fault.ReplayFault.TheVariants.{OtherRules, NoMemory}
use Rattle.replay_file.specs.declared.limits.TheConstants.{MAGIC, VERSION_AT, RULES_AT, CLIENTS_AT}
use Rattle.replay_file.specs.PartBytes.{parts_bytes, FitsPart}
use Rattle.replay_file.specs.ReplayBytes.{replay_bytes, FitsReplay}
use Rattle.replay_file.specs.PartRules.{is_known, most_clients, opening, after_parts}
use Rattle.replay_file.specs.PartRules.{EachMayFollow}
use Rattle.replay_file.specs.ValidReplay.{IsValidReplay}
use Rattle.replay_file.specs.PartReading.{PartRead, next_in}

-- A value and the bytes after it, or the fault.
abbrev pub HeaderRead : Type 0 → Type 0
HeaderRead A = Result (A × List ℕ) ReplayFault

-- The version, after the first four bytes.
unfoldable pub version_at : List ℕ → HeaderRead ℕ
version_at bytes = do
  start ← number_at BadMagic 4 bytes
  version ← if start.0 == MAGIC then number_at (Torn VERSION_AT) 2 start.1 else Err BadMagic
  if is_known version.0 then Ok version else Err BadVersion

-- The number of clients that a version may have.
abbrev pub is_client_count : ℕ → ℕ → Bool
is_client_count version clients = nat_le 1 clients && nat_le clients (most_clients version)

-- The header, whose rules number is to be the given one.
unfoldable pub header_at : ℕ → List ℕ → HeaderRead Header
header_at here bytes = do
  version ← version_at bytes
  rules ← number_at (Torn RULES_AT) 8 version.1
  seed ← number_at (Torn RULES_AT) 4 rules.1
  clients ← number_at (Torn RULES_AT) 1 seed.1
  if not (rules.0 == here) then Err (OtherRules rules.0 here)
      else (if is_client_count version.0 clients.0
      then Ok (
        record {
          version = version.0;
          rules = rules.0;
          seed = seed.0;
          clients = clients.0;
        },
        clients.1,
      )
      else Err (BadRecord CLIENTS_AT))

-- The fault where these bytes are left of so many, if what they begin with is one: a part that is
-- cut off or bad has the part's place, a byte after the end its own.
abbrev pub fault_at : ℕ → List ℕ → PartRead (Option Part) → Option ReplayFault
fault_at total left (Err Short) = Some (Torn (total - length left))
fault_at total left (Err Bad) = Some (BadRecord (total - length left))
fault_at total left (Ok (None, [])) = None
fault_at total left (Ok (None, byte ∷ more)) =
    Some (TrailingBytes (total - length (byte ∷ more)))
fault_at total left (Ok (Some part, more)) = None

-- The bytes after a header are parts that may follow one another, and then, at the fault's place,
-- none that may.
pub record IsFaultInParts (version clients total : ℕ) (bytes : List ℕ) (fault : ReplayFault)
    : Type 0 where
  pub parts : List Part
  pub left : List ℕ
  pub fits : AllByRecursion FitsPart parts
  pub follow : EachMayFollow version (opening clients) parts
  pub spelled : bytes ≡ parts_bytes parts ++ left
  pub found :
      fault_at total left (next_in version (after_parts (opening clients) parts) left) ≡ Some fault

abbrev pub IsFaultAfter : ℕ → HeaderRead Header → ReplayFault → Type 0
IsFaultAfter total (Ok read) fault =
    IsFaultInParts read.0.version read.0.clients total read.1 fault
IsFaultAfter total (Err first) fault = fault ≡ first

-- The first fault of the bytes, where the rules number is to be the given one.
abbrev pub IsFirstFault : ℕ → List ℕ → ReplayFault → Type 0
IsFirstFault here bytes fault = IsFaultAfter (length bytes) (header_at here bytes) fault

-- A call fails with the first fault, or it is out of memory.
abbrev pub IsReadFault : ℕ → List ℕ → ReplayFault → Type 0
IsReadFault here bytes fault = (fault ≡ NoMemory) ⊎ IsFirstFault here bytes fault

-- The bytes are the spelling of a valid replay with these rules.
pub record Spells (here : ℕ) (bytes : List ℕ) (r : Replay) : Type 0 where
  pub rules : r.rules ≡ here
  pub valid : IsValidReplay r
  pub fits : FitsReplay r
  pub spelled : bytes ≡ replay_bytes r

-- A call answers this replay, or it is out of memory.
abbrev pub IsReadOf : Replay → Result Replay ReplayFault → Type 0
IsReadOf r (Ok read) = read ≡ r
IsReadOf r (Err fault) = fault ≡ NoMemory
