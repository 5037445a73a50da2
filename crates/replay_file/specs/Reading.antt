-- The replay that bytes spell, or their first fault, as one function of the bytes.
use Rattle.std.specs.Prelude.{◌≡◌, ℕ, zero, suc, ◌+◌, List, [], ◌∷◌, length}
use Rattle.std.specs.Prelude.{Option, Some, None, Result, Ok, Err}
use Rattle.base.specs.Steps.{◌>>=◌, IsFault}
use Rattle.replay_file.specs.declared.header.Header.{Header}
use Rattle.replay_file.specs.declared.part.Part.{Part}
use Rattle.replay_file.specs.declared.replay.Replay.{Replay}
use Rattle.replay_file.specs.declared.replay_fault.ReplayFault.{ReplayFault}
use Rattle.replay_file.specs.declared.replay_fault.ReplayFault.TheVariants.{NoMemory}
use Rattle.replay_file.specs.declared.standing.Standing.{Standing}
use Rattle.replay_file.specs.FirstFault.{header_at, fault_at}
use Rattle.replay_file.specs.PartReading.{PartRead, next_in}
use Rattle.replay_file.specs.PartRules.{opening, after_part}

-- A part before others.
abbrev pub with_part : Part → Result (List Part) ReplayFault → Result (List Part) ReplayFault
with_part part (Ok parts) = Ok (part ∷ parts)
with_part part (Err fault) = Err fault

-- The parts from what was read on: none after a fault or the end, else what was read and the others.
abbrev pub parts_by :
    Option ReplayFault → PartRead (Option Part) →
    (Part → List ℕ → Result (List Part) ReplayFault) → Result (List Part) ReplayFault
parts_by (Some fault) read others = Err fault
parts_by None (Ok (Some part, left)) others = with_part part (others part left)
parts_by None (Ok (None, left)) others = Ok []
parts_by None (Err fault) others = Ok []

-- The parts up to the end, of at most so many, or the first fault among them, where so many bytes
-- are there in all.
unfoldable pub parts_from :
    (most total version : ℕ) → Standing → List ℕ → Result (List Part) ReplayFault
parts_from zero total version s bytes = Ok []
parts_from (suc more) total version s bytes =
    parts_by (fault_at total bytes (next_in version s bytes)) (next_in version s bytes)
    (λ part left. parts_from more total version (after_part s part) left)

-- The parts after a header. A part takes a byte at least, and so does the end, so there are no more
-- parts than bytes.
abbrev pub parts_after : ℕ → Header → List ℕ → Result (List Part) ReplayFault
parts_after total h bytes =
    parts_from (length bytes + 1) total h.version (opening h.clients) bytes

abbrev pub with_parts : Header → List Part → Replay
with_parts h parts =
    record {
      version = h.version;
      rules = h.rules;
      seed = h.seed;
      clients = h.clients;
      parts = parts;
    }

-- The replay, whose rules number is to be the given one, or the first fault of the bytes.
unfoldable pub read_of : ℕ → List ℕ → Result Replay ReplayFault
read_of here bytes = do
  header ← header_at here bytes
  parts ← parts_after (length bytes) header.0 header.1
  Ok (with_parts header.0 parts)

-- A call answers what is read, or it is out of memory.
abbrev pub ReturnsRead : Result Replay ReplayFault → Result Replay ReplayFault → Type 0
ReturnsRead (Ok r) read = read ≡ Ok r
ReturnsRead (Err fault) read = IsFault NoMemory fault read
