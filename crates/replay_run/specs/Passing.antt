-- One part of a replay: what it makes of what the parts before it gave.
use Rattle.std.specs.Prelude.{◌≡◌, ℕ, ◌+◌, ◌<◌, ◌==◌, if◌then◌else◌, List, length}
use Rattle.std.specs.Prelude.{Option, Some, None}
use Rattle.game_orders.specs.declared.entry.Entry.{Entry}
use Rattle.game_orders.specs.declared.limits.TheConstants.{MAX_FRAMES}
use Rattle.replay_file.specs.declared.limits.TheConstants.{FIRST_VERSION}
use Rattle.replay_file.specs.declared.part.Part.{Part}
use Rattle.replay_file.specs.declared.part.Part.TheVariants.{Frame, Mark}
use Rattle.replay_run.specs.declared.difference.Difference.{Difference}
use Rattle.replay_run.specs.declared.replayed.Replayed.{Replayed}

-- A mark after so many frames, compared with the hash here.
abbrev pub compared : (frames file here : ℕ) → Option Difference
compared frames file here =
    if file == here then None
    else Some (record { frames = frames; file = file; here = here })

-- The first of two.
abbrev pub first_of : Option Difference → Option Difference → Option Difference
first_of None other = other
first_of (Some difference) other = Some difference

-- The hash that a mark of a version has for a world.
abbrev pub hash_by : {W : Type 0} → (hash first_hash : W → ℕ) → (version : ℕ) → W → ℕ
hash_by hash first_hash version world =
    if version == FIRST_VERSION then first_hash world else hash world

-- A frame steps the world, and a mark is compared.
abbrev pub passed :
    {W : Type 0} → (W → List Entry → W) → (hash : W → ℕ) → Replayed W → Part → Replayed W
passed after hash so_far (Frame entries) =
    record so_far { frames = so_far.frames + 1; world = after so_far.world entries }
passed after hash so_far (Mark file) =
    record so_far {
      difference =
          first_of so_far.difference (compared so_far.frames file (hash so_far.world));
    }

-- A frame is one of the world's clients, and the frames so far are few.
abbrev pub FitsPass : {W : Type 0} → (clients_of steps : W → ℕ) → Replayed W → Part → Type 0
FitsPass clients_of steps so_far (Frame entries) =
    (length entries ≡ clients_of so_far.world) × (steps so_far.world ≡ so_far.frames)
    × (so_far.frames < MAX_FRAMES)
FitsPass clients_of steps so_far (Mark file) = Unit {0}
