-- The save that bytes spell, or their first fault, as one function of the bytes.
use Rattle.std.specs.Prelude.{◌≡◌, ℕ, ◌+◌, ◌==◌, nat_lt, if◌then◌else◌, List, length}
use Rattle.std.specs.Prelude.{Result, Ok, Err}
use Rattle.base.specs.Steps.{◌>>=◌, IsFault}
use Rattle.wire_bytes.specs.Read.{with_fault}
use Rattle.game_orders.specs.declared.limits.TheConstants.{MAX_FRAMES}
use Rattle.game_model.specs.declared.map.Map.{Map}
use Rattle.game_model.specs.Setup.{Setup}
use Rattle.rule_traits.specs.declared.kind.Kind.{Kind}
use Rattle.game_save.specs.declared.limits.TheConstants.{MAGIC, VERSION}
use Rattle.game_save.specs.declared.save_fault.SaveFault.{SaveFault}
use Rattle.game_save.specs.declared.save_fault.SaveFault.TheVariants.{BadMagic, BadVersion}
use Rattle.game_save.specs.declared.save_fault.SaveFault.TheVariants.{OtherRules, TrailingBytes}
use Rattle.game_save.specs.declared.save_fault.SaveFault.TheVariants.{NoMemory}
use Rattle.game_save.specs.declared.saved.Saved.{Saved}
use Rattle.game_save.specs.Fields.{Left, SaveRead, all_of, place_in, field_in, range_in}
use Rattle.game_save.specs.WorldReading.{world_in}

-- These rules and this map.
abbrev pub setup_with : List Kind → Map → Setup
setup_with rules map = record { rules = rules; map = map }

-- The first four bytes, which are to be there and to be the right ones.
unfoldable pub magic_in : Left → SaveRead ℕ
magic_in left = do
  start ← with_fault BadMagic (field_in 4 left)
  if start.0 == MAGIC then Ok start else Err BadMagic

-- The version, which is to be the one that is written.
unfoldable pub version_in : Left → SaveRead ℕ
version_in left = do
  version ← field_in 2 left
  if version.0 == VERSION then Ok version else Err BadVersion

-- What stands before the world: the first bytes, the version, the rules number, which is to be the
-- given one, and the number of frames, which is the answer.
unfoldable pub opening_in : (here : ℕ) → Left → SaveRead ℕ
opening_in here left = do
  start ← magic_in left
  version ← version_in start.1
  rules ← field_in 8 version.1
  if rules.0 == here then range_in 4 0 (MAX_FRAMES + 1) rules.1
      else Err (OtherRules rules.0 here)

-- This value, where no bytes are left.
abbrev pub at_end : {A : Type 0} → A → Left → Result A SaveFault
at_end value left =
    if nat_lt 0 (length left.bytes) then Err (TrailingBytes (place_in left)) else Ok value

-- The saved world and its frames, where the rules number is to be the given one, or the first fault
-- of the bytes. The world is one of this setup.
unfoldable pub read_save_of : (here : ℕ) → Setup → List ℕ → Result Saved SaveFault
read_save_of here setup bytes = do
  frames ← opening_in here (all_of bytes)
  world ← world_in setup frames.0 frames.1
  at_end (record { frames = frames.0; world = world.0 }) world.1

-- A call answers what is read, or it is out of memory.
abbrev pub ReturnsSave : Result Saved SaveFault → Result Saved SaveFault → Type 0
ReturnsSave (Ok saved) read = read ≡ Ok saved
ReturnsSave (Err fault) read = IsFault NoMemory fault read
