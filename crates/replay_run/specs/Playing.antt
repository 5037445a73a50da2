-- A replay that is played back frame by frame, without its marks.
use Rattle.std.specs.Prelude.{◌≡◌, ℕ, ◌+◌, ◌≤◌, Bool, true, false, List, [], ◌∷◌, length, drop}
use Rattle.std.specs.Prelude.{Option, Some, None}
use Rattle.std.specs.List.{AllByRecursion}
use Rattle.game_orders.specs.declared.entry.Entry.{Entry}
use Rattle.game_orders.specs.declared.limits.TheConstants.{MAX_FRAMES}
use Rattle.frame_core.specs.Fold.{folded}
use Rattle.replay_file.specs.declared.part.Part.{Part}
use Rattle.replay_file.specs.declared.part.Part.TheVariants.{Frame, Mark}
use Rattle.replay_file.specs.declared.replay.Replay.{Replay}
use Rattle.replay_file.specs.Frames.{frames_of}
use Rattle.replay_run.specs.Rerun.{frame_in}

-- The frames that are left, how many came before them, and the world after these.
pub record PlaybackState (W : Type 0) : Type 0 where
  pub left : List (List Entry)
  pub frames : ℕ
  pub world : W

-- The world after the first n frames of the replay: its step folded over them.
abbrev pub played :
    {W : Type 0} → (after : W → List Entry → W) → (start : W) → Replay → (n : ℕ) → W
played after start r n = folded after start (frame_in r.parts) n

-- What is played back is this replay, from this opening world on.
pub record IsPlayback {W : Type 0}
    (after : W → List Entry → W) (start : W) (r : Replay) (p : PlaybackState W) : Type 0 where
  pub world : p.world ≡ played after start r p.frames
  pub left : drop p.frames (frames_of r.parts) ≡ p.left
  pub count : p.frames + length p.left ≡ length (frames_of r.parts)

-- Nothing was played back yet.
abbrev pub playback_of : {W : Type 0} → (start : W) → Replay → PlaybackState W
playback_of start r = record { left = frames_of r.parts; frames = 0; world = start }

-- One frame further, or none was left and nothing changed.
abbrev pub PlaysOn :
    {W : Type 0} → (after : W → List Entry → W) → (old new : PlaybackState W) → Bool → Type 0
PlaysOn after old new true =
    (frame : List Entry) × (old.left ≡ frame ∷ new.left) × (new.frames ≡ old.frames + 1)
    × (new.world ≡ after old.world frame)
PlaysOn after old new false = (old.left ≡ []) × (new ≡ old)

-- Each frame that is left has an entry for each client of the world, which has made as many steps
-- as there are frames so far, and all frames are few.
pub record FitsPlayback {W : Type 0}
    (clients_of steps : W → ℕ) (p : PlaybackState W) : Type 0 where
  pub each : AllByRecursion (λ (frame : List Entry). length frame ≡ clients_of p.world) p.left
  pub made : steps p.world ≡ p.frames
  pub few : p.frames + length p.left ≤ MAX_FRAMES

-- The parts after the first frame.
abbrev pub after_frame : List Part → List Part
after_frame [] = []
after_frame (Frame entries ∷ parts) = parts
after_frame (Mark hash ∷ parts) = after_frame parts

-- The frame that was taken, if one was.
abbrev pub taken_frame : Bool → List Entry → Option (List Entry)
taken_frame true frame = Some frame
taken_frame false frame = None

-- The first frame of the parts, if there is one, was taken off, and the marks before it.
abbrev pub TakesFrame : (old new : List Part) → Option (List Entry) → Type 0
TakesFrame old new None = (frames_of old ≡ []) × (frames_of new ≡ [])
TakesFrame old new (Some frame) = (frames_of old ≡ frame ∷ frames_of new) × (new ≡ after_frame old)
