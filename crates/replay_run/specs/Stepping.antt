-- A replay that is run frame by frame. Each mark is compared as soon as the frames before it were
-- stepped.
use Rattle.std.specs.Prelude.{ℕ, zero, suc, ◌+◌, ◌≡◌, ◌<◌, Bool, true, false, List, [], ◌∷◌}
use Rattle.game_orders.specs.declared.entry.Entry.{Entry}
use Rattle.replay_file.specs.declared.part.Part.{Part}
use Rattle.replay_file.specs.declared.part.Part.TheVariants.{Frame, Mark}
use Rattle.replay_file.specs.declared.replay.Replay.{Replay}
use Rattle.replay_file.specs.Frames.{frames_of}
use Rattle.replay_run.specs.declared.replayed.Replayed.{Replayed}
use Rattle.replay_run.specs.Passing.{first_of, passed}
use Rattle.replay_run.specs.Playing.{FitsPlayback}
use Rattle.replay_run.specs.Rerun.{Rerun, first_difference, frame_count, hash_in, marks_before}
use Rattle.replay_run.specs.Rerun.{replayed, world_in}

-- The replay, its parts from the next frame on, and what those before gave.
pub record StepState (W : Type 0) : Type 0 where
  pub replay : Replay
  pub left : List Part
  pub so_far : Replayed W

-- ---- the state after so many steps

-- The parts from frame n on.
abbrev pub from_frame : ℕ → List Part → List Part
from_frame n [] = []
from_frame n (Mark hash ∷ parts) = from_frame n parts
from_frame zero (Frame entries ∷ parts) = Frame entries ∷ parts
from_frame (suc n) (Frame entries ∷ parts) = from_frame n parts

-- What the frames 0 to n - 1 of a replay give: the world after them, and the differing mark with the
-- fewest frames before it among those that have at most n.
abbrev pub replayed_to : {W : Type 0} → Rerun W → Replay → (n : ℕ) → Replayed W
replayed_to run r n =
    record {
      difference = first_difference (hash_in run r) (marks_before (n + 1) r.parts);
      frames = n;
      world = world_in run r.parts n;
    }

abbrev pub stepped_to : {W : Type 0} → Rerun W → Replay → (n : ℕ) → StepState W
stepped_to run r n =
    record { replay = r; left = from_frame n r.parts; so_far = replayed_to run r n }

-- A step of the state after n of them: one frame further, or all were stepped, nothing changes, and
-- what they gave is what the whole replay gives.
abbrev pub StepsFrom :
    {W : Type 0} → Rerun W → Replay → (n : ℕ) → Bool → (new : StepState W) → Type 0
StepsFrom run r n true new = (n < frame_count r) × (new ≡ stepped_to run r (n + 1))
StepsFrom run r n false new =
    (n ≡ frame_count r) × (new ≡ stepped_to run r n) × (new.so_far ≡ replayed run r)

-- ---- a step as a function of the state

-- The marks before the first frame of the parts, where n frames come before these.
abbrev pub head_marks : ℕ → List Part → List (ℕ × ℕ)
head_marks n [] = []
head_marks n (Frame entries ∷ parts) = []
head_marks n (Mark hash ∷ parts) = (n, hash) ∷ head_marks n parts

-- The marks before the first frame of the parts are compared.
abbrev pub past_marks : {W : Type 0} → (hash : W → ℕ) → Replayed W → List Part → Replayed W
past_marks hash so_far parts =
    record so_far {
      difference =
          first_of so_far.difference
          (first_difference (λ n. hash so_far.world) (head_marks so_far.frames parts));
    }

-- The parts where a frame was read, if one was, and these come after it.
abbrev pub with_frame : Bool → List Entry → List Part → List Part
with_frame true entries parts = Frame entries ∷ parts
with_frame false entries parts = []

abbrev pub has_frame : List Part → Bool
has_frame [] = false
has_frame (Mark hash ∷ parts) = false
has_frame (Frame entries ∷ parts) = true

abbrev pub stepped_by :
    {W : Type 0} → (W → List Entry → W) → (hash : W → ℕ) → StepState W → (left : List Part) →
    StepState W
stepped_by after hash s [] = s
stepped_by after hash s (Mark file ∷ parts) = s
stepped_by after hash s (Frame entries ∷ parts) =
    record {
      replay = s.replay;
      left = from_frame 0 parts;
      so_far = past_marks hash (passed after hash s.so_far (Frame entries)) parts;
    }

-- One step: of the next frame, if there is one.
abbrev pub stepped : {W : Type 0} → (W → List Entry → W) → (hash : W → ℕ) → StepState W → StepState W
stepped after hash s = stepped_by after hash s s.left

-- Each frame that is left may be stepped.
abbrev pub FitsSteps : {W : Type 0} → (clients_of steps : W → ℕ) → StepState W → Type 0
FitsSteps clients_of steps s =
    FitsPlayback clients_of steps (record {
      left = frames_of s.left;
      frames = s.so_far.frames;
      world = s.so_far.world;
    })
