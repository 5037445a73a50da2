-- The parts of a replay after its first frames.
use Rattle.std.specs.Prelude.{◌≡◌, ℕ, ◌+◌, nat_le, List, length, drop}
use Rattle.std.specs.List.{filter}
use Rattle.replay_file.specs.declared.part.Part.{Part}
use Rattle.replay_file.specs.declared.replay.Replay.{Replay}
use Rattle.replay_file.specs.Frames.{frames_of, marks_after}
use Rattle.replay_run.specs.Rerun.{frame_count, marks_from}

-- So many frames were skipped and these parts are left, with all marks that have `from` frames or
-- more before them.
pub record IsSkipped (r : Replay) (from skipped : ℕ) (left : List Part) : Type 0 where
  pub frames : drop skipped (frames_of r.parts) ≡ frames_of left
  pub count : skipped + length (frames_of left) ≡ frame_count r
  pub marks :
      filter (λ mark. nat_le from mark.0) (marks_after skipped left) ≡ marks_from from r.parts
