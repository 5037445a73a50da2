-- What replays of matches, and migrated ones, give.
use Rattle.std.specs.Prelude.{◌≡◌, ◌≢◌, ℕ, ◌≤◌, List, Some, None, slice_get}
use Rattle.frame_core.specs.Column.{Column}
use Rattle.frame_core.specs.Match.{Match, agreed_world}
use Rattle.replay_run.specs.declared.difference.Difference.{Difference}
use Rattle.replay_run.specs.declared.replayed.Replayed.{Replayed}
use Rattle.replay_run.specs.Rerun.{Rerun, rerun_over}

-- The difference is that of one of the marks, and no differing mark has fewer frames before it.
pub record IsLeastDifference (hash_at : ℕ → ℕ) (marks : List (ℕ × ℕ)) (d : Difference)
    : Type 0 where
  pub place : ℕ
  pub stands : slice_get marks place ≡ Some (d.frames, d.file)
  pub here : d.here ≡ hash_at d.frames
  pub differs : d.file ≢ d.here
  pub least :
      (i : ℕ) (mark : ℕ × ℕ) → slice_get marks i ≡ Some mark → mark.1 ≢ hash_at mark.0 →
      d.frames ≤ mark.0

-- Each of the marks has the hash for its number of frames.
abbrev pub AllAgree : (ℕ → ℕ) → List (ℕ × ℕ) → Type 0
AllAgree hash_at marks =
    (i : ℕ) (mark : ℕ × ℕ) → slice_get marks i ≡ Some mark → mark.1 ≡ hash_at mark.0

-- Where the replays of a match are run.
abbrev pub rerun_of : {W : Type 0} → Match W → (first_hash : W → ℕ) → Rerun W
rerun_of m first_hash = rerun_over m.after m.hash first_hash m.summary m.start

-- The agreed world after so many frames, with no differing mark.
abbrev pub agreed_replayed : {W : Type 0} → Match W → List Column → ℕ → Replayed W
agreed_replayed m columns n =
    record { difference = None; frames = n; world = agreed_world m columns n }
