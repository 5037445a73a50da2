-- What the replay of a match is over an opening world: the worlds that its frames make, the marks
-- that differ from their hashes, and the replay with marks of the version that is written.
use Rattle.std.specs.Prelude.{ℕ, ◌+◌, ◌-◌, ◌==◌, nat_le, nat_lt, Bool, not, List, [], length}
use Rattle.std.specs.Prelude.{slice_get, Option, option_map, unwrap_or}
use Rattle.std.specs.List.{filter, find}
use Rattle.game_orders.specs.declared.entry.Entry.{Entry}
use Rattle.frame_core.specs.declared.summary.Summary.{Summary}
use Rattle.frame_core.specs.Fold.{folded}
use Rattle.replay_file.specs.declared.part.Part.{Part}
use Rattle.replay_file.specs.declared.replay.Replay.{Replay}
use Rattle.replay_file.specs.Frames.{frames_of, marks_of}
use Rattle.replay_file.specs.Migrated.{migrated}
use Rattle.replay_run.specs.declared.difference.Difference.{Difference}
use Rattle.replay_run.specs.declared.replayed.Replayed.{Replayed}
use Rattle.replay_run.specs.Passing.{hash_by}

-- Where replays are run: an opening world, its step by a frame, its hash, its hash in the first
-- version, and its summary.
pub record Rerun (W : Type 0) : Type 0 where
  pub start : W
  pub after : W → List Entry → W
  pub hash : W → ℕ
  pub first_hash : W → ℕ
  pub summary : W → Summary

abbrev pub rerun_over :
    {W : Type 0} → (W → List Entry → W) → (hash first_hash : W → ℕ) → (W → Summary) → (start : W) →
    Rerun W
rerun_over after hash first_hash summary start =
    record {
      start = start;
      after = after;
      hash = hash;
      first_hash = first_hash;
      summary = summary;
    }

-- Frame n of the parts.
abbrev pub frame_in : List Part → ℕ → List Entry
frame_in parts n = unwrap_or (slice_get (frames_of parts) n) []

-- The world after the frames 0 to n - 1 of the parts.
abbrev pub world_in : {W : Type 0} → Rerun W → List Part → ℕ → W
world_in run parts n = folded run.after run.start (frame_in parts) n

-- The hash that a mark of a version has for a world.
abbrev pub mark_hash : {W : Type 0} → Rerun W → (version : ℕ) → W → ℕ
mark_hash run version world = hash_by run.hash run.first_hash version world

-- The hash for a mark of the replay after n frames.
abbrev pub hash_in : {W : Type 0} → Rerun W → Replay → ℕ → ℕ
hash_in run r n = mark_hash run r.version (world_in run r.parts n)

-- The mark differs from the hash for its number of frames.
abbrev pub differs : (ℕ → ℕ) → ℕ × ℕ → Bool
differs hash_at mark = not (mark.1 == hash_at mark.0)

abbrev pub difference_at : (ℕ → ℕ) → ℕ × ℕ → Difference
difference_at hash_at mark =
    record { frames = mark.0; file = mark.1; here = hash_at mark.0 }

-- The first of the marks that differs, if one does. Marks stand in the order of the frames before
-- them.
abbrev pub first_difference : (ℕ → ℕ) → List (ℕ × ℕ) → Option Difference
first_difference hash_at marks =
    option_map (difference_at hash_at) (find (differs hash_at) marks)

-- The differing mark of the replay with the fewest frames before it, if one differs.
abbrev pub difference_of : {W : Type 0} → Rerun W → Replay → Option Difference
difference_of run r = first_difference (hash_in run r) (marks_of r.parts)

abbrev pub frame_count : Replay → ℕ
frame_count r = length (frames_of r.parts)

abbrev pub mark_count : Replay → ℕ
mark_count r = length (marks_of r.parts)

-- What a replay gives: the differing mark, and the world after all of its frames.
abbrev pub replayed : {W : Type 0} → Rerun W → Replay → Replayed W
replayed run r =
    record {
      difference = difference_of run r;
      frames = frame_count r;
      world = world_in run r.parts (frame_count r);
    }

-- The replay in the version that is written: the same frames, and at each of its marks the hash of
-- the world there.
abbrev pub migrated_over : {W : Type 0} → Rerun W → Replay → Replay
migrated_over run r = migrated (λ n. run.hash (world_in run r.parts n)) r

-- ---- runs from a frame on, over a world that has so many frames before it

-- The world after the frames 0 to n - 1 of the parts, where the run's world is that after the first
-- `from` of them.
abbrev pub world_from : {W : Type 0} → Rerun W → (from : ℕ) → List Part → ℕ → W
world_from run from parts n =
    folded run.after run.start (λ k. frame_in parts (from + k)) (n - from)

abbrev pub hash_from : {W : Type 0} → Rerun W → (from : ℕ) → Replay → ℕ → ℕ
hash_from run from r n = mark_hash run r.version (world_from run from r.parts n)

-- The marks that have so many frames or more before them.
abbrev pub marks_from : (from : ℕ) → List Part → List (ℕ × ℕ)
marks_from from parts = filter (λ mark. nat_le from mark.0) (marks_of parts)

-- Those that have fewer.
abbrev pub marks_before : (from : ℕ) → List Part → List (ℕ × ℕ)
marks_before from parts = filter (λ mark. nat_lt mark.0 from) (marks_of parts)

abbrev pub difference_from : {W : Type 0} → Rerun W → (from : ℕ) → Replay → Option Difference
difference_from run from r = first_difference (hash_from run from r) (marks_from from r.parts)

-- What a run from a frame on gives: all frames of the replay count, and the marks before are not
-- compared.
abbrev pub replayed_from : {W : Type 0} → Rerun W → (from : ℕ) → Replay → Replayed W
replayed_from run from r =
    record {
      difference = difference_from run from r;
      frames = frame_count r;
      world = world_from run from r.parts (frame_count r);
    }

-- The run that goes on from the world after the first frames of the replay.
abbrev pub resumed_at : {W : Type 0} → Rerun W → (from : ℕ) → Replay → Rerun W
resumed_at run from r = record run { start = world_in run r.parts from }

-- What a whole replay gives, with the differing mark among those that have so many frames or more
-- before them.
abbrev pub replayed_late : {W : Type 0} → Rerun W → (from : ℕ) → Replay → Replayed W
replayed_late run from r =
    record (replayed run r) {
      difference = first_difference (hash_in run r) (marks_from from r.parts);
    }
