-- The replay that replaces one in the version that is written.
use Rattle.std.specs.Prelude.{ℕ}
use Rattle.replay_file.specs.declared.limits.TheConstants.{VERSION}
use Rattle.replay_file.specs.declared.replay.Replay.{Replay}
use Rattle.replay_file.specs.Frames.{marked_anew}

-- The same frames, and a mark wherever the old one has one, with the hash for the number of frames
-- before it.
abbrev pub migrated : (ℕ → ℕ) → Replay → Replay
migrated hash_after r =
    record {
      version = VERSION;
      rules = r.rules;
      seed = r.seed;
      clients = r.clients;
      parts = marked_anew hash_after 0 r.parts;
    }

-- A mark with its new hash.
abbrev pub anew : (ℕ → ℕ) → ℕ × ℕ → ℕ × ℕ
anew hash_after mark = (mark.0, hash_after mark.0)
