-- The replay of a match.
use Rattle.std.specs.Prelude.{ℕ, zero, suc, ◌+◌, List, [], ◌∷◌, ◌++◌, slice_index_or}
use Rattle.game_orders.specs.declared.entry.Entry.{Entry}
use Rattle.frame_core.specs.Column.{Column}
use Rattle.frame_core.specs.Match.{Match, agreed_hash}
use Rattle.frame_core.specs.Ready.{frame_at}
use Rattle.replay_file.specs.declared.limits.TheConstants.{VERSION}
use Rattle.replay_file.specs.declared.part.Part.{Part}
use Rattle.replay_file.specs.declared.part.Part.TheVariants.{Frame, Mark}
use Rattle.replay_file.specs.declared.replay.Replay.{Replay}

-- The first n frames, each with a mark after it.
abbrev pub recorded : (frames : ℕ → List Entry) → (hash_after : ℕ → ℕ) → ℕ → List Part
recorded frames hash_after zero = []
recorded frames hash_after (suc n) =
    (recorded frames hash_after n ++ Frame (frames n) ∷ []) ++ Mark (hash_after n) ∷ []

-- The same with marks that stand in a list, one for each frame.
abbrev pub recorded_by : List Column → (marks : List ℕ) → ℕ → List Part
recorded_by columns marks n =
    recorded (frame_at columns) (λ k. slice_index_or marks k 0) n

-- The hash of the agreed world after frame n.
abbrev pub hash_after_frame : {W : Type 0} → Match W → List Column → ℕ → ℕ
hash_after_frame m columns n = agreed_hash m columns (n + 1)

-- The replay of a match with these rules and this seed: the agreed frames that were ticked, each
-- with a mark after it, the hash of the agreed world there.
abbrev pub replay_of :
    {W : Type 0} → Match W → (rules seed : ℕ) → List Column → (ticked : ℕ) → Replay
replay_of m rules seed columns ticked =
    record {
      version = VERSION;
      rules = rules;
      seed = seed;
      clients = m.clients;
      parts = recorded (frame_at columns) (hash_after_frame m columns) ticked;
    }
