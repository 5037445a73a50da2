-- A server serves a match: its world is the agreed world of the frames that it ticked, and its
-- marks are the hashes of the agreed worlds after them.
use Rattle.std.specs.Prelude.{◌≡◌, ◌≢◌, ℕ, zero, suc, ◌+◌, ◌<◌, ◌≤◌}
use Rattle.std.specs.Prelude.{List, [], ◌∷◌, ◌++◌, Option, Some, None}
use Rattle.frame_core.specs.Column.{Column}
use Rattle.frame_core.specs.Agreed.{IsAt}
use Rattle.frame_core.specs.Match.{Match, agreed_hash}
use Rattle.server_core.specs.declared.alarm.Alarm.{Alarm}
use Rattle.server_core.specs.Board.{report_at}
use Rattle.server_core.specs.Server.{ServerState}

-- The first n marks, where `hash_at k` is the hash of the agreed world of k frames.
abbrev pub marks_by : (ℕ → ℕ) → ℕ → List ℕ
marks_by hash_at zero = []
marks_by hash_at (suc n) = marks_by hash_at n ++ hash_at (suc n) ∷ []

-- The marks of the first n agreed frames.
abbrev pub agreed_marks : {W : Type 0} → Match W → List Column → ℕ → List ℕ
agreed_marks m columns n = marks_by (agreed_hash m columns) n

pub record IsServed {W : Type 0} (m : Match W) (server : ServerState W) : Type 0 where
  pub at : IsAt m.after m.start server.columns server.ticked server.world
  pub marks : server.marks ≡ agreed_marks m server.columns server.ticked

-- The hash that is kept for ticked frame n differs from that of the agreed world after it.
pub record DesyncAt
    (reports : List (Option ℕ)) (count : ℕ) (hash_at : ℕ → ℕ) (n got : ℕ) : Type 0 where
  pub ticked : n < count
  pub reported : report_at reports n ≡ Some got
  pub differ : got ≢ hash_at (n + 1)

-- The alarm has the least such frame, with both hashes. There is none only where there is no such
-- frame.
abbrev pub IsAgreedAlarm : List (Option ℕ) → ℕ → (ℕ → ℕ) → Option Alarm → Type 0
IsAgreedAlarm reports count hash_at None = (n got : ℕ) → DesyncAt reports count hash_at n got → ⊥
IsAgreedAlarm reports count hash_at (Some alarm) =
    DesyncAt reports count hash_at alarm.frame alarm.got
    × (alarm.want ≡ hash_at (alarm.frame + 1))
    × ((n got : ℕ) → DesyncAt reports count hash_at n got → alarm.frame ≤ n)
