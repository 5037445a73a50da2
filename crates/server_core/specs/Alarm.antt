-- The alarm of a client: the least frame on which its report differs from the wanted hash.
use Rattle.std.specs.Prelude.{◌≡◌, ◌≢◌, ℕ, ◌+◌, ◌≤◌, ◌==◌, if◌then◌else◌}
use Rattle.std.specs.Prelude.{List, [], ◌∷◌, Option, Some, None, slice_get}
use Rattle.server_core.specs.declared.alarm.Alarm.{Alarm}
use Rattle.server_core.specs.Board.{report_at}

-- The alarm at frame n, if a kept hash differs from the wanted one, else a later one.
abbrev pub alarm_here : ℕ → Option ℕ → ℕ → Option Alarm → Option Alarm
alarm_here n None want later = later
alarm_here n (Some got) want later =
    if got == want then later else Some (record { frame = n; got = got; want = want })

-- The least frame from n on whose kept hash differs from the wanted one. Both lists begin at
-- frame n.
abbrev pub alarm_from : ℕ → List (Option ℕ) → List ℕ → Option Alarm
alarm_from n [] wanted = None
alarm_from n (got ∷ reports) [] = None
alarm_from n (got ∷ reports) (want ∷ wanted) =
    alarm_here n got want (alarm_from (n + 1) reports wanted)

-- The alarm of the client with these reports.
abbrev pub alarm_of : List (Option ℕ) → List ℕ → Option Alarm
alarm_of reports wanted = alarm_from 0 reports wanted

-- A report is kept for frame n and a hash is wanted after it, and they differ.
pub record DiffersAt (reports : List (Option ℕ)) (hashes : List ℕ) (n got want : ℕ) : Type 0 where
  pub reported : report_at reports n ≡ Some got
  pub wanted : slice_get hashes n ≡ Some want
  pub differ : got ≢ want

-- The alarm has the least frame at which they differ, with both hashes. There is none only where
-- they differ at no frame.
abbrev pub IsAlarm : List (Option ℕ) → List ℕ → Option Alarm → Type 0
IsAlarm reports hashes None = (n got want : ℕ) → DiffersAt reports hashes n got want → ⊥
IsAlarm reports hashes (Some alarm) =
    DiffersAt reports hashes alarm.frame alarm.got alarm.want
    × ((n got want : ℕ) → DiffersAt reports hashes n got want → alarm.frame ≤ n)
