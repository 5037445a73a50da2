-- The board: what each client reported by frame, and the wanted hashes by frame.
use Rattle.std.specs.Prelude.{◌≡◌, ◌≢◌, ℕ, ◌+◌, ◌-◌, ◌<◌, ◌≤◌, ◌⊎◌, nat_lt, if◌then◌else◌}
use Rattle.std.specs.Prelude.{List, [], ◌∷◌, ◌++◌, length, replicate, Option, Some, None, is_some}
use Rattle.std.specs.Prelude.{slice_index_or, slice_set}
use Rattle.game_orders.specs.declared.limits.TheConstants.{MAX_CLIENTS, MAX_FRAMES}
use Rattle.server_core.specs.declared.reported.Reported.{Reported}
use Rattle.server_core.specs.declared.reported.Reported.TheVariants.{Kept, Repeat, Beyond}

-- The reports of each client, a list by frame with a gap where it reported none, and the wanted
-- hash after each ticked frame.
pub record BoardState : Type 0 where
  pub reports : List (List (Option ℕ))
  pub wanted : List ℕ

-- What every board is: it has reports of the clients of a match.
pub record IsBoard (reports : List (List (Option ℕ))) : Type 0 where
  pub least : 1 ≤ length reports
  pub most : length reports ≤ MAX_CLIENTS

-- Nobody has reported, and nothing is wanted.
abbrev pub empty_board : ℕ → BoardState
empty_board clients = record { reports = replicate clients []; wanted = [] }

-- The reports of client c.
abbrev pub reports_of : List (List (Option ℕ)) → ℕ → List (Option ℕ)
reports_of reports c = slice_index_or reports c []

-- The hash that is kept for frame n.
abbrev pub report_at : List (Option ℕ) → ℕ → Option ℕ
report_at reports n = slice_index_or reports n None

-- The reports with room for one for frame n.
abbrev pub with_room : List (Option ℕ) → ℕ → List (Option ℕ)
with_room reports n = reports ++ replicate ((n + 1) - length reports) None

-- The reports with hash h for frame n.
abbrev pub with_report : List (Option ℕ) → ℕ → ℕ → List (Option ℕ)
with_report reports n h = slice_set (with_room reports n) n (Some h)

-- The answer to a report for frame n, by what its client has reported: the first report for a frame
-- stays.
abbrev pub report_answer : List (Option ℕ) → ℕ → Reported
report_answer reports n =
    if nat_lt n MAX_FRAMES then (if is_some (report_at reports n) then Repeat else Kept) else Beyond

-- The client's reports after that answer. Only `Kept` changes them.
abbrev pub own_after_report : Reported → List (Option ℕ) → ℕ → ℕ → List (Option ℕ)
own_after_report Kept reports n h = with_report reports n h
own_after_report Repeat reports n h = reports
own_after_report Beyond reports n h = reports

-- All reports after one of client c for frame n.
abbrev pub reports_after_report : List (List (Option ℕ)) → ℕ → ℕ → ℕ → List (List (Option ℕ))
reports_after_report reports c n h =
    let own = reports_of reports c in
    slice_set reports c (own_after_report (report_answer own n) own n h)

-- After a report of client c for frame n each report that was kept stays. Where none of the client
-- was kept for a frame of a match, this one is. For every other client or frame, and for every
-- frame that no match has, nothing changes.
pub record KeepsFirst (olds news : List (List (Option ℕ))) (c n h : ℕ) : Type 0 where
  pub stays :
      (d m was : ℕ) → report_at (reports_of olds d) m ≡ Some was →
      report_at (reports_of news d) m ≡ Some was
  pub first :
      n < MAX_FRAMES → report_at (reports_of olds c) n ≡ None →
      report_at (reports_of news c) n ≡ Some h
  pub others :
      (d m : ℕ) → (d ≢ c) ⊎ (m ≢ n) →
      report_at (reports_of news d) m ≡ report_at (reports_of olds d) m
  pub beyond : MAX_FRAMES ≤ n → news ≡ olds

-- The board after a report of client c for frame n.
abbrev pub board_after_report : BoardState → ℕ → ℕ → ℕ → BoardState
board_after_report board c n h =
    record board { reports = reports_after_report board.reports c n h }

-- The board with one more wanted hash.
abbrev pub board_with_wanted : BoardState → ℕ → BoardState
board_with_wanted board h = record board { wanted = board.wanted ++ h ∷ [] }
