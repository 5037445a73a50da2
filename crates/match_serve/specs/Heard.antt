-- What the board has of the reports that were heard.
use Rattle.std.specs.Prelude.{◌≡◌, ℕ, ◌<◌, ◌==◌, if◌then◌else◌, List, [], ◌∷◌, Option, Some, None}
use Rattle.game_orders.specs.declared.limits.TheConstants.{MAX_FRAMES}
use Rattle.server_core.specs.Board.{reports_of, report_at}
use Rattle.report_line.specs.declared.heard.Heard.{Heard}
use Rattle.report_line.specs.Order.{of_client}

-- The hash of the first of these reports for a frame.
abbrev pub first_report : List Heard → ℕ → Option ℕ
first_report [] n = None
first_report (heard ∷ others) n =
    if heard.frame == n then Some heard.hash else first_report others n

-- Of each client the board has the first report for each frame of a match.
abbrev pub HasHeard : ℕ → List (List (Option ℕ)) → List Heard → Type 0
HasHeard clients reports heard =
    (c n : ℕ) → c < clients → n < MAX_FRAMES →
    report_at (reports_of reports c) n ≡ first_report (of_client c heard) n
