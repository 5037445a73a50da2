use Rattle.std.proofs.Common.{◌≡◌, length}
use Rattle.report_line.specs.Reports.{heard, joined, IsSameReceiver}
use Rattle.match_serve.specs.Heard.{HasHeard}
use Rattle.match_serve.proofs.hearing.take_reports.Given as goal

abbrev pub invariant-loop-turn : goal.invariant-loop-turn
invariant-loop-turn g l = HasHeard (length l.fn.board.reports) l.board.reports (heard l.receiver) × (length l.board.reports ≡ length l.fn.board.reports)
    × (l.board.wanted ≡ l.fn.board.wanted) × (joined l.receiver ≡ joined l.fn.receiver) × IsSameReceiver l.fn.receiver l.receiver
