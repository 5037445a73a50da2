-- What is added so far and what is left are together the whole.
use Rattle.std.proofs.Common.{◌≡◌, ◌++◌, drop, string_bytes}
use Rattle.drill.specs.Report.{alarm_lines}
use Rattle.drill.proofs.closing.write_alarms.Given as goal

abbrev pub invariant-loop-c : goal.invariant-loop-c
invariant-loop-c l =
    string_bytes l.text ++ alarm_lines l.board.wanted l.c (drop l.c l.board.reports)
    ≡ string_bytes l.initial.text ++ alarm_lines l.board.wanted 0 l.board.reports
