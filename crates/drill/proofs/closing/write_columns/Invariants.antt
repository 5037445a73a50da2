-- What is added so far and what is left are together the whole.
use Rattle.std.proofs.Common.{◌≡◌, ◌++◌, drop, string_bytes}
use Rattle.drill.specs.Report.{column_lines}
use Rattle.drill.proofs.closing.write_columns.Given as goal

abbrev pub invariant-loop-c : goal.invariant-loop-c
invariant-loop-c l =
    string_bytes l.text ++ column_lines l.c (drop l.c l.columns) ≡ string_bytes l.initial.text ++ column_lines 0 l.columns
