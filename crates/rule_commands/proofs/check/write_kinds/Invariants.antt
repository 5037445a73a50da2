-- What is written, with the lines that are left, is all.
use Rattle.std.proofs.Common.{◌≡◌, ◌++◌, drop, string_bytes}
use Rattle.rule_commands.specs.Checks.{kind_lines}
use Rattle.rule_commands.proofs.check.write_kinds.Given as goal

abbrev pub invariant-loop-number : goal.invariant-loop-number
invariant-loop-number l =
    string_bytes l.text ++ kind_lines l.number-counter (drop l.number-counter l.kinds) ≡ string_bytes l.fn.text ++ kind_lines 0 l.fn.kinds
