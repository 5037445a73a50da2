-- What is counted so far, and what is left to count, is the whole.
use Rattle.std.proofs.Common.{◌≡◌, ◌+◌, drop}
use Rattle.std.specs.List.{prefix_len}
use Rattle.drill_words.specs.KeptLine.{is_of_line}
use Rattle.drill_words.proofs.kept_lines.line_length.Given as goal

abbrev pub invariant-loop-index : goal.invariant-loop-index
invariant-loop-index l = l.index + prefix_len is_of_line (drop l.index l.text) ≡ prefix_len is_of_line l.text
