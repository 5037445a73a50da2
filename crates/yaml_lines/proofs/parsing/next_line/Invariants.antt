use Rattle.std.proofs.Common.{◌≡◌, take, drop}
use Rattle.base.specs.Lines.{lines_of}
use Rattle.yaml_lines.proofs.LineSteps.{led_by}
use Rattle.yaml_lines.proofs.parsing.next_line.Given as goal

abbrev pub invariant-loop-at : goal.invariant-loop-at
invariant-loop-at l = lines_of l.bytes ≡ led_by (take l.at l.bytes) (lines_of (drop l.at l.bytes))
