use Rattle.std.proofs.Common.{◌≡◌, ◌++◌, take, drop}
use Rattle.yaml_lines.specs.Reading.{without_comment}
use Rattle.yaml_lines.proofs.line.without_comment.Given as goal

abbrev pub invariant-loop-at : goal.invariant-loop-at
invariant-loop-at l = without_comment 0 l.text ≡ take l.at l.text ++ without_comment l.before (drop l.at l.text)
