use Rattle.std.proofs.Common.{◌≡◌, ◌++◌, take, drop}
use Rattle.yaml_lines.specs.Reading.{unescape}
use Rattle.yaml_lines.proofs.line.find_escape.Given as goal

abbrev pub invariant-loop-at : goal.invariant-loop-at
invariant-loop-at l = unescape l.text ≡ take l.at l.text ++ unescape (drop l.at l.text)
