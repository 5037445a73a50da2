use Rattle.std.proofs.Common.{◌≡◌, ◌++◌, take, drop}
use Rattle.yaml_lines.specs.Reading.{before_colon, after_colon}
use Rattle.yaml_lines.proofs.line.split_colon.Given as goal

abbrev pub invariant-loop-at : goal.invariant-loop-at
invariant-loop-at l =
    (before_colon l.text ≡ take l.at l.text ++ before_colon (drop l.at l.text))
    × (after_colon l.text ≡ after_colon (drop l.at l.text))
