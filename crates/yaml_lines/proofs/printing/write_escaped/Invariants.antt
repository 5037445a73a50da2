use Rattle.std.proofs.Common.{◌≡◌, ◌++◌, drop}
use Rattle.yaml_lines.specs.Printed.{escape}
use Rattle.yaml_lines.proofs.printing.write_escaped.Given as goal

abbrev pub invariant-loop-byte : goal.invariant-loop-byte
invariant-loop-byte l = l.out.items ++ escape (drop l.byte-index l.text) ≡ l.initial.out.items ++ escape l.text
