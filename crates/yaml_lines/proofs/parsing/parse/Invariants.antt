use Rattle.std.proofs.Common.{◌≡◌, ◌+◌, ◌≤◌, ◌++◌, length}
use Rattle.yaml_lines.specs.declared.TheConstants.{MAX_LINES}
use Rattle.base.specs.Lines.{lines_of}
use Rattle.yaml_lines.specs.Kept.{kept_from, kept_lines, fault_from, first_line_fault}
use Rattle.yaml_lines.specs.Grown.{flat_grown, height}
use Rattle.yaml_lines.proofs.parsing.parse.Given as goal

abbrev pub invariant-loop-text : goal.invariant-loop-text
invariant-loop-text l = record {
  line : l.line ≤ MAX_LINES + 1;
  kept : flat_grown l.grown ++ kept_from l.file l.line (lines_of l.rest) ≡ kept_lines l.file l.bytes;
  fault : fault_from l.file l.line (height l.grown) (lines_of l.rest) ≡ first_line_fault l.file l.bytes;
}

abbrev pub decreases-loop-text : goal.decreases-loop-text
decreases-loop-text l = length l.rest
