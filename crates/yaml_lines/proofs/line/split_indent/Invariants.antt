use Rattle.std.proofs.Common.{◌≡◌, ◌≤◌, ◌+◌, length}
use denote.Text.{Utf8}
use denote.Shadow.{shadow}
use Rattle.yaml_lines.specs.Reading.{after_indent, indent_tabs, indent_spaces}
use Rattle.yaml_lines.proofs.line.split_indent.Given as goal

abbrev pub invariant-loop-tabs : goal.invariant-loop-tabs
invariant-loop-tabs l =
    shadow (Utf8 l.rest)
    × (l.tabs + indent_tabs l.rest ≡ indent_tabs l.line)
    × (l.spaces + indent_spaces l.rest ≡ indent_spaces l.line)
    × (after_indent l.rest ≡ after_indent l.line)
    × (l.tabs + l.spaces + length l.rest ≤ length l.line)

abbrev pub decreases-loop-tabs : goal.decreases-loop-tabs
decreases-loop-tabs l = length l.rest
