-- The lines so far and those of the links that are left are all lines.
use Rattle.std.proofs.Common.{◌≡◌, ◌++◌, drop, string_bytes}
use Rattle.serve_command.specs.ServeText.{link_lines}
use Rattle.serve_command.proofs.serve_text.add_links.Given as goal

abbrev pub invariant-loop-c : goal.invariant-loop-c
invariant-loop-c l = string_bytes l.text ++ link_lines l.c (drop l.c l.ends) ≡ string_bytes l.initial.text ++ link_lines 0 l.ends
