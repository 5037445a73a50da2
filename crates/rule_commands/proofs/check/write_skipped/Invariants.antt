-- What is written, with the lines that are left, is all.
use Rattle.std.proofs.Common.{◌≡◌, ◌++◌, drop, map, string_bytes}
use Rattle.rule_commands.specs.Checks.{skipped_lines}
use Rattle.rule_commands.proofs.check.write_skipped.Given as goal

abbrev pub invariant-loop-node : goal.invariant-loop-node
invariant-loop-node l =
    string_bytes l.text ++ skipped_lines (map (λ name. name.now) l.names) (drop l.node-index l.nodes)
    ≡ string_bytes l.fn.text ++ skipped_lines (map (λ name. name.now) l.fn.names) l.fn.nodes
