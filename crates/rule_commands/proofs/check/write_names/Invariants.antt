-- What is written, with the names that are left, is all.
use Rattle.std.proofs.Common.{◌≡◌, ◌++◌, drop, string_bytes}
use Rattle.rule_commands.specs.Checks.{trait_names}
use Rattle.rule_commands.proofs.check.write_names.Given as goal

abbrev pub invariant-loop-known : goal.invariant-loop-known
invariant-loop-known l =
    (string_bytes l.text ++ trait_names l.kind (drop l.known-index l.traits) ≡ string_bytes l.fn.text ++ trait_names l.fn.kind l.fn.traits)
    × (l.kind ≡ l.fn.kind)
