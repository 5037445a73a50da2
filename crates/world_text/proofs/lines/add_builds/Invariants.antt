-- What is added so far and what is left are together the whole.
use Rattle.std.proofs.Common.{◌≡◌, ◌++◌, drop, string_bytes}
use Rattle.std.specs.List.{flat_map}
use Rattle.world_text.specs.WorldText.{build_line}
use Rattle.world_text.proofs.lines.add_builds.Given as goal

abbrev pub invariant-loop-build : goal.invariant-loop-build
invariant-loop-build l =
    string_bytes l.text ++ flat_map build_line (drop l.build-index l.builds)
    ≡ string_bytes l.initial.text ++ flat_map build_line l.builds
