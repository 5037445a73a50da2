-- What is added so far and what is left are together the whole.
use Rattle.std.proofs.Common.{◌≡◌, ◌++◌, drop, string_bytes}
use Rattle.std.specs.List.{flat_map}
use Rattle.compare_command.specs.Lines.{build_word, comma_word}
use Rattle.compare_command.proofs.words.add_more_builds.Given as goal

abbrev pub invariant-loop-build : goal.invariant-loop-build
invariant-loop-build l =
    string_bytes l.text ++ flat_map (comma_word build_word) (drop l.build-index l.builds)
    ≡ string_bytes l.initial.text ++ flat_map (comma_word build_word) l.builds
