-- What is added so far and what is left are together the whole.
use Rattle.std.proofs.Common.{◌≡◌, ◌++◌, drop, string_bytes}
use Rattle.std.specs.List.{flat_map}
use Rattle.world_text.specs.WorldText.{spaced_flag}
use Rattle.world_text.proofs.lines.add_flags.Given as goal

abbrev pub invariant-loop-flag : goal.invariant-loop-flag
invariant-loop-flag l =
    string_bytes l.text ++ flat_map spaced_flag (drop l.flag-index l.each)
    ≡ string_bytes l.initial.text ++ flat_map spaced_flag l.each
