-- What is added so far and what is left are together the whole.
use Rattle.std.proofs.Common.{◌≡◌, ◌++◌, drop, string_bytes}
use Rattle.std.specs.List.{flat_map}
use Rattle.world_text.specs.WorldText.{spaced_number}
use Rattle.world_text.proofs.lines.add_numbers.Given as goal

abbrev pub invariant-loop-number : goal.invariant-loop-number
invariant-loop-number l =
    string_bytes l.text ++ flat_map spaced_number (drop l.number-index l.each)
    ≡ string_bytes l.initial.text ++ flat_map spaced_number l.each
