-- What is added so far and what is left are together the whole.
use Rattle.std.proofs.Common.{◌≡◌, ◌++◌, drop, string_bytes}
use Rattle.std.specs.List.{flat_map}
use Rattle.compare_command.specs.Lines.{activity_word, comma_word}
use Rattle.compare_command.proofs.words.add_more_acts.Given as goal

abbrev pub invariant-loop-act : goal.invariant-loop-act
invariant-loop-act l =
    string_bytes l.text ++ flat_map (comma_word activity_word) (drop l.act-index l.acts)
    ≡ string_bytes l.initial.text ++ flat_map (comma_word activity_word) l.acts
