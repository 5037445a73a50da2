-- What is added so far and what is left are together the whole.
use Rattle.std.proofs.Common.{◌≡◌, ◌++◌, drop, string_bytes}
use Rattle.std.specs.List.{flat_map}
use Rattle.world_text.specs.WorldText.{activity_line}
use Rattle.world_text.proofs.lines.add_activities.Given as goal

abbrev pub invariant-loop-act : goal.invariant-loop-act
invariant-loop-act l =
    string_bytes l.text ++ flat_map activity_line (drop l.act-index l.acts)
    ≡ string_bytes l.initial.text ++ flat_map activity_line l.acts
