-- What is still read after the held entries is what all of the bytes give.
use Rattle.std.proofs.Common.{◌≡◌, ◌++◌, [], length, take, drop}
use Rattle.std.specs.List.{AllByRecursion}
use Rattle.replay_file.specs.PartReading.{entries_after}
use Rattle.replay_file.specs.PartBytes.{entries_bytes}
use Rattle.replay_file.specs.PartRules.{HasTagsUpTo, StayDeparted}
use Rattle.replay_file.proofs.part_reading.read_entries.Given as goal

abbrev pub invariant-loop-gone : goal.invariant-loop-gone
invariant-loop-gone l =
    (entries_after l.greatest l.frame (drop l.gone-index l.departed) l.c
    ≡ entries_after l.greatest [] l.departed l.fn.c)
    × (length l.frame ≡ l.gone-index)
    × (l.fn.c ≡ entries_bytes l.frame ++ l.c)
    × StayDeparted (take l.gone-index l.departed) l.frame
    × AllByRecursion (HasTagsUpTo l.greatest) l.frame
