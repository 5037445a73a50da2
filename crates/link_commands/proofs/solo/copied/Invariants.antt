-- The plays that were copied are the first ones.
use Rattle.std.proofs.Common.{◌≡◌, take}
use Rattle.link_commands.proofs.solo.copied.Given as goal

abbrev pub invariant-loop-n : goal.invariant-loop-n
invariant-loop-n l = l.all.items ≡ take l.n l.plays
