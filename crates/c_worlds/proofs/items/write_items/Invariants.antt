-- The first of it is written.
use Rattle.std.proofs.Common.{◌≡◌, ◌++◌, take, drop}
use Rattle.c_worlds.specs.Items.{items_of}
use Rattle.c_worlds.proofs.items.write_items.Given as goal

abbrev pub invariant-loop-i : goal.invariant-loop-i
invariant-loop-i l = l.out ≡ take l.i (items_of l.actor) ++ drop l.i l.fn.out
