-- The first bytes are written.
use Rattle.std.proofs.Common.{◌≡◌, ◌++◌, take, drop}
use Rattle.c_worlds.specs.Sights.{flags_of}
use Rattle.c_worlds.proofs.sights.write_flags.Given as goal

abbrev pub invariant-loop-i : goal.invariant-loop-i
invariant-loop-i l = l.out ≡ take l.i (flags_of l.client l.shroud) ++ drop l.i l.fn.out
