use Rattle.std.proofs.Common.{◌≡◌, ◌++◌, take, length}
use Rattle.match_run.proofs.ticking.add_entries.Given as goal

abbrev pub invariant-loop-i : goal.invariant-loop-i
invariant-loop-i l = (l.frame ≡ l.initial.frame ++ take l.i l.entries) × (l.i-end ≡ length l.entries)
