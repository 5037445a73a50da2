use Rattle.std.proofs.Common.{◌≡◌, ℕ, ◌<◌, get_or, length}
use Rattle.twister.specs.Sequence.{x_of}
use Rattle.twister.proofs.block.first_block.Given as goal

abbrev pub invariant-loop-i : goal.invariant-loop-i
invariant-loop-i l = record {
  whole : length l.block ≡ 624;
  seeded : (j : ℕ) → j < l.i → get_or l.block j 0 ≡ x_of l.seed j;
}
