use Rattle.std.proofs.Common.{◌≡◌, ◌↔◌, IsTrue, drop}
use Rattle.packed_lists.proofs.words.same_words.Given as goal

abbrev pub invariant-loop-i : goal.invariant-loop-i
invariant-loop-i l =
    (IsTrue l.same × (drop l.i l.words ≡ drop l.i l.others)) ↔ (l.words ≡ l.others)
