use Rattle.std.proofs.Common.{◌+◌, ◌/◌, ℕ, ap, ◌∙◌, sym, subst, arith}
use Rattle.packed_lists.specs.Digits.{unpacked, ArePacked}
use Rattle.packed_lists.proofs.PackedLemmas.{zeros_unpacked, zeros_packed}
use Rattle.packed_lists.proofs.nibbles.Nibbles.zeros.Goals as goal

pub invariant_of-result : goal.invariant_of-result
invariant_of-result c =
    let n : ℕ = (c.args.len + 15) / 16 in
    subst (ArePacked 16 16 c.args.len) (sym c.in_ok-words.ensures) (zeros_packed 16 16 c.args.len n (omega arith) (omega arith) (omega arith))

pub returns : goal.returns
returns c =
    let n : ℕ = (c.args.len + 15) / 16 in
    ap (unpacked 16 16 c.args.len) c.in_ok-words.ensures ∙ zeros_unpacked 16 16 c.args.len n (omega arith) (omega arith)
