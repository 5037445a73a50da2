use Rattle.std.proofs.Common.{◌+◌, ◌/◌, ℕ, map, ap, ◌∙◌, sym, subst, arith}
use Rattle.packed_lists.specs.Digits.{unpacked, ArePacked, is_one}
use Rattle.packed_lists.proofs.PackedLemmas.{clear_unpacked, zeros_packed}
use Rattle.packed_lists.proofs.bits.Bits.clear.Goals as goal

pub invariant_of-result : goal.invariant_of-result
invariant_of-result c =
    let n : ℕ = (c.args.len + 63) / 64 in
    subst (ArePacked 2 64 c.args.len) (sym c.in_ok-words.ensures) (zeros_packed 2 64 c.args.len n (omega arith) (omega arith) (omega arith))

pub returns : goal.returns
returns c =
    let n : ℕ = (c.args.len + 63) / 64 in
    ap (λ ws. map is_one (unpacked 2 64 c.args.len ws)) c.in_ok-words.ensures ∙ clear_unpacked 64 c.args.len n (omega arith)
