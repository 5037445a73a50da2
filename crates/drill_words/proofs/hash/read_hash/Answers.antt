use Rattle.std.proofs.Common.{ℕ, ◌+◌, ◌*◌, ◌^◌, ◌<◌, ◌≤◌, lit<, arith}
use Rattle.std.proofs.Math.Nat.{pow-le-pow_right}
use Rattle.drill_words.proofs.hash.read_hash.Goals as goal

-- Fewer than sixteen digits stand before this one.
below_top : (value index digit : ℕ) → value < 16 ^ index → index < 16 → digit < 16 → value * 16 + digit < 2 ^ 64
below_top value index digit bound digits low =
    let some : 0 < 16 = lit< tt in
    let most : index ≤ 15 = omega arith in
    let top : 16 ^ index ≤ 16 ^ 15 = pow-le-pow_right some most in
    omega arith

pub overflow_mul-value : goal.overflow_mul-value
overflow_mul-value c =
    omega (arith, below_top c.loop-byte.value c.loop-byte.byte-index 0 c.loop-byte.invariant.bound (omega arith) (omega arith))

pub overflow_add-value : goal.overflow_add-value
overflow_add-value c =
    omega (arith, below_top c.loop-byte.value c.loop-byte.byte-index c.from.result c.loop-byte.invariant.bound (omega arith) (omega arith))
