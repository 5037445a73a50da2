-- The least of several numbers, in whatever order they are compared.
use Rattle.std.proofs.Common.{◌≡◌, ℕ, refl, ap, arith}
use Rattle.std.specs.Prelude.{min, Option, None, Some}
use Rattle.peer_core.specs.Arrived.{least_of}

pub least_assoc : (first second third : Option ℕ) →
    least_of (least_of first second) third ≡ least_of first (least_of second third)
least_assoc None second third = refl
least_assoc (Some n) None third = refl
least_assoc (Some n) (Some m) None = refl
least_assoc (Some n) (Some m) (Some k) = let same : min (min n m) k ≡ min n (min m k) =
    omega arith in ap Some same
