-- The test by which keys are compared.
use Rattle.std.proofs.Common.{◌≡◌, ℕ, List, sym}
use Rattle.std.proofs.lemmas.Bool.Decides.{same_from_decides}
use Rattle.std.proofs.lemmas.Slice.Eq.{bytes_eq-Decides}
use Rattle.std.specs.Str.{bytes_eq}

pub bytes_flip : (one other : List ℕ) → bytes_eq one other ≡ bytes_eq other one
bytes_flip one other =
    let d = bytes_eq-Decides other one in
    same_from_decides (bytes_eq one other) (bytes_eq other one) (bytes_eq-Decides one other) (λ e. sym (d.0 e), λ e. d.1 (sym e))
