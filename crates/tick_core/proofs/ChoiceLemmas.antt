-- What holds of a choice of two.
use Rattle.std.specs.Prelude.{if◌then◌else◌}
use Rattle.std.proofs.Common.{Bool}
use Rattle.std.proofs.lemmas.Bool.{cond_both}

-- What holds of both choices holds of the one that is taken.
pub by_if : {R : Type 0} (P : R → Type 0) (b : Bool) (x y : R) → P x → P y → P (if b then x else y)
by_if P b x y left right = cond_both b x y P (λ e. left) (λ e. right)
