-- Worlds that the same frames make.
use Rattle.std.specs.Prelude.{◌≡◌, ℕ, zero, suc, ◌+◌, ◌<◌, List}
use Rattle.std.proofs.Common.{refl, ap₂, arith, add-one}
use Rattle.game_orders.specs.declared.entry.Entry.{Entry}
use Rattle.frame_core.specs.Fold.{folded}

-- The same frames make the same world.
pub folded_same :
    {W : Type 0} (after : W → List Entry → W) (start : W) (frames others : ℕ → List Entry) (n : ℕ) →
    ((k : ℕ) → k < n → frames k ≡ others k) →
    folded after start frames n ≡ folded after start others n
folded_same after start frames others zero same = refl
folded_same after start frames others (suc n) same =
    ap₂ after (folded_same after start frames others n (λ k below. same k (omega arith))) (same n (omega arith))

-- One frame more is one step more.
pub folded_step :
    {W : Type 0} (after : W → List Entry → W) (start : W) (frames : ℕ → List Entry) (n : ℕ) →
    folded after start frames (n + 1) ≡ after (folded after start frames n) (frames n)
folded_step after start frames n = rw add-one refl
