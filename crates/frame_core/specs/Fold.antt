-- The world that frames make of an opening: the step of a world folded over them, one step a frame.
use Rattle.std.specs.Prelude.{ℕ, zero, suc, List}
use Rattle.game_orders.specs.declared.entry.Entry.{Entry}

-- The world after the frames 0 to n - 1 of any source of frames.
abbrev pub folded :
    {W : Type 0} → (after : W → List Entry → W) → (start : W) → (frames : ℕ → List Entry) → ℕ → W
folded after start frames zero = start
folded after start frames (suc n) = after (folded after start frames n) (frames n)
