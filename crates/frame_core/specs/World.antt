-- The agreed world: the step of a world folded over the agreed frames.
use Rattle.std.specs.Prelude.{ℕ, List}
use Rattle.game_orders.specs.declared.entry.Entry.{Entry}
use Rattle.frame_core.specs.Column.{Column}
use Rattle.frame_core.specs.Fold.{folded}
use Rattle.frame_core.specs.Ready.{frame_at}

-- The world after the agreed frames 0 to n - 1.
abbrev pub world_at : {W : Type 0} → (W → List Entry → W) → W → List Column → ℕ → W
world_at after start columns n = folded after start (frame_at columns) n
