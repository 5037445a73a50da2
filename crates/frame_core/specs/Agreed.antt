-- A world that is the agreed world of some frames, all of them ready.
use Rattle.std.specs.Prelude.{◌≡◌, ℕ, ◌<◌, List}
use Rattle.game_orders.specs.declared.entry.Entry.{Entry}
use Rattle.frame_core.specs.Column.{Column}
use Rattle.frame_core.specs.declared.ready.Ready.TheVariants.{Yes}
use Rattle.frame_core.specs.Ready.{ready_at}
use Rattle.frame_core.specs.World.{world_at}

-- Each frame below n is ready: each client has a play at it or has left by then, and one has a
-- play.
abbrev pub AreReady : List Column → ℕ → Type 0
AreReady columns n = (k : ℕ) → k < n → ready_at columns k ≡ Yes

-- The world is the agreed world of n frames, and these are ready.
pub record IsAt {W :
    Type 0} (after : W → List Entry →
    W) (start : W) (columns : List Column) (n : ℕ) (world : W) : Type 0 where
  pub ready : AreReady columns n
  pub is : world ≡ world_at after start columns n
