-- What the answer to a tick of a server means.
use Rattle.std.specs.Prelude.{◌≡◌, ℕ, ◌+◌, List, [], ◌∷◌, ◌++◌}
use Rattle.game_orders.specs.declared.entry.Entry.{Entry}
use Rattle.frame_core.specs.declared.ready.Ready.TheVariants.{Yes, NotYet as Waits, Over as Ended}
use Rattle.frame_core.specs.declared.tick_answer.TickAnswer.{TickAnswer}
use Rattle.frame_core.specs.declared.tick_answer.TickAnswer.TheVariants.{Ticked, NotYet, Over}
use Rattle.frame_core.specs.Ready.{frame_at, MeansReadyAt}
use Rattle.server_core.specs.Server.{ServerState}

-- `Ticked` has the frame that was next, which was ready: the world made one step by that frame, the
-- count grew by one, and the hash after the step is one more mark. The other answers say why it was
-- not ready, and nothing changed.
abbrev pub MeansTick :
    {W : Type 0} → (W → List Entry → W) → (W → ℕ) → (old new : ServerState W) → TickAnswer → Type 0
MeansTick after hash old new (Ticked n) =
    (n ≡ old.ticked) × MeansReadyAt old.columns n Yes
    × (new ≡ record old {
      ticked = n + 1;
      marks = old.marks ++ hash (after old.world (frame_at old.columns n)) ∷ [];
      world = after old.world (frame_at old.columns n);
    })
MeansTick after hash old new (NotYet c) =
    MeansReadyAt old.columns old.ticked (Waits c) × (new ≡ old)
MeansTick after hash old new Over =
    MeansReadyAt old.columns old.ticked Ended × (new ≡ old)
