-- What a tick answers and leaves, by whether its frame is ready.
use Rattle.std.specs.Prelude.{ℕ, ◌+◌, List}
use Rattle.game_orders.specs.declared.entry.Entry.{Entry}
use Rattle.frame_core.specs.declared.ready.Ready.{Ready}
use Rattle.frame_core.specs.declared.ready.Ready.TheVariants.{Yes, NotYet as Waits, Over as Ended}
use Rattle.frame_core.specs.declared.tick_answer.TickAnswer.{TickAnswer}
use Rattle.frame_core.specs.declared.tick_answer.TickAnswer.TheVariants.{Ticked, NotYet, Over}

-- The answer of a tick of frame n.
abbrev pub tick_answer : Ready → ℕ → TickAnswer
tick_answer Yes n = Ticked n
tick_answer (Waits c) n = NotYet c
tick_answer Ended n = Over

-- The count of ticked frames afterwards.
abbrev pub ticked_after : Ready → ℕ → ℕ
ticked_after Yes n = n + 1
ticked_after (Waits c) n = n
ticked_after Ended n = n

-- The world afterwards: one step by the frame, only where it is ready.
abbrev pub stepped : {W : Type 0} → Ready → (W → List Entry → W) → W → List Entry → W
stepped Yes after world frame = after world frame
stepped (Waits c) after world frame = world
stepped Ended after world frame = world
