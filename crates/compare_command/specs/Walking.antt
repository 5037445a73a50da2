-- The frames and the marks of a replay's parts, taken off one by one.
use Rattle.std.specs.Prelude.{ℕ, zero, suc, List, [], ◌∷◌, Option, Some, None}
use Rattle.game_orders.specs.declared.entry.Entry.{Entry}
use Rattle.replay_file.specs.declared.part.Part.{Part}
use Rattle.replay_file.specs.declared.part.Part.TheVariants.{Frame, Mark}
use Rattle.replay_run.specs.Playing.{after_frame}

-- The first frame of the parts. One without entries where there is none.
abbrev pub first_frame : List Part → List Entry
first_frame [] = []
first_frame (Frame entries ∷ parts) = entries
first_frame (Mark hash ∷ parts) = first_frame parts

-- The mark before the first frame of the parts.
abbrev pub first_mark : List Part → Option ℕ
first_mark [] = None
first_mark (Frame entries ∷ parts) = None
first_mark (Mark hash ∷ parts) = Some hash

-- The parts after the first n frames.
abbrev pub after_frames : (n : ℕ) → List Part → List Part
after_frames zero parts = parts
after_frames (suc n) parts = after_frames n (after_frame parts)
