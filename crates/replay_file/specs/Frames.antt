-- What the parts of a replay are to a game that runs over them.
use Rattle.std.specs.Prelude.{ℕ, ◌+◌, List, [], ◌∷◌}
use Rattle.game_orders.specs.declared.entry.Entry.{Entry}
use Rattle.replay_file.specs.declared.part.Part.{Part}
use Rattle.replay_file.specs.declared.part.Part.TheVariants.{Frame, Mark}

-- The frames in order.
abbrev pub frames_of : List Part → List (List Entry)
frames_of [] = []
frames_of (Frame entries ∷ parts) = entries ∷ frames_of parts
frames_of (Mark hash ∷ parts) = frames_of parts

-- The marks in order, each as the number of frames before it and its hash, where so many frames
-- come before the parts.
abbrev pub marks_after : ℕ → List Part → List (ℕ × ℕ)
marks_after frames [] = []
marks_after frames (Frame entries ∷ parts) = marks_after (frames + 1) parts
marks_after frames (Mark hash ∷ parts) = (frames, hash) ∷ marks_after frames parts

abbrev pub marks_of : List Part → List (ℕ × ℕ)
marks_of parts = marks_after 0 parts

-- The same parts with other hashes: each mark has the hash for the number of frames before it.
abbrev pub marked_anew : (ℕ → ℕ) → ℕ → List Part → List Part
marked_anew hash_after frames [] = []
marked_anew hash_after frames (Frame entries ∷ parts) =
    Frame entries ∷ marked_anew hash_after (frames + 1) parts
marked_anew hash_after frames (Mark hash ∷ parts) =
    Mark (hash_after frames) ∷ marked_anew hash_after frames parts
