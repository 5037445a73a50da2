-- The places of a receiver's window: those of the next numbers, in order, each with its payload
-- where that came.
use Rattle.std.specs.Prelude.{List, [], ◌∷◌, ◌++◌, length, replicate}
use Rattle.std.specs.Prelude.{Option, Some, None}

-- What the places hold before the first that is empty.
abbrev pub run_of : {A : Type 0} → List (Option A) → List A
run_of [] = []
run_of (None ∷ places) = []
run_of (Some payload ∷ places) = payload ∷ run_of places

-- The places from the first empty one on.
abbrev pub after_run : {A : Type 0} → List (Option A) → List (Option A)
after_run [] = []
after_run (None ∷ places) = None ∷ places
after_run (Some payload ∷ places) = after_run places

-- The window moved on past what is in order: as many empty places come last.
abbrev pub moved_on : {A : Type 0} → List (Option A) → List (Option A)
moved_on places = after_run places ++ replicate (length (run_of places)) None
