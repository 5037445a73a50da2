-- What each client of a match plays, by rising client, frame by frame from 0.
use Rattle.std.specs.Prelude.{ℕ, ◌≤◌, List, [], ◌∷◌, ◌++◌, length, slice_index_or, slice_set}
use Rattle.game_orders.specs.declared.order.Order.{Order}
use Rattle.game_orders.specs.declared.limits.TheConstants.{MAX_FRAMES}

-- What client c plays.
abbrev pub plays_of : List (List (List Order)) → ℕ → List (List Order)
plays_of scripts c = slice_index_or scripts c []

-- One play more of client c.
abbrev pub with_play : List (List (List Order)) → ℕ → List Order → List (List (List Order))
with_play scripts c orders = slice_set scripts c (plays_of scripts c ++ orders ∷ [])

-- No client plays more frames than a match may have.
abbrev pub AreWithinFrames : List (List (List Order)) → Type 0
AreWithinFrames scripts = (c : ℕ) → length (plays_of scripts c) ≤ MAX_FRAMES
