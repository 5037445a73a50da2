-- Whether a frame is ready, by what each client has for it: nothing, a play, or its departure at
-- the frame or before it. One definition serves the columns of the server, what reached a peer, and
-- whoever knows only how far a column reaches.
use Rattle.std.specs.Prelude.{ℕ, ◌+◌, ◌<◌, ◌⊎◌, Bool, true, false, if◌then◌else◌, List, [], ◌∷◌}
use Rattle.std.specs.Prelude.{Option, Some, None}
use Rattle.game_orders.specs.declared.entry.Entry.{Entry}
use Rattle.game_orders.specs.declared.entry.Entry.TheVariants.{Play, Leave}
use Rattle.frame_core.specs.declared.input.Input.{Input}
use Rattle.frame_core.specs.declared.input.Input.TheVariants.{Missing, Played, Departed}
use Rattle.frame_core.specs.declared.ready.Ready.{Ready}
use Rattle.frame_core.specs.declared.ready.Ready.TheVariants.{Yes, NotYet, Over}

-- The input by the entry that a client has for a frame, if it has one.
abbrev pub input_of : Option Entry → Input
input_of None = Missing
input_of (Some (Play orders)) = Played
input_of (Some Leave) = Departed

-- The least client, from c on, that has nothing; else whether some client has played the frame.
abbrev pub ready_from : ℕ → Bool → List Input → Ready
ready_from c played [] = if played then Yes else Over
ready_from c played (Missing ∷ inputs) = NotYet c
ready_from c played (Played ∷ inputs) = ready_from (c + 1) true inputs
ready_from c played (Departed ∷ inputs) = ready_from (c + 1) played inputs

-- Whether the frame is ready for which the clients, by rising number, have this.
abbrev pub ready_of : List Input → Ready
ready_of inputs = ready_from 0 false inputs

-- What an answer on a frame means, of so many clients: each has played it or left by then, and one
-- has played it; or d is the least client that has nothing for it; or all have left by then.
abbrev pub MeansReady : (HasPlayed HasLeft HasNothing : ℕ → Type 0) → (clients : ℕ) → Ready → Type 0
MeansReady HasPlayed HasLeft HasNothing clients Yes =
    ((c : ℕ) → c < clients → HasPlayed c ⊎ HasLeft c) × ((c : ℕ) × (c < clients) × HasPlayed c)
MeansReady HasPlayed HasLeft HasNothing clients (NotYet d) =
    (d < clients) × HasNothing d × ((c : ℕ) → c < d → HasPlayed c ⊎ HasLeft c)
MeansReady HasPlayed HasLeft HasNothing clients Over = (c : ℕ) → c < clients → HasLeft c

-- What a client's input means.
abbrev pub MeansInput : (HasPlayed HasLeft HasNothing : ℕ → Type 0) → ℕ → Input → Type 0
MeansInput HasPlayed HasLeft HasNothing c Missing = HasNothing c
MeansInput HasPlayed HasLeft HasNothing c Played = HasPlayed c
MeansInput HasPlayed HasLeft HasNothing c Departed = HasLeft c
