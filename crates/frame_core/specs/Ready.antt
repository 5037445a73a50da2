-- Whether a frame is ready, and the agreed frame, by the columns.
use Rattle.std.specs.Prelude.{◌≡◌, ℕ, ◌<◌, ◌≤◌, true, false, List, length, map, Option, Some, None}
use Rattle.game_orders.specs.declared.entry.Entry.{Entry}
use Rattle.game_orders.specs.declared.entry.Entry.TheVariants.{Leave}
use Rattle.frame_core.specs.Column.{Column, length_of, has_at, column_of}
use Rattle.frame_core.specs.Input.{input_of, ready_of, MeansReady}
use Rattle.frame_core.specs.declared.input.Input.{Input}
use Rattle.frame_core.specs.declared.ready.Ready.{Ready}

-- The entry of a client in a frame. It is asked only where the frame is ready, so each client has
-- one.
abbrev pub or_leave : Option Entry → Entry
or_leave (Some entry) = entry
or_leave None = Leave

-- The frame for which the clients, by rising number, have these entries.
abbrev pub frame_of : List (Option Entry) → List Entry
frame_of each = map or_leave each

-- What clients with these entries for a frame have for it.
abbrev pub inputs_of : List (Option Entry) → List Input
inputs_of each = map input_of each

-- The entry that each client has for frame n, by the columns.
abbrev pub each_at : List Column → ℕ → List (Option Entry)
each_at columns n = map (λ column. has_at column n) columns

-- What each client has for frame n, by the columns.
abbrev pub inputs_at : List Column → ℕ → List Input
inputs_at columns n = inputs_of (each_at columns n)

-- Whether frame n is ready, by the columns.
abbrev pub ready_at : List Column → ℕ → Ready
ready_at columns n = ready_of (inputs_at columns n)

-- The agreed frame n.
abbrev pub frame_at : List Column → ℕ → List Entry
frame_at columns n = frame_of (each_at columns n)

-- Client c has played frame n.
abbrev pub HasPlayed : List Column → ℕ → ℕ → Type 0
HasPlayed columns n c = n < length_of (column_of columns c)

-- Client c has left at frame n or before it.
abbrev pub HasLeftBy : List Column → ℕ → ℕ → Type 0
HasLeftBy columns n c = ((column_of columns c).left ≡ true) × (length_of (column_of columns c) ≤ n)

-- Client c has neither played frame n nor left by then.
abbrev pub HasNothing : List Column → ℕ → ℕ → Type 0
HasNothing columns n c =
    ((column_of columns c).left ≡ false) × (length_of (column_of columns c) ≤ n)

-- What an answer on frame n means by the columns: each client has played it or left by then, and
-- one has played it; or some client is the least that has neither; or all have left by then.
abbrev pub MeansReadyAt : List Column → ℕ → Ready → Type 0
MeansReadyAt columns n =
    MeansReady (HasPlayed columns n) (HasLeftBy columns n) (HasNothing columns n) (length columns)
