-- What the ticking thread has taken of the clients' columns.
use Rattle.std.specs.Prelude.{◌≡◌, ℕ, ◌+◌, ◌-◌, ◌<◌, ◌≤◌, ◌⊎◌, true, List, length, take, drop}
use Rattle.std.specs.Prelude.{slice_get, slice_index_or}
use Rattle.game_orders.specs.declared.order.Order.{Order}
use Rattle.game_orders.specs.declared.entry.Entry.{Entry}
use Rattle.game_orders.specs.declared.limits.TheConstants.{MAX_FRAMES}
use Rattle.frame_core.specs.Column.{entry_from}
use Rattle.frame_core.specs.Ready.{or_leave}
use Rattle.drill_words.specs.Scripts.{plays_of}
use Rattle.match_run.specs.declared.taken.Taken.{Taken}

-- It is of a client that plays so: the plays from a frame on, and a departure only where the client
-- plays nothing from there on.
pub record IsTaken (plays : List (List Order)) (own : Taken) : Type 0 where
  pub plays_are : own.plays ≡ take (length own.plays) (drop own.from plays)
  pub left : own.left ≡ true → length plays ≤ own.from
  pub limit : 0 < length own.plays → own.from + length own.plays ≤ MAX_FRAMES

-- It has the entry at frame n.
abbrev pub HasEntry : Taken → ℕ → Type 0
HasEntry own n = (n - own.from < length own.plays) ⊎ (own.left ≡ true)

-- That entry: the play, or a departure.
abbrev pub entry_taken : Taken → ℕ → Entry
entry_taken own n = or_leave (entry_from (slice_get own.plays (n - own.from)) true)

-- What was taken of each client of these scripts, not from later than frame n.
pub record AreTaken (scripts : List (List (List Order))) (taken : List Taken) (n : ℕ) : Type 0 where
  pub clients : length taken ≡ length scripts
  pub each : (c : ℕ) (d : Taken) → c < length scripts →
      IsTaken (plays_of scripts c) (slice_index_or taken c d)
  pub from : (c : ℕ) (d : Taken) → c < length scripts → (slice_index_or taken c d).from ≤ n

-- It has frame n: the entry of each client.
abbrev pub HasFrame : List Taken → ℕ → Type 0
HasFrame taken n = (c : ℕ) (d : Taken) → c < length taken → HasEntry (slice_index_or taken c d) n
