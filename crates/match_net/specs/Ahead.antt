-- How far the column of a client may be ahead of the frames that are ready, as its reader sees them.
use Rattle.std.specs.Prelude.{◌≡◌, ◌≢◌, ℕ, ◌+◌, ◌<◌, ◌≤◌, ◌⊎◌, Bool, true, false, length}
use Rattle.frame_table.specs.declared.view.View.{View}
use Rattle.frame_table.specs.Part.{part_of}
use Rattle.frame_table.specs.Steps.{IsFurther}
use Rattle.frame_table.specs.Calls.{HasSeen, SawNothing}
use Rattle.match_net.specs.Sending.{Looks, LooksAtAll}

-- By what the pass has seen, each client has played frame n or left by then. So the frame is ready,
-- if some client has played it.
abbrev pub IsReadyAt : View → ℕ → Type 0
IsReadyAt view n = (d : ℕ) → d < length view.marks → HasSeen (part_of d view).reach n

-- So many frames, the first ones, are ready.
abbrev pub AreReady : View → ℕ → Type 0
AreReady view frames = (n : ℕ) → n < frames → IsReadyAt view n

-- As far as the pass knows it, client c's column has at most so many frames above the ready ones.
pub record IsWithin (room c : ℕ) (view : View) : Type 0 where
  pub ready : ℕ
  pub are_ready : AreReady view ready
  pub within : length (part_of c view).known.plays ≤ ready + room

-- The reader of client c's link may put its next packet: the column has at most `lag` frames above
-- the ready ones, or is left.
abbrev pub MayGoOn : (lag c : ℕ) → View → Type 0
MayGoOn lag c view = IsWithin lag c view ⊎ ((part_of c view).reach.left ≡ true)

-- The reader has to wait. The column, which is not left, has more than `lag` frames beyond one for
-- which another client has nothing.
pub record MustWait (lag c : ℕ) (view : View) : Type 0 where
  pub frame : ℕ
  pub beyond : frame + lag < (part_of c view).reach.plays
  pub other : ℕ
  pub is_there : other < length view.marks
  pub apart : other ≢ c
  pub missing : SawNothing view frame other
  pub playing : (part_of c view).reach.left ≡ false

-- Whether the reader may put its next packet.
abbrev pub GoesOn : (lag c : ℕ) → View → Bool → Type 0
GoesOn lag c view true = MayGoOn lag c view
GoesOn lag c view false = MustWait lag c view

-- Between two packets: the column has at most one frame more than `lag` above the ready ones, and the
-- pass has seen all of it that it knows.
pub record IsInStep (lag c : ℕ) (view : View) : Type 0 where
  pub near : IsWithin (lag + 1) c view
  pub seen : length (part_of c view).known.plays ≤ (part_of c view).reach.plays

-- The reader of client c's link has looked at the columns. It has seen more of them, and knows no
-- more of its client's.
pub record LooksAround (c : ℕ) (old new : View) : Type 0 where
  pub all : LooksAtAll old new
  pub further : (d : ℕ) → IsFurther (part_of d old).reach (part_of d new).reach
  pub own : (part_of c new).known ≡ (part_of c old).known

-- The pass has seen and learned more of the columns of all clients but c. It fixed no departure in
-- them.
pub record LooksAtOthers (c : ℕ) (old new : View) : Type 0 where
  pub share : new.share ≡ old.share
  pub marks : length new.marks ≡ length old.marks
  pub parts : (d : ℕ) → d ≢ c → Looks (part_of d old) (part_of d new)
