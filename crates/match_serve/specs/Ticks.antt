-- What the ticking thread of a match over links does.
use Rattle.std.specs.Prelude.{◌≡◌, ℕ, ◌<◌, ◌≤◌, ◌⊎◌, true, List, Some, slice_index_or}
use Rattle.game_orders.specs.declared.entry.Entry.{Entry}
use Rattle.game_orders.specs.declared.entry.Entry.TheVariants.{Leave}
use Rattle.frame_core.specs.Column.{has_at, length_of}
use Rattle.frame_core.specs.Agreed.{IsAt}
use Rattle.frame_core.specs.Match.{Match}
use Rattle.frame_core.specs.Ready.{frame_at}
use Rattle.server_core.specs.Board.{BoardState, board_with_wanted}
use Rattle.server_core.specs.Served.{agreed_marks}
use Rattle.frame_table.specs.declared.view.View.{View}
use Rattle.frame_table.specs.Part.{Part, part_of}
use Rattle.frame_table.specs.Word.{whole_of}
use Rattle.frame_table.specs.Rule.{IsReach}
use Rattle.match_serve.specs.Passes.{columns_known, Learns}

-- The entry of a client for a frame was taken from its column, all of which is seen and known since.
pub record EntryTaken (n : ℕ) (old new : Part) (entry : Entry) : Type 0 where
  pub has : has_at new.known n ≡ Some entry
  pub reach : new.reach ≡ whole_of new.known
  pub from : IsReach new.known old.reach

-- The frame was taken, entry by entry: it is the agreed one of the columns as they are known since.
pub record FrameTaken (clients n : ℕ) (old new : View) (frame : List Entry) : Type 0 where
  pub learns : Learns old new
  pub each : (c : ℕ) → c < clients →
      EntryTaken n (part_of c old) (part_of c new) (slice_index_or frame c Leave)
  pub is : frame ≡ frame_at (columns_known new) n

-- The world is the agreed world of n frames, by what the pass knows, and the wanted hashes are those
-- of the agreed worlds after them.
pub record IsTicked {W : Type 0} (of_match : Match W) (view : View) (wanted : List ℕ) (n : ℕ)
    (world : W) : Type 0 where
  pub at : IsAt of_match.after of_match.start (columns_known view) n world
  pub marks : wanted ≡ agreed_marks of_match (columns_known view) n

-- Each client has left, after at most n plays, and all of its column is seen and known.
pub record AllLeft (clients n : ℕ) (view : View) : Type 0 where
  pub left : (c : ℕ) → c < clients → (part_of c view).known.left ≡ true
  pub few : (c : ℕ) → c < clients → length_of (part_of c view).known ≤ n
  pub reach : (c : ℕ) → c < clients → (part_of c view).reach ≡ whole_of (part_of c view).known

-- Some client has played n frames, unless there are none.
abbrev pub Reached : ℕ → ℕ → View → Type 0
Reached clients n view =
    (n ≡ 0) ⊎ ((c : ℕ) × (c < clients) × (n ≤ length_of (part_of c view).known))

-- Frame n was taken, the world stepped by it, and its hash then noted.
pub record TicksOnce {W : Type 0} (after : W → List Entry → W) (hash : W → ℕ) (clients n : ℕ)
    (old new : View) (board marked : BoardState) (world next : W) : Type 0 where
  pub frame : List Entry
  pub taken : FrameTaken clients n old new frame
  pub stepped : next ≡ after world frame
  pub noted : marked ≡ board_with_wanted board (hash next)

-- All frames were ticked.
pub record TicksAll {W : Type 0} (of_match : Match W) (clients : ℕ) (old new : View)
    (wanted : List ℕ) (n : ℕ) (world : W) : Type 0 where
  pub learns : Learns old new
  pub ticked : IsTicked of_match new wanted n world
  pub left : AllLeft clients n new
  pub reached : Reached clients n new
