-- What the calls of the table ask of a pass, and what they leave.
use Rattle.std.specs.Prelude.{◌≡◌, ℕ, ◌<◌, ◌≤◌, ◌⊎◌, nat_lt, Bool, true, false, if◌then◌else◌}
use Rattle.std.specs.Prelude.{List, [], ◌∷◌, ◌++◌, length, map, take, drop, Some, None}
use Rattle.std.specs.Prelude.{slice_get, slice_set}
use Rattle.atomic_table.specs.Table.{Me}
use Rattle.game_orders.specs.declared.order.Order.{Order}
use Rattle.game_orders.specs.declared.limits.TheConstants.{MAX_FRAMES}
use Rattle.game_orders.specs.declared.entry.Entry.{Entry}
use Rattle.game_orders.specs.declared.entry.Entry.TheVariants.{Play, Leave}
use Rattle.frame_core.specs.declared.put.Put.{Put}
use Rattle.frame_core.specs.declared.leaving.Leaving.{Leaving}
use Rattle.frame_core.specs.Column.{Column, column_of, has_at, put_answer, put_column}
use Rattle.frame_core.specs.Column.{leave_answer, left_column}
use Rattle.frame_core.specs.Grows.{GrowsTo}
use Rattle.frame_core.specs.declared.input.Input.{Input}
use Rattle.frame_core.specs.declared.input.Input.TheVariants.{Missing, Played, Departed}
use Rattle.frame_core.specs.declared.ready.Ready.{Ready}
use Rattle.frame_core.specs.Input.{ready_of, ready_from, MeansReady}
use Rattle.frame_table.specs.declared.seen.Seen.{Seen}
use Rattle.frame_table.specs.declared.planned.Planned.{Planned}
use Rattle.frame_table.specs.declared.planned.Planned.TheVariants.{Free, Plays}
use Rattle.frame_table.specs.declared.view.View.{View}
use Rattle.frame_table.specs.declared.view.Mark.{Mark}
use Rattle.frame_table.specs.declared.pass.Pass.{Pass}
use Rattle.frame_table.specs.declared.table.FrameTable.{FrameTable}
use Rattle.frame_table.specs.Part.{Part, part_of, OthersStay}
use Rattle.frame_table.specs.Steps.{Slot, IsFurther, IsFound, holding, published, loaded, MayEnd}
use Rattle.frame_table.specs.Steps.{IsWithinPlan}

-- What is planned for each client's column.
abbrev pub plan_of : FrameTable → List Planned
plan_of table = table.inner.shared.key

-- What a pass has seen, knows and may do.
abbrev pub view_of : Pass → View
view_of pass = pass.seat.me.0

-- What a pass has to do with column c.
abbrev pub standing : Pass → ℕ → Part
standing pass c = part_of c (view_of pass)

-- The pass was made by a call of this table, and no call is under way with it.
pub record IsPassOf (table : FrameTable) (pass : Pass) : Type 0 where
  pub same : pass.seat.table_id ≡ table.inner.shared.table_id
  pub free : pass.seat.me.1 ≡ []
  pub share : 0 < (view_of pass).share
  pub marks : length (view_of pass).marks ≡ length (plan_of table)
  pub held : (c : ℕ) → (part_of c (view_of pass)).held ≡ []

-- Frame n was seen: a play at it, or the departure at or before it.
abbrev pub HasSeen : Seen → ℕ → Type 0
HasSeen seen n = (n < seen.plays) ⊎ ((seen.left ≡ true) × (seen.plays ≤ n))

-- A play is put into a free column only by the pass that feeds it, or by one that has seen its
-- frame; into a planned column goes what is planned there, and the departure at the plan's end.
abbrev pub MayPutPlay : Planned → Part → ℕ → List Order → Type 0
MayPutPlay Free part n orders = (part.feeds ≡ true) ⊎ HasSeen part.reach n
MayPutPlay (Plays plays) part n orders = slice_get plays n ≡ Some orders

abbrev pub MayPut : Part → ℕ → Entry → Type 0
MayPut part n (Play orders) = MayPutPlay part.planned part n orders
MayPut part n Leave = MayEnd part.planned n

-- A planned column is left only where all its plays were seen.
abbrev pub MayLeaveBy : Planned → Seen → Type 0
MayLeaveBy Free seen = Unit {0}
MayLeaveBy (Plays plays) seen = length plays ≤ seen.plays

-- The lock of column c was taken, and the column is this.
pub record HasLocked (c : ℕ) (old new : Me Slot View) (columns : List Column) : Type 0 where
  pub column : Column
  pub is : columns ≡ column ∷ []
  pub slots : new.1 ≡ (c, None) ∷ old.1
  pub others : OthersStay c old.0 new.0
  pub part : part_of c new.0 ≡ holding (part_of c old.0) column
  pub found : IsFound (part_of c old.0) column

-- A call found the column so at its own step, and made that of it: now all of it is seen and known.
pub record Acted (c : ℕ) (old new : View) (before after : Column) : Type 0 where
  pub found : IsFound (part_of c old) before
  pub others : OthersStay c old new
  pub part : part_of c new ≡ published (part_of c old) before after

-- A put found the column at its own step, and answers as it says.
abbrev pub PutsSo : ℕ → View → View → ℕ → Entry → Put → Type 0
PutsSo c old new n e answer =
    (K : Column) × Acted c old new K (put_column K n e) × (answer ≡ put_answer K n e)

-- So does a departure.
abbrev pub LeavesSo : ℕ → View → View → Leaving → Type 0
LeavesSo c old new answer =
    (K : Column) × Acted c old new K (left_column K) × (answer ≡ leave_answer K)

-- A take found the column, which it left as it was, and answers what stands for frame n.
abbrev pub TakesSo : ℕ → View → View → ℕ → Entry → Type 0
TakesSo c old new n e = (K : Column) × Acted c old new K K × (has_at K n ≡ Some e)

-- A take of many plays found the column, which it left as it was, and gives its plays from frame n
-- on, at most so many.
abbrev pub TakesPlays : ℕ → View → View → ℕ → ℕ → List (List Order) → Type 0
TakesPlays c old new n most plays =
    (K : Column) × Acted c old new K K × (plays ≡ take most (drop n K.plays))

-- Nothing has changed for the pass.
pub record Unchanged (old new : View) : Type 0 where
  pub share : new.share ≡ old.share
  pub parts : (c : ℕ) → part_of c new ≡ part_of c old

-- What was seen of a column tells for frame n.
abbrev pub input_seen : Seen → ℕ → Input
input_seen seen n =
    if nat_lt n seen.plays then Played else (if seen.left then Departed else Missing)

-- Whether frame n is ready, by what a pass has seen of each column.
abbrev pub inputs_seen : View → ℕ → List Input
inputs_seen view n = map (λ (mark : Mark). input_seen mark.reach n) view.marks

abbrev pub ready_seen : View → ℕ → Ready
ready_seen view n = ready_of (inputs_seen view n)

-- By what a pass has seen: client c has played frame n; has left at or before it; has done neither.
abbrev pub SawPlay : View → ℕ → ℕ → Type 0
SawPlay view n c = n < (part_of c view).reach.plays

abbrev pub SawLeave : View → ℕ → ℕ → Type 0
SawLeave view n c =
    ((part_of c view).reach.left ≡ true) × ((part_of c view).reach.plays ≤ n)

abbrev pub SawNothing : View → ℕ → ℕ → Type 0
SawNothing view n c =
    ((part_of c view).reach.left ≡ false) × ((part_of c view).reach.plays ≤ n)

-- What an answer on frame n means by what a pass has seen: each client has played it or left by
-- then, and one has played it; or some client is the least that has done neither; or all have left.
abbrev pub MeansReadySeen : View → ℕ → Ready → Type 0
MeansReadySeen view n =
    MeansReady (SawPlay view n) (SawLeave view n) (SawNothing view n) (length view.marks)

-- A column's word may have been loaded, once: then what it showed is seen, and known as far as it
-- is
-- planned, and in a planned column it is of the plan. Nothing else has changed.
pub record IsLaterPart (old new : Part) : Type 0 where
  pub exact : (new ≡ old) ⊎ ((new ≡ loaded old new.reach) × IsWithinPlan old.planned new.reach)
  pub further : IsFurther old.reach new.reach
  pub known : GrowsTo old.known new.known

-- The lock of column c was given back.
pub record GaveBack (c : ℕ) (old new : Me Slot View) : Type 0 where
  pub slots : new.1 ≡ []
  pub others : OthersStay c old.0 new.0

-- The same of all columns.
pub record IsLater (old new : View) : Type 0 where
  pub share : new.share ≡ old.share
  pub marks : length new.marks ≡ length old.marks
  pub parts : (c : ℕ) → IsLaterPart (part_of c old) (part_of c new)

-- The words of the first c columns were loaded: each has something for frame n, and whether one has
-- a play.
pub record LookedSoFar (old now : View) (n c : ℕ) (played : Bool) : Type 0 where
  pub later : IsLater old now
  pub rest : (d : ℕ) → c ≤ d → part_of d now ≡ part_of d old
  pub ready : (rest : List Input) →
      ready_of (take c (inputs_seen now n) ++ rest) ≡ ready_from c played rest
  pub limit : played ≡ true → n < MAX_FRAMES

-- The first c columns were taken out of the table.
pub record ClosedSoFar (old now : View) (whole : List Column) (clients c : ℕ) : Type 0 where
  pub share : now.share ≡ old.share
  pub length : length whole ≡ clients
  pub later : (d : ℕ) → c ≤ d → part_of d now ≡ part_of d old
  pub done : (d : ℕ) → d < c → IsFound (part_of d old) (column_of whole d)

-- Column c was taken out of the table.
pub record HasGathered (c : ℕ) (old now : View) (whole new : List Column) : Type 0 where
  pub column : Column
  pub found : IsFound (part_of c old) column
  pub others : OthersStay c old now
  pub is : new ≡ slice_set whole c column
