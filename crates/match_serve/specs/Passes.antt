-- What the passes of a match over links know while it runs.
use Rattle.std.specs.Prelude.{◌≡◌, ◌≢◌, ℕ, ◌<◌, ◌≤◌, Bool, true, false, List, length, map}
use Rattle.std.specs.Prelude.{slice_index_or}
use Rattle.frame_core.specs.Column.{Column, no_column}
use Rattle.frame_core.specs.declared.leaving.Leaving.{Leaving}
use Rattle.frame_core.specs.Grows.{GrowsTo}
use Rattle.frame_table.specs.declared.planned.Planned.TheVariants.{Free}
use Rattle.frame_table.specs.declared.view.View.{View}
use Rattle.frame_table.specs.declared.pass.Pass.{Pass}
use Rattle.frame_table.specs.declared.table.FrameTable.{FrameTable}
use Rattle.frame_table.specs.Part.{part_of}
use Rattle.frame_table.specs.Passes.{known_in}
use Rattle.frame_table.specs.Word.{whole_of}
use Rattle.frame_table.specs.Calls.{plan_of, view_of, standing, IsPassOf, LeavesSo}

-- The columns as a pass knows them, by rising client.
abbrev pub columns_known : View → List Column
columns_known view = map known_in view.marks

abbrev pub columns_of : Pass → List Column
columns_of pass = columns_known (view_of pass)

-- The pass is of a table of so many columns, all of them free.
pub record IsServePass (clients : ℕ) (table : FrameTable) (pass : Pass) : Type 0 where
  pub of_table : IsPassOf table pass
  pub count : length (plan_of table) ≡ clients
  pub free : (c : ℕ) → c < clients → (standing pass c).planned ≡ Free

-- The pass may know more of each column. It has fixed no departure.
pub record Learns (old new : View) : Type 0 where
  pub share : new.share ≡ old.share
  pub planned : (c : ℕ) → (part_of c new).planned ≡ (part_of c old).planned
  pub made : (c : ℕ) → (part_of c new).made ≡ (part_of c old).made
  pub known : (c : ℕ) → GrowsTo (part_of c old).known (part_of c new).known

-- The pass has fixed no departure.
abbrev pub FixedNone : View → Type 0
FixedNone view = (c : ℕ) → (part_of c view).made ≡ 0

-- The pass has fixed no departure but that of client c.
abbrev pub FixedNoOther : ℕ → View → Type 0
FixedNoOther c view = (d : ℕ) → d ≢ c → (part_of d view).made ≡ 0

-- A pass of the opening knows no play and has fixed no departure. It feeds client c's column and the
-- later ones, and has handed over the right to feed the ones before.
pub record IsOpening (clients : ℕ) (table : FrameTable) (c : ℕ) (pass : Pass) : Type 0 where
  pub is : IsServePass clients table pass
  pub fixed_none : FixedNone (view_of pass)
  pub unknown : (d : ℕ) → (standing pass d).known ≡ no_column
  pub handed_over : (d : ℕ) → d < c → (standing pass d).feeds ≡ false
  pub feeds : (d : ℕ) → c ≤ d → d < clients → (standing pass d).feeds ≡ true

-- A pass that feeds client c's column, and none before it.
pub record Feeds (clients : ℕ) (table : FrameTable) (c : ℕ) (pass : Pass) : Type 0 where
  pub is : IsServePass clients table pass
  pub fixed_none : FixedNone (view_of pass)
  pub unknown : (d : ℕ) → (standing pass d).known ≡ no_column
  pub handed_over : (d : ℕ) → d < c → (standing pass d).feeds ≡ false
  pub feeds_it : (standing pass c).feeds ≡ true

-- The pass has seen that each client has left, or that one has not.
abbrev pub SeesLeft : ℕ → View → Bool → Type 0
SeesLeft clients view true = (c : ℕ) → c < clients → (part_of c view).reach.left ≡ true
SeesLeft clients view false =
    (c : ℕ) × (c < clients) × ((part_of c view).reach.left ≡ false)

-- Each client that the pass had seen leave it still sees left, and has not let go since.
abbrev pub StayLeft : View → View → Type 0
StayLeft old new =
    (c : ℕ) → (part_of c old).reach.left ≡ true →
    ((part_of c new).reach.left ≡ true) × ((part_of c new).made ≡ (part_of c old).made)

-- A call let the client leave.
abbrev pub IsTakenOut : ℕ → View → View → Type 0
IsTakenOut c old new = (answer : Leaving) × LeavesSo c old new answer

-- Each client has left, and the pass has seen and knows each whole column.
pub record AllGone (clients : ℕ) (old new : View) : Type 0 where
  pub share : new.share ≡ old.share
  pub known : (c : ℕ) → GrowsTo (part_of c old).known (part_of c new).known
  pub left : (c : ℕ) → c < clients → (part_of c new).known.left ≡ true
  pub reach : (c : ℕ) → c < clients → (part_of c new).reach ≡ whole_of (part_of c new).known

-- The pass still serves: it has its share. It has let no clients leave but those that are listed as
-- kicked, and knows that each of these has left.
pub record IsKicking (clients : ℕ) (table : FrameTable) (kicked : List Bool) (old new : Pass) :
    Type 0 where
  pub is : IsServePass clients table new
  pub share : (view_of new).share ≡ (view_of old).share
  pub stays : (c : ℕ) → c < clients → slice_index_or kicked c false ≡ false →
      (standing new c).made ≡ (standing old c).made
  pub gone : (c : ℕ) → c < clients → slice_index_or kicked c false ≡ true →
      (standing new c).known.left ≡ true
