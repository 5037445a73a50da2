-- The kinds of step, and what each tells the pass that makes it.
use Rattle.std.specs.Prelude.{◌≡◌, ℕ, ◌+◌, ◌/◌, ◌-◌, ◌^◌, ◌<◌, ◌≤◌, ◌==◌, ◌⊎◌, Bool, true, false}
use Rattle.std.specs.Prelude.{List, [], ◌∷◌, ◌++◌, length, take, Some, None, MatchBool}
use Rattle.std.specs.Prelude.{slice_get, Option as Maybe}
use Rattle.atomic_table.specs.Table.{Me, Step, rest}
use Rattle.game_orders.specs.declared.order.Order.{Order}
use Rattle.game_orders.specs.declared.limits.TheConstants.{MAX_FRAMES}
use Rattle.frame_core.specs.Column.{Column, no_column, length_of, IsWithinFrames}
use Rattle.frame_core.specs.Grows.{GrowsTo}
use Rattle.frame_table.specs.declared.seen.Seen.{Seen}
use Rattle.frame_table.specs.declared.planned.Planned.{Planned}
use Rattle.frame_table.specs.declared.planned.Planned.TheVariants.{Free, Plays}
use Rattle.frame_table.specs.declared.view.View.{View}
use Rattle.frame_table.specs.Part.{Part, part_of, OthersStay}
use Rattle.frame_table.specs.Word.{one_if, seen_of, whole_of}
use Rattle.frame_table.specs.Rule.{IsReach, Follows}
use Rattle.frame_table.specs.Passes.{size_of}

-- What a slot has.
abbrev pub Slot : Type 0
Slot = Maybe (List Column)

-- Of what was seen before, nothing is gone, and nothing comes after a departure.
pub record IsFurther (old new : Seen) : Type 0 where
  pub plays : old.plays ≤ new.plays
  pub left : old.left ≡ true → new ≡ old

-- What is known of a column once this was seen of it: in a planned column the planned entries up to
-- there; in a free column no more than before.
abbrev pub known_after : Planned → Seen → Column → Column
known_after Free seen known = known
known_after (Plays plays) seen known = record { plays = take seen.plays plays; left = seen.left }

-- The word was loaded, and this was seen.
abbrev pub loaded : Part → Seen → Part
loaded part seen =
    record part {
      reach = seen;
      known = known_after part.planned seen part.known;
      loads = part.loads + 1;
    }

-- Of a planned column no more is seen than is planned, and its departure only at the plan's end.
abbrev pub IsWithinPlan : Planned → Seen → Type 0
IsWithinPlan Free seen = Unit {0}
IsWithinPlan (Plays plays) seen =
    (seen.plays ≤ length plays) × (seen.left ≡ true → seen.plays ≡ length plays)

-- A load of the column's word: what the word shows is seen.
abbrev pub Loads : Step Slot → Me Slot View → ℕ → Me Slot View → Type 0
Loads s old found new =
    (new.1 ≡ old.1) × OthersStay s.word old.0 new.0
    × (part_of s.word new.0 ≡ loaded (part_of s.word old.0) (seen_of found))
    × IsFurther (part_of s.word old.0).reach (seen_of found)
    × GrowsTo (part_of s.word old.0).known (part_of s.word new.0).known
    × (found / 4 ≤ MAX_FRAMES)
    × IsWithinPlan (part_of s.word old.0).planned (seen_of found)

-- The lock of the column was taken.
abbrev pub holding : Part → Column → Part
holding part column = record part { held = column ∷ [] }

-- What is told of a column when its lock is taken: it begins with all that is known, and has all
-- that was seen. If the pass may add plays, it knows all plays. If it has the whole share, it fixed
-- the departure that there is.
pub record IsFound (part : Part) (column : Column) : Type 0 where
  pub frames : IsWithinFrames column
  pub known : GrowsTo part.known column
  pub reach : IsReach column part.reach
  pub follows : Follows part.planned column
  pub fed : part.feeds ≡ true → (part.planned ≡ Free) × (part.known.plays ≡ column.plays)
  pub made : part.share ≡ 2 ^ 62 → part.made ≡ one_if column.left

-- The pass took the lock, and with it the column out of its slot.
pub record HasTaken (c : ℕ) (old new : Me Slot View) : Type 0 where
  pub column : Column
  pub slots : new.1 ≡ (c, Some (column ∷ [])) ∷ old.1
  pub others : OthersStay c old.0 new.0
  pub part : part_of c new.0 ≡ holding (part_of c old.0) column
  pub found : IsFound (part_of c old.0) column

-- The lock is taken where the word was as expected; else nothing happens.
abbrev pub Takes : Step Slot → Me Slot View → ℕ → Me Slot View → Type 0
Takes s old found new = MatchBool (found == s.first) (HasTaken s.word old new) (new ≡ old)

-- The column in the slot that was taken last.
abbrev pub column_in : List (ℕ × Slot) → Column
column_in ((k, Some (column ∷ columns)) ∷ others) = column
column_in ((k, Some []) ∷ others) = no_column
column_in ((k, None) ∷ others) = no_column
column_in [] = no_column

-- The column is new, and all of it is known.
abbrev pub published : Part → Column → Column → Part
published part old new =
    record part {
      reach = whole_of new;
      known = new;
      made = part.made + (one_if new.left - one_if old.left);
      held = [];
    }

abbrev pub held_in : List Column → Column
held_in [] = no_column
held_in (column ∷ columns) = column

-- The word is set to what the slot has now, which gives the lock back: what changed is seen and
-- known from now on.
abbrev pub Publishes : Step Slot → Me Slot View → ℕ → Me Slot View → Type 0
Publishes s old found new =
    (new.1 ≡ rest old.1) × OthersStay s.word old.0 new.0
    × (part_of s.word new.0 ≡
    published (part_of s.word old.0) (held_in (part_of s.word old.0).held) (column_in old.1))

-- The lock is given back, and nothing was learned.
abbrev pub GivesBack : Step Slot → Me Slot View → ℕ → Me Slot View → Type 0
GivesBack s old found new =
    (new.1 ≡ rest old.1) × OthersStay s.word old.0 new.0
    × (part_of s.word new.0 ≡ record (part_of s.word old.0) { held = [] })

-- The right to add these orders at this frame: in a free column the pass has to feed it, in a
-- planned column they have to be planned.
abbrev pub MayAdd : Planned → Bool → ℕ → List Order → Type 0
MayAdd Free feeds n orders = feeds ≡ true
MayAdd (Plays plays) feeds n orders = slice_get plays n ≡ Some orders

-- A planned column ends at its plan's end.
abbrev pub MayEnd : Planned → ℕ → Type 0
MayEnd Free n = Unit {0}
MayEnd (Plays plays) n = n ≡ length plays

pub record AddsPlay (part : Part) (old new : Column) : Type 0 where
  pub orders : List Order
  pub is : new ≡ record { plays = old.plays ++ orders ∷ []; left = false }
  pub playing : old.left ≡ false
  pub room : length_of old < MAX_FRAMES
  pub right : MayAdd part.planned part.feeds (length_of old) orders

pub record AddsLeave (part : Part) (old new : Column) : Type 0 where
  pub is : new ≡ record { plays = old.plays; left = true }
  pub playing : old.left ≡ false
  pub right : MayEnd part.planned (length_of old)

-- What a pass may make of a column: nothing, a play more, or the departure.
abbrev pub MayBecome : Part → Column → Column → Type 0
MayBecome part old new = (new ≡ old) ⊎ (AddsPlay part old new ⊎ AddsLeave part old new)

-- What a pass knew and what a pass that was joined into it knew: the shorter begins the longer.
abbrev pub HasMet : Part → Type 0
HasMet part = size_of part.met ≤ size_of part.known → GrowsTo part.met part.known

abbrev pub Meets : Step Slot → Me Slot View → ℕ → Me Slot View → Type 0
Meets s old found new =
    (new ≡ old) × ((c : ℕ) → c < length old.0.marks → HasMet (part_of c old.0))

-- The pass has the lock, and may make this of the column that it found.
pub record MayPublish (part : Part) (columns : List Column) : Type 0 where
  pub before : Column
  pub after : Column
  pub held : part.held ≡ before ∷ []
  pub is : columns ≡ after ∷ []
  pub becomes : MayBecome part before after

-- What the pass has to do with the column once it was published.
abbrev pub published_as : Part → List Column → Part
published_as part columns = published part (held_in part.held) (held_in columns)

-- What it has to do with the column once the lock was given back.
abbrev pub released : Part → Part
released part = record part { held = [] }
