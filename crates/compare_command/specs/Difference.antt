-- The differences of two files, and when two values are the same.
use Rattle.std.specs.Prelude.{ℕ, ◌==◌, ◌&&◌, Bool, true, false, if◌then◌else◌, List, [], ◌∷◌}
use Rattle.std.specs.Prelude.{Option, Some, None}
use Rattle.std.specs.Cmp.Lexicographic.{pointwise}
use Rattle.world_units.specs.declared.cell.CPos.{CPos}
use Rattle.world_units.specs.Cells.{same_cell}
use Rattle.activities.specs.declared.activity.Activity.{Activity}
use Rattle.activities.specs.Activity.{same_queue}
use Rattle.game_model.specs.declared.actor.Leg.{Leg}
use Rattle.game_model.specs.declared.builds.Build.{Build}
use Rattle.game_orders.specs.declared.entry.Entry.{Entry}
use Rattle.game_orders.specs.Entry.{same_entry}
use Rattle.compare_command.specs.declared.subject.Subject.{Subject}
use Rattle.compare_command.specs.declared.values.Values.{Values as LentValues}
use Rattle.compare_command.specs.declared.values.Values.TheVariants as lent

-- Two values of one kind: that of the first file, then that of the second.
pub data Values : Type 0 where
  Numbers : ℕ → ℕ → Values
  Flags : Bool → Bool → Values
  Cells : CPos → CPos → Values
  Legs : Option Leg → Option Leg → Values
  Acts : List Activity → List Activity → Values
  Builds : List Build → List Build → Values
  Entries : Entry → Entry → Values
  Hashes : ℕ → ℕ → Values

-- One difference: both values of something that both files have, or an actor, by its id, that one
-- file alone has.
pub data Difference : Type 0 where
  Differs : Subject → Values → Difference
  OnlyFirst : (id : ℕ) → Difference
  OnlySecond : (id : ℕ) → Difference

-- The values that code lends.
abbrev pub values_of : LentValues → Values
values_of (lent.Numbers a b) = Numbers a b
values_of (lent.Flags a b) = Flags a b
values_of (lent.Cells a b) = Cells a b
values_of (lent.Legs a b) = Legs a b
values_of (lent.Acts a b) = Acts a.now b.now
values_of (lent.Builds a b) = Builds a.now b.now
values_of (lent.Entries a b) = Entries a.now b.now
values_of (lent.Hashes a b) = Hashes a b

-- The two flags are one.
abbrev pub same_flag : Bool → Bool → Bool
same_flag true true = true
same_flag true false = false
same_flag false true = false
same_flag false false = true

-- The two are one leg, or both none.
abbrev pub same_leg : Option Leg → Option Leg → Bool
same_leg None None = true
same_leg None (Some b) = false
same_leg (Some a) None = false
same_leg (Some a) (Some b) = (a.dir == b.dir) && (a.progress == b.progress)

-- The two are one build.
abbrev pub same_build : Build → Build → Bool
same_build a b = (a.kind == b.kind) && (a.left == b.left)

-- The second is there and is the same build.
abbrev pub is_build : Build → Option Build → Bool
is_build build None = false
is_build build (Some other) = same_build build other

abbrev pub same_builds : List Build → List Build → Bool
same_builds = pointwise same_build

-- The two values are the same.
unfoldable pub are_same : Values → Bool
are_same (Numbers a b) = a == b
are_same (Flags a b) = same_flag a b
are_same (Cells a b) = same_cell a b
are_same (Legs a b) = same_leg a b
are_same (Acts a b) = same_queue a b
are_same (Builds a b) = same_builds a b
are_same (Entries a b) = same_entry a b
are_same (Hashes a b) = a == b

-- The difference of two values of something, if they are not the same.
abbrev pub compared : Subject → Values → List Difference
compared subject values = if are_same values then [] else Differs subject values ∷ []

-- The same of something that a file may lack: no difference where one does.
abbrev pub compared_if :
    {T : Type 0} → Subject → (T → T → Values) → Option T → Option T → List Difference
compared_if subject values None None = []
compared_if subject values None (Some b) = []
compared_if subject values (Some a) None = []
compared_if subject values (Some a) (Some b) = compared subject (values a b)
