-- What the rules of the format mean for a whole replay, in terms of its frames and marks.
use Rattle.std.specs.Prelude.{◌≡◌, ℕ, ◌≤◌, true}
use Rattle.std.specs.Prelude.{List, [], ◌∷◌, ◌++◌, length, slice_get, Some}
use Rattle.std.specs.List.{AllByRecursion, list_any}
use Rattle.game_orders.specs.declared.entry.Entry.{Entry}
use Rattle.game_orders.specs.declared.entry.Entry.TheVariants.{Leave}
use Rattle.game_orders.specs.Entry.{is_play}
use Rattle.replay_file.specs.declared.part.Part.{Part}
use Rattle.replay_file.specs.declared.part.Part.TheVariants.{Frame, Mark}
use Rattle.replay_file.specs.Frames.{frames_of}
use Rattle.replay_file.specs.PartRules.{HasTagsUpTo}

-- A client that departed in the first frame has departed in the second.
abbrev pub StayedAway : List Entry → List Entry → Type 0
StayedAway earlier later =
    (c : ℕ) → slice_get earlier c ≡ Some Leave → slice_get later c ≡ Some Leave

-- A client that has departed in a frame has departed in each later one.
abbrev pub DeparturesStay : List (List Entry) → Type 0
DeparturesStay [] = Unit {0}
DeparturesStay (frame ∷ frames) =
    AllByRecursion (StayedAway frame) frames × DeparturesStay frames

-- A frame has one entry for each client, and one of them is a play.
abbrev pub IsFrameOf : ℕ → List Entry → Type 0
IsFrameOf clients frame = (length frame ≡ clients) × (list_any is_play frame ≡ true)

-- No mark stands directly after a mark.
abbrev pub MarksApart : List Part → Type 0
MarksApart parts =
    (before after : List Part) (hash other : ℕ) →
    parts ≡ before ++ Mark hash ∷ Mark other ∷ after → ⊥

-- What holds of all parts of a valid replay of so many clients and at most so many frames.
pub record ObeysRules (clients most : ℕ) (parts : List Part) : Type 0 where
  pub few : length (frames_of parts) ≤ most
  pub each : AllByRecursion (IsFrameOf clients) (frames_of parts)
  pub departures : DeparturesStay (frames_of parts)
  pub marks : MarksApart parts

-- No order of a part has a tag above the greatest.
abbrev pub HasKnownOrders : ℕ → Part → Type 0
HasKnownOrders greatest (Frame entries) = AllByRecursion (HasTagsUpTo greatest) entries
HasKnownOrders greatest (Mark hash) = Unit {0}
