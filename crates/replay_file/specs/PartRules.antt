-- The rules of the format: which part may follow which parts.
use Rattle.std.specs.Prelude.{◌≡◌, ℕ, ◌+◌, ◌≤◌, ◌<◌, ◌==◌, Bool, true, false, not, ◌&&◌, ◌||◌}
use Rattle.std.specs.Prelude.{if◌then◌else◌, List, [], ◌∷◌, map, replicate}
use Rattle.std.specs.List.{AllByRecursion, list_any, fold}
use Rattle.game_orders.specs.declared.limits.TheConstants.{MAX_CLIENTS, MAX_FRAMES}
use Rattle.game_orders.specs.declared.order.Order.{Order}
use Rattle.game_orders.specs.declared.entry.Entry.{Entry}
use Rattle.game_orders.specs.declared.entry.Entry.TheVariants.{Play, Leave}
use Rattle.game_orders.specs.Entry.{is_play}
use Rattle.game_orders.specs.OrderBytes.{tag_of}
use Rattle.replay_file.specs.declared.limits.TheConstants.{FIRST_VERSION, VERSION}
use Rattle.replay_file.specs.declared.limits.TheConstants.{FIRST_MAX_CLIENTS, FIRST_MAX_FRAMES}
use Rattle.replay_file.specs.declared.limits.TheConstants.{FIRST_GREATEST_TAG, GREATEST_TAG}
use Rattle.replay_file.specs.declared.part.Part.{Part}
use Rattle.replay_file.specs.declared.part.Part.TheVariants.{Frame, Mark}
use Rattle.replay_file.specs.declared.standing.Standing.{Standing}

-- The versions that are known.
abbrev pub is_known : ℕ → Bool
is_known version = (version == FIRST_VERSION) || (version == VERSION)

-- The greatest numbers of clients and frames, and the greatest tag of an order, in a version.
abbrev pub most_clients : ℕ → ℕ
most_clients version = if version == FIRST_VERSION then FIRST_MAX_CLIENTS else MAX_CLIENTS

abbrev pub most_frames : ℕ → ℕ
most_frames version = if version == FIRST_VERSION then FIRST_MAX_FRAMES else MAX_FRAMES

abbrev pub greatest_tag : ℕ → ℕ
greatest_tag version = if version == FIRST_VERSION then FIRST_GREATEST_TAG else GREATEST_TAG

-- Who has departed in a frame.
abbrev pub departed_in : List Entry → List Bool
departed_in entries = map (λ entry. not (is_play entry)) entries

-- Before the first part.
abbrev pub opening : ℕ → Standing
opening clients = record { departed = replicate clients false; frames = 0; marked = false }

-- After a part: who has departed in the last frame, how many frames there are, and whether the part
-- is a mark.
abbrev pub after_part : Standing → Part → Standing
after_part s (Frame entries) =
    record { departed = departed_in entries; frames = s.frames + 1; marked = false }
after_part s (Mark hash) = record { departed = s.departed; frames = s.frames; marked = true }

abbrev pub after_parts : Standing → List Part → Standing
after_parts s parts = fold after_part s parts

-- A client that has departed plays no more.
abbrev pub EntryFollows : Bool → Entry → Type 0
EntryFollows gone entry = (gone && is_play entry) ≡ false

-- One entry for each client, and who has departed before has departed.
abbrev pub StayDeparted : List Bool → List Entry → Type 0
StayDeparted [] [] = Unit {0}
StayDeparted [] (entry ∷ entries) = ⊥
StayDeparted (gone ∷ more) [] = ⊥
StayDeparted (gone ∷ more) (entry ∷ entries) = EntryFollows gone entry × StayDeparted more entries

-- No order has a greater tag.
abbrev pub HasTagUpTo : ℕ → Order → Type 0
HasTagUpTo greatest order = tag_of order ≤ greatest

abbrev pub HasTagsUpTo : ℕ → Entry → Type 0
HasTagsUpTo greatest (Play orders) = AllByRecursion (HasTagUpTo greatest) orders
HasTagsUpTo greatest Leave = Unit {0}

-- A frame may come next: there are fewer than the most frames, it has one entry for each client,
-- who has departed stays departed, at least one client plays, and the version has all orders.
pub record FrameMayFollow (version : ℕ) (s : Standing) (entries : List Entry) : Type 0 where
  pub room : s.frames < most_frames version
  pub departed : StayDeparted s.departed entries
  pub play : list_any is_play entries ≡ true
  pub orders : AllByRecursion (HasTagsUpTo (greatest_tag version)) entries

-- A part may come next. No mark comes directly after a mark.
abbrev pub MayFollow : ℕ → Standing → Part → Type 0
MayFollow version s (Frame entries) = FrameMayFollow version s entries
MayFollow version s (Mark hash) = s.marked ≡ false

-- Each part may follow those before it.
abbrev pub EachMayFollow : ℕ → Standing → List Part → Type 0
EachMayFollow version s [] = Unit {0}
EachMayFollow version s (part ∷ parts) =
    MayFollow version s part × EachMayFollow version (after_part s part) parts
