-- How a pass is split in two, and how two are joined.
use Rattle.std.specs.Prelude.{ℕ, ◌+◌, ◌-◌, ◌/◌, ◌^◌, max, nat_lt, Bool, true, false}
use Rattle.std.specs.Prelude.{◌||◌, if◌then◌else◌}
use Rattle.std.specs.Prelude.{List, [], ◌∷◌, map}
use Rattle.frame_core.specs.Column.{Column, length_of}
use Rattle.frame_table.specs.declared.seen.Seen.{Seen}
use Rattle.frame_table.specs.declared.planned.Planned.{Planned}
use Rattle.frame_table.specs.declared.planned.Planned.TheVariants.{Free, Plays}
use Rattle.frame_table.specs.declared.view.View.{View}
use Rattle.frame_table.specs.declared.view.Mark.{Mark}
use Rattle.frame_table.specs.Part.{no_mark}
use Rattle.frame_table.specs.Word.{one_if}

-- The mark that the given pass keeps: without the right to add plays, where it is handed over.
abbrev pub kept_mark : Bool → Mark → Mark
kept_mark true mark = record mark { feeds = false }
kept_mark false mark = mark

-- The mark of the new pass, which has fixed nothing.
abbrev pub given_mark : Bool → Mark → Mark
given_mark feeds mark = record mark { feeds = feeds; made = 0; held = [] }

-- The first right to add plays is handed over.
abbrev pub kept_marks : List Mark → List Mark
kept_marks [] = []
kept_marks (mark ∷ marks) =
    if mark.feeds then kept_mark true mark ∷ marks else mark ∷ kept_marks marks

abbrev pub given_marks : List Mark → List Mark
given_marks [] = []
given_marks (mark ∷ marks) =
    if mark.feeds then given_mark true mark ∷ map (given_mark false) marks
    else given_mark false mark ∷ given_marks marks

-- What the given pass keeps.
abbrev pub kept_view : View → View
kept_view view =
    record { share = view.share - view.share / 2; marks = kept_marks view.marks }

-- What the new pass has: half of the share, rounded down.
abbrev pub given_view : View → View
given_view view = record { share = view.share / 2; marks = given_marks view.marks }

-- The entries of a column, its departure among them.
abbrev pub size_of : Column → ℕ
size_of column = length_of column + one_if column.left

abbrev pub longer : Column → Column → Column
longer a b = if nat_lt (size_of a) (size_of b) then b else a

abbrev pub shorter : Column → Column → Column
shorter a b = if nat_lt (size_of a) (size_of b) then a else b

abbrev pub further : Seen → Seen → Seen
further a b = record { plays = max a.plays b.plays; left = a.left || b.left }

abbrev pub known_in : Mark → Column
known_in mark = record { plays = mark.known_plays; left = mark.knows_leave }

abbrev pub joined_mark : Mark → Mark → Mark
joined_mark a b =
    record {
      planned = a.planned;
      reach = further a.reach b.reach;
      known_plays = (longer (known_in a) (known_in b)).plays;
      knows_leave = (longer (known_in a) (known_in b)).left;
      loads = max a.loads b.loads;
      feeds = a.feeds || b.feeds;
      made = a.made + b.made;
      held = a.held;
      met_plays = (shorter (known_in a) (known_in b)).plays;
      met_leave = (shorter (known_in a) (known_in b)).left;
    }

abbrev pub joined_marks : List Mark → List Mark → List Mark
joined_marks [] others = []
joined_marks (mark ∷ marks) [] = mark ∷ marks
joined_marks (mark ∷ marks) (other ∷ others) = joined_mark mark other ∷ joined_marks marks others

-- What a pass has when another was joined into it.
abbrev pub joined_view : View → View → View
joined_view a b =
    record { share = a.share + b.share; marks = joined_marks a.marks b.marks }

-- What is left of a pass that was joined into another.
abbrev pub spent_view : View
spent_view = record { share = 0; marks = [] }

-- What the first pass has to do with a column: it may add plays to each free one.
abbrev pub is_free : Planned → Bool
is_free Free = true
is_free (Plays plays) = false

abbrev pub first_mark : Planned → Mark
first_mark planned = record no_mark { planned = planned; feeds = is_free planned }

-- The first pass has the whole share.
abbrev pub first_view : List Planned → View
first_view plan = record { share = 2 ^ 62; marks = map first_mark plan }
