-- The printed lines of differences.
use Rattle.std.specs.Prelude.{ℕ, ◌==◌, ◌||◌, Bool, true, false, if◌then◌else◌, List, [], ◌∷◌, ◌++◌}
use Rattle.std.specs.Prelude.{drop, codes}
use Rattle.std.specs.List.{flat_map}
use Rattle.std.specs.Fmt.{decimal}
use Rattle.world_units.specs.declared.cell.CPos.{CPos}
use Rattle.activities.specs.declared.activity.Activity.{Activity}
use Rattle.drill.specs.Text.{end_line}
use Rattle.drill_words.specs.Hash.{hash_digits}
use Rattle.drill_words.specs.Text.{orders_words, spaced}
use Rattle.game_model.specs.declared.builds.Build.{Build}
use Rattle.game_orders.specs.declared.entry.Entry.{Entry}
use Rattle.game_orders.specs.declared.entry.Entry.TheVariants.{Play, Leave}
use Rattle.game_orders.specs.declared.order.Order.{Order}
use Rattle.world_text.specs.WorldText.{activity_line, leg_text}
use Rattle.compare_command.specs.declared.subject.Field.{Field}
use Rattle.compare_command.specs.declared.subject.Field.TheVariants as field
use Rattle.compare_command.specs.declared.subject.Subject.{Subject}
use Rattle.compare_command.specs.declared.subject.Subject.TheVariants as subject
use Rattle.compare_command.specs.Difference.{Difference, Differs, OnlyFirst, OnlySecond}
use Rattle.compare_command.specs.Difference.{Values, Numbers, Flags, Cells, Legs, Acts, Builds}
use Rattle.compare_command.specs.Difference.{Entries, Hashes}

-- The word of an actor's field.
unfoldable pub field_word : Field → List ℕ
field_word field.Kind = codes "kind"
field_word field.Owner = codes "owner"
field_word field.Cell = codes "cell"
field_word field.Facing = codes "facing"
field_word field.Leg = codes "leg"
field_word field.Health = codes "health"
field_word field.Load = codes "load"
field_word field.Reload = codes "reload"
field_word field.Acts = codes "acts"
field_word field.Builds = codes "builds"

-- What differs, in words.
unfoldable pub subject_words : Subject → List ℕ
subject_words subject.Frames = codes "frames"
subject_words subject.Tick = codes "tick"
subject_words subject.Seed = codes "seed"
subject_words subject.Drawn = codes "drawn"
subject_words subject.Next = codes "next"
subject_words subject.Pace = codes "pace"
subject_words subject.Clients = codes "clients"
subject_words (subject.Cash client) = codes "cash " ++ decimal client
subject_words (subject.Gone client) = codes "gone " ++ decimal client
subject_words (subject.Actor id of) = codes "actor " ++ decimal id ++ codes " " ++ field_word of
subject_words (subject.Ore column row) =
    codes "ore " ++ decimal column ++ codes "," ++ decimal row
subject_words (subject.Entry frame client) =
    codes "frame " ++ decimal frame ++ codes " client " ++ decimal client
subject_words (subject.Mark frames) = codes "mark " ++ decimal frames

-- A byte of words that are put into one word: a colon for a space and for a comma, and nothing for
-- the end of a line.
abbrev pub joined_byte : ℕ → List ℕ
joined_byte byte =
    if byte == 10 then [] else (if (byte == 32) || (byte == 44) then 58 ∷ [] else byte ∷ [])

-- Words as one word.
unfoldable pub joined : List ℕ → List ℕ
joined words = flat_map joined_byte words

abbrev pub flag_word : Bool → List ℕ
flag_word true = codes "1"
flag_word false = codes "0"

unfoldable pub cell_word : CPos → List ℕ
cell_word cell = decimal cell.x ++ codes "," ++ decimal cell.y

-- A word after a comma.
abbrev pub comma_word : {T : Type 0} → (T → List ℕ) → T → List ℕ
comma_word word one = codes "," ++ word one

-- Words with a comma between them.
abbrev pub comma_words : {T : Type 0} → (T → List ℕ) → List T → List ℕ
comma_words word [] = codes "-"
comma_words word (one ∷ more) = word one ++ flat_map (comma_word word) more

-- An activity: its line in the text of a world after the word `act`.
unfoldable pub activity_word : Activity → List ℕ
activity_word act = joined (drop 4 (activity_line act))

-- A build: its kind and the turns left.
unfoldable pub build_word : Build → List ℕ
build_word build = decimal build.kind ++ codes ":" ++ decimal build.left

-- Orders as a drill writes them.
abbrev pub orders_word : List Order → List ℕ
orders_word [] = codes "-"
orders_word (order ∷ orders) = joined (spaced (orders_words (order ∷ orders)))

-- What a client did in a frame.
abbrev pub entry_word : Entry → List ℕ
entry_word Leave = codes "leave"
entry_word (Play orders) = orders_word orders

-- Two words.
abbrev pub both : (first second : List ℕ) → List ℕ
both first second = first ++ codes " " ++ second

-- Two values.
unfoldable pub values_words : Values → List ℕ
values_words (Numbers a b) = both (decimal a) (decimal b)
values_words (Flags a b) = both (flag_word a) (flag_word b)
values_words (Cells a b) = both (cell_word a) (cell_word b)
values_words (Legs a b) = both (leg_text a) (leg_text b)
values_words (Acts a b) = both (comma_words activity_word a) (comma_words activity_word b)
values_words (Builds a b) = both (comma_words build_word a) (comma_words build_word b)
values_words (Entries a b) = both (entry_word a) (entry_word b)
values_words (Hashes a b) = both (hash_digits a) (hash_digits b)

-- The line of a difference.
unfoldable pub line_of : Difference → List ℕ
line_of (Differs of values) = subject_words of ++ codes " " ++ values_words values ++ codes "\n"
line_of (OnlyFirst id) = codes "actor " ++ decimal id ++ codes " only first\n"
line_of (OnlySecond id) = codes "actor " ++ decimal id ++ codes " only second\n"

abbrev pub lines_of : List Difference → List ℕ
lines_of differences = flat_map line_of differences

-- The last lines: how many differences there are, and `end`.
unfoldable pub last_lines : ℕ → List ℕ
last_lines count = codes "differences " ++ decimal count ++ codes "\n" ++ end_line
