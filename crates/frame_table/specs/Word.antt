-- The word of a column: its number of plays, whether its client has left, and whether its lock is
-- taken.
use Rattle.std.specs.Prelude.{ℕ, ◌+◌, ◌*◌, ◌/◌, ◌%◌, ◌==◌, Bool, if◌then◌else◌}
use Rattle.frame_core.specs.Column.{Column, length_of}
use Rattle.frame_table.specs.declared.seen.Seen.{Seen}

abbrev pub one_if : Bool → ℕ
one_if b = if b then 1 else 0

abbrev pub word_for : ℕ → Bool → Bool → ℕ
word_for plays left locked = plays * 4 + (one_if left * 2 + one_if locked)

abbrev pub word_of : Column → Bool → ℕ
word_of column locked = word_for (length_of column) column.left locked

-- How much of the column a word shows.
abbrev pub seen_of : ℕ → Seen
seen_of word = record { plays = word / 4; left = word / 2 % 2 == 1 }

-- All of a column.
abbrev pub whole_of : Column → Seen
whole_of column = record { plays = length_of column; left = column.left }
