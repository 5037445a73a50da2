-- The printed lines of a view.
use Rattle.std.specs.Prelude.{ℕ, zero, suc, Bool, true, false, List, [], ◌++◌, codes}
use Rattle.std.specs.Fmt.{decimal}
use Rattle.drill.specs.Text.{end_line}
use Rattle.world_units.specs.declared.cell.CPos.{CPos}

-- The letter of a cell: it is seen now, or it was explored before, or neither.
abbrev pub letter_of : (seen explored : Bool) → List ℕ
letter_of true explored = codes "o"
letter_of false true = codes "."
letter_of false false = codes "#"

abbrev pub cell_at : (x y : ℕ) → CPos
cell_at x y = record { x = x; y = y }

-- The letters of the first cells of a row.
abbrev pub letters_to : (seen explored : CPos → Bool) → (y count : ℕ) → List ℕ
letters_to seen explored y zero = []
letters_to seen explored y (suc x) =
    letters_to seen explored y x ++ letter_of (seen (cell_at x y)) (explored (cell_at x y))

-- The line of a row: a letter for each cell.
unfoldable pub row_line : (seen explored : CPos → Bool) → (width y : ℕ) → List ℕ
row_line seen explored width y = letters_to seen explored y width ++ codes "\n"

-- The lines of the first rows.
abbrev pub rows_to : (seen explored : CPos → Bool) → (width count : ℕ) → List ℕ
rows_to seen explored width zero = []
rows_to seen explored width (suc y) =
    rows_to seen explored width y ++ row_line seen explored width y

-- The line of a client's view after so many frames.
unfoldable pub view_line : (client frames : ℕ) → List ℕ
view_line client frames =
    codes "view " ++ decimal client ++ codes " frames " ++ decimal frames ++ codes "\n"

-- All lines: that line, a line for each row of the map, and `end`.
abbrev pub view_lines :
    (seen explored : CPos → Bool) → (client frames width height : ℕ) → List ℕ
view_lines seen explored client frames width height =
    view_line client frames
    ++ rows_to seen explored width height
    ++ end_line
