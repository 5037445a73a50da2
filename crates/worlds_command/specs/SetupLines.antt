-- The lines of the kinds and of the map.
use Rattle.std.specs.Prelude.{ℕ, zero, suc, ◌+◌, Bool, true, false, List, [], ◌∷◌, ◌++◌}
use Rattle.std.specs.Prelude.{codes, unwrap_or}
use Rattle.std.specs.Fmt.{decimal}
use Rattle.rule_traits.specs.declared.kind.Kind.{Kind}
use Rattle.rule_traits.specs.Rules.{hp_of}
use Rattle.game_model.specs.declared.terrain.Terrain.{Terrain}
use Rattle.game_model.specs.declared.terrain.Terrain.TheVariants.{Clear, Road, Rough, Water, Rock}
use Rattle.game_model.specs.Grid.{Grid, at_cell}
use Rattle.game_model.specs.Kinds.{speed_in}
use Rattle.game_model.specs.Setup.{Setup}

abbrev pub building_text : Bool → List ℕ
building_text true = codes "1"
building_text false = codes "0"

-- The line of a kind but its name: its number, its hit points, its speed, and whether it is a
-- building.
unfoldable pub kind_head : ℕ → Kind → List ℕ
kind_head number kind =
    codes "kind " ++ decimal number ++ codes " health " ++ decimal (hp_of kind)
    ++ codes " speed " ++ decimal (speed_in kind.mobile)
    ++ codes " building " ++ building_text kind.building ++ codes " name "

abbrev pub kind_line : ℕ → Kind → List ℕ
kind_line number kind = kind_head number kind ++ kind.name ++ codes "\n"

-- The lines of the kinds from this number on.
abbrev pub kind_lines : ℕ → List Kind → List ℕ
kind_lines number [] = []
kind_lines number (kind ∷ kinds) = kind_line number kind ++ kind_lines (number + 1) kinds

-- The letter of a terrain.
abbrev pub letter_of : Terrain → ℕ
letter_of Clear = 46
letter_of Road = 61
letter_of Rough = 114
letter_of Water = 126
letter_of Rock = 88

-- The letter of a cell.
abbrev pub letter_at : Grid Terrain → (row column : ℕ) → ℕ
letter_at tiles row column =
    letter_of (unwrap_or (at_cell tiles (record { x = column; y = row })) Rock)

-- The letters of so many cells of a row from a column on.
abbrev pub letters_from : Grid Terrain → (row column count : ℕ) → List ℕ
letters_from tiles row column zero = []
letters_from tiles row column (suc count) =
    letter_at tiles row column ∷ letters_from tiles row (column + 1) count

-- The line of a row of this width.
unfoldable pub row_line : Grid Terrain → (width row : ℕ) → List ℕ
row_line tiles width row =
    codes "row " ++ letters_from tiles row 0 width ++ codes "\n"

-- The lines of so many rows from a row on.
abbrev pub rows_from : Grid Terrain → (width row count : ℕ) → List ℕ
rows_from tiles width row zero = []
rows_from tiles width row (suc count) =
    row_line tiles width row ++ rows_from tiles width (row + 1) count

unfoldable pub map_line : (width height : ℕ) → List ℕ
map_line width height =
    codes "map " ++ decimal width ++ codes " " ++ decimal height ++ codes "\n"

-- The lines of a map: the size of its ground, and the terrain of each cell, row by row.
abbrev pub map_lines : Grid Terrain → List ℕ
map_lines tiles =
    map_line tiles.width tiles.height ++ rows_from tiles tiles.width 0 tiles.height

-- The lines of the kinds and of the map.
unfoldable pub setup_lines : Setup → List ℕ
setup_lines setup = kind_lines 0 setup.rules ++ map_lines setup.map.terrain
