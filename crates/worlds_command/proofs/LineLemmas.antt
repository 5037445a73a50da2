-- Lines that are printed one after the other.
use Rattle.std.proofs.Common.{◌≡◌, ◌<◌, ◌≤◌, ℕ, suc, ◌+◌, ◌-◌, List, [], ◌∷◌, ◌++◌, Option, Some, None, IsSome}
use Rattle.std.proofs.Common.{refl, sym, ap, subst, ◌∙◌, arith, append_assoc}
use Rattle.game_io.specs.SinkState.{SinkState}
use Rattle.game_model.specs.declared.terrain.Terrain.{Terrain}
use Rattle.game_model.specs.Grid.{Grid}
use Rattle.game_model.specs.Setup.{Setup}
use Rattle.rule_traits.specs.declared.kind.Kind.{Kind}
use Rattle.world_text.specs.declared.print_fault.PrintFault.{PrintFault}
use Rattle.world_text.specs.declared.print_fault.PrintFault.TheVariants.{Write, NoMemory}
use Rattle.world_text.specs.Printing.{PrintState, printing, IsPrinted, Prints, PrintsBut}
use Rattle.world_text.proofs.PrintingLemmas.{prints_last, prints_next, prints_none}
use Rattle.worlds_command.specs.SetupLines.{kind_line, kind_lines, letter_at, letters_from}
use Rattle.worlds_command.specs.SetupLines.{map_lines, row_line, rows_from, setup_lines}

-- Two texts, and three.
pub prints_two :
    (a b c : PrintState) (x y : List ℕ) → Prints a b x → Prints b c y → Prints a c (x ++ y)
prints_two a b c x y first second =
    prints_last a b c (x ++ y) y
    (prints_next a a b (x ++ y) x y (prints_none a (x ++ y)) first) second

pub prints_three :
    (a b c d : PrintState) (x y z : List ℕ) → Prints a b x → Prints b c y → Prints c d z →
    Prints a d (x ++ y ++ z)
prints_three a b c d x y z first second third =
    prints_two a c d (x ++ y) z (prints_two a b c x y first second) third

-- All is left.
pub prints_all :
    (p : PrintState) (text left : List ℕ) → text ≡ left → PrintsBut p p text left
prints_all p text left same =
    subst (λ (l : List ℕ). PrintsBut p p text l) same (prints_none p text)

-- The next of what is left.
pub prints_step :
    (old now new : PrintState) (text left next rest : List ℕ) → left ≡ next ++ rest →
    PrintsBut old now text left → Prints now new next → PrintsBut old new text rest
prints_step old now new text left next rest is so_far more =
    prints_next old now new text next rest
    (subst (λ (l : List ℕ). PrintsBut old now text l) is so_far) more

-- The next kind.
pub next_kind :
    (old now new : PrintState) (text : List ℕ) (number : ℕ) (kind : Kind) (kinds rest : List Kind) →
    kinds ≡ kind ∷ rest → PrintsBut old now text (kind_lines number kinds) →
    Prints now new (kind_line number kind) →
    PrintsBut old new text (kind_lines (number + 1) rest)
next_kind old now new text number kind kinds rest is so_far next =
    prints_step old now new text (kind_lines number kinds) (kind_line number kind)
    (kind_lines (number + 1) rest) (ap (kind_lines number) is) so_far next

pub no_kinds :
    (number : ℕ) {kinds : List Kind} → kinds ≡ [] → kind_lines number kinds ≡ []
no_kinds number none = ap (kind_lines number) none

one_more : (width column : ℕ) → column < width → width - column ≡ suc (width - (column + 1))
one_more width column within = omega (arith, within)

-- The letters of a row from a column on.
pub letters_next :
    (tiles : Grid Terrain) (row column width : ℕ) → column < width →
    letters_from tiles row column (width - column)
    ≡ letter_at tiles row column ∷ letters_from tiles row (column + 1) (width - (column + 1))
letters_next tiles row column width within =
    ap (letters_from tiles row column) (one_more width column within)

pub letters_end :
    (tiles : Grid Terrain) (row column width : ℕ) → width ≤ column →
    letters_from tiles row column (width - column) ≡ []
letters_end tiles row column width past =
    let none : width - column ≡ 0 = omega (arith, past) in
    ap (letters_from tiles row column) none

-- A letter is added.
pub letter_added :
    (tiles : Grid Terrain) (row column width : ℕ) (text new all : List ℕ) → column < width →
    text ++ letters_from tiles row column (width - column) ≡ all →
    new ≡ text ++ letter_at tiles row column ∷ [] →
    new ++ letters_from tiles row (column + 1) (width - (column + 1)) ≡ all
letter_added tiles row column width text new all within so_far added =
    ap (λ (t : List ℕ). t ++ letters_from tiles row (column + 1) (width - (column + 1))) added
    ∙ append_assoc text (letter_at tiles row column ∷ [])
    (letters_from tiles row (column + 1) (width - (column + 1)))
    ∙ ap (λ (t : List ℕ). text ++ t) (sym (letters_next tiles row column width within))
    ∙ so_far

-- The rows from a row on.
pub rows_next :
    (tiles : Grid Terrain) (width row height : ℕ) → row < height →
    rows_from tiles width row (height - row)
    ≡ row_line tiles width row ++ rows_from tiles width (row + 1) (height - (row + 1))
rows_next tiles width row height within =
    ap (rows_from tiles width row) (one_more height row within)

pub rows_all :
    (tiles : Grid Terrain) (width height : ℕ) →
    rows_from tiles width 0 height ≡ rows_from tiles width 0 (height - 0)
rows_all tiles width height =
    let all : height ≡ height - 0 = omega arith in
    ap (rows_from tiles width 0) all

pub rows_end :
    (tiles : Grid Terrain) (width row height : ℕ) → height ≤ row →
    rows_from tiles width row (height - row) ≡ []
rows_end tiles width row height past =
    let none : height - row ≡ 0 = omega (arith, past) in
    ap (rows_from tiles width row) none

-- The kinds and the map.
pub setup_printed :
    (setup : Setup) (a b c : PrintState) (kinds : List Kind) (tiles : Grid Terrain) →
    kinds ≡ setup.rules → tiles ≡ setup.map.terrain → Prints a b (kind_lines 0 kinds) →
    Prints b c (map_lines tiles) → Prints a c (setup_lines setup)
unfolding setup_lines
setup_printed setup a b c kinds tiles is_kinds is_tiles of_kinds of_map =
    prints_two a b c (kind_lines 0 setup.rules) (map_lines setup.map.terrain)
    (subst (λ (k : List Kind). Prints a b (kind_lines 0 k)) is_kinds of_kinds)
    (subst (λ (t : Grid Terrain). Prints b c (map_lines t)) is_tiles of_map)

-- Whatever is left to print, nothing of it is, once something went wrong.
gives_up :
    (first sink : SinkState) (kept rest other whole : List ℕ) (fault : PrintFault) →
    IsPrinted first (printing kept (Some fault) sink) rest whole →
    IsPrinted first (printing kept (Some fault) sink) other whole
gives_up first sink kept rest other whole Write printed = printed
gives_up first sink kept rest other whole NoMemory printed = printed

pub any_rest :
    (first : SinkState) (p : PrintState) (rest other whole : List ℕ) → IsSome p.fault →
    IsPrinted first p rest whole → IsPrinted first p other whole
any_rest first p rest other whole failed printed = by_fault p.fault failed refl
  where
    by_fault :
        (fault : Option PrintFault) → IsSome fault → p.fault ≡ fault →
        IsPrinted first p other whole
    by_fault None some is = absurd cc
    by_fault (Some fault) some is =
        let here : IsPrinted first (printing p.kept (Some fault) p.sink) rest whole = rw is at printed in
        let there : IsPrinted first (printing p.kept (Some fault) p.sink) other whole =
        gives_up first p.sink p.kept rest other whole fault here in
        rw is there

-- All of a text counts as printed once something went wrong.
pub failed_prints :
    (old now : PrintState) (text left : List ℕ) → IsSome now.fault → PrintsBut old now text left →
    Prints old now text
unfolding PrintsBut Prints
failed_prints old now text left failed so_far first rest whole printed =
    any_rest first now (left ++ rest) rest whole failed (so_far first rest whole printed)

-- So does any text in place of another.
pub failed_any :
    (now new : PrintState) (text other : List ℕ) → IsSome now.fault → Prints now new text →
    Prints now new other
unfolding Prints
failed_any now new text other failed prints first rest whole printed =
    prints first rest whole
    (any_rest first now (other ++ rest) (text ++ rest) whole failed printed)
