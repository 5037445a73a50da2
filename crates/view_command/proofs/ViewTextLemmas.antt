-- Lines of a view, letter by letter and row by row.
use Rattle.std.specs.Prelude.{◌≡◌, ◌<◌, ℕ, ◌+◌, zero, suc, Bool, List, ◌++◌, codes}
use Rattle.std.proofs.Common.{refl, sym, ap, ap₂, ◌∙◌, append_assoc, add-one, arith}
use Rattle.world_units.specs.declared.cell.CPos.{CPos}
use Rattle.view_command.specs.ViewText.{cell_at, letter_of, letters_to, row_line, rows_to}

-- One letter more.
pub more_letters :
    (seen explored : CPos → Bool) (y x : ℕ) (old now new : List ℕ) →
    now ≡ old ++ letters_to seen explored y x →
    new ≡ now ++ letter_of (seen (cell_at x y)) (explored (cell_at x y)) →
    new ≡ old ++ letters_to seen explored y (x + 1)
more_letters seen explored y x old now new so_far added =
    added
    ∙ ap (λ (t : List ℕ). t ++ letter_of (seen (cell_at x y)) (explored (cell_at x y))) so_far
    ∙ append_assoc old (letters_to seen explored y x)
    (letter_of (seen (cell_at x y)) (explored (cell_at x y)))
    ∙ ap (λ (n : ℕ). old ++ letters_to seen explored y n) (sym (add-one x))

-- The end of the line.
pub ends_row :
    (seen explored : CPos → Bool) (width y x : ℕ) (old now new : List ℕ) → x ≡ width →
    now ≡ old ++ letters_to seen explored y x → new ≡ now ++ codes "\n" →
    new ≡ old ++ row_line seen explored width y
unfolding row_line
ends_row seen explored width y x old now new last so_far added =
    added
    ∙ ap (λ (t : List ℕ). t ++ codes "\n") so_far
    ∙ append_assoc old (letters_to seen explored y x) (codes "\n")
    ∙ ap (λ (n : ℕ). old ++ (letters_to seen explored y n ++ codes "\n")) last

-- One row more.
pub more_rows :
    (seen explored : CPos → Bool) (width y : ℕ) (old now new : List ℕ) →
    now ≡ old ++ rows_to seen explored width y → new ≡ now ++ row_line seen explored width y →
    new ≡ old ++ rows_to seen explored width (y + 1)
more_rows seen explored width y old now new so_far added =
    added
    ∙ ap (λ (t : List ℕ). t ++ row_line seen explored width y) so_far
    ∙ append_assoc old (rows_to seen explored width y) (row_line seen explored width y)
    ∙ ap (λ (n : ℕ). old ++ rows_to seen explored width n) (sym (add-one y))

-- Letters of tests that agree on these cells are the same.
same_letters :
    (seen explored also_seen also_explored : CPos → Bool) (y count : ℕ) →
    ((x : ℕ) → x < count →
    (seen (cell_at x y) ≡ also_seen (cell_at x y))
    × (explored (cell_at x y) ≡ also_explored (cell_at x y))) →
    letters_to seen explored y count ≡ letters_to also_seen also_explored y count
same_letters seen explored also_seen also_explored y zero same = refl
same_letters seen explored also_seen also_explored y (suc x) same =
    let here = same x (omega arith) in
    ap₂ (λ (a b : List ℕ). a ++ b)
    (same_letters seen explored also_seen also_explored y x
    (λ k within. same k (omega (arith, within))))
    (ap₂ letter_of here.0 here.1)

-- So are rows of tests that agree on the map.
pub same_rows :
    (seen explored also_seen also_explored : CPos → Bool) (width count : ℕ) →
    ((x y : ℕ) → x < width → y < count →
    (seen (cell_at x y) ≡ also_seen (cell_at x y))
    × (explored (cell_at x y) ≡ also_explored (cell_at x y))) →
    rows_to seen explored width count ≡ rows_to also_seen also_explored width count
unfolding row_line
same_rows seen explored also_seen also_explored width zero same = refl
same_rows seen explored also_seen also_explored width (suc y) same =
    ap₂ (λ (a b : List ℕ). a ++ (b ++ codes "\n"))
    (same_rows seen explored also_seen also_explored width y
    (λ x k column row. same x k column (omega (arith, row))))
    (same_letters seen explored also_seen also_explored y width
    (λ x column. same x y column (omega arith)))
