-- What each mark of a pass becomes when a pass is split in two or two are joined.
use Rattle.std.proofs.Common.{◌≡◌, ℕ, zero, suc, ◌<◌, Bool, true, false, true≢false, List, [], ◌∷◌}
use Rattle.std.proofs.Common.{length, map, get_or, refl, sym, ap, arith}
use Rattle.frame_table.specs.declared.planned.Planned.{Planned}
use Rattle.frame_table.specs.declared.planned.Planned.TheVariants.{Free}
use Rattle.frame_table.specs.declared.view.Mark.{Mark}
use Rattle.frame_table.specs.Part.{no_mark}
use Rattle.frame_table.specs.Passes.{kept_mark, given_mark, kept_marks, given_marks, joined_mark}
use Rattle.frame_table.specs.Passes.{joined_marks, first_mark}

-- One mark, by whether its right to add plays is handed over.
abbrev pub IsHanded : Bool → Mark → Mark → Mark → Type 0
IsHanded b mark kept given =
    (kept ≡ kept_mark b mark) × (given ≡ given_mark b mark) × (b ≡ true → mark.feeds ≡ true)

abbrev pub Handed : List Mark → ℕ → Type 0
Handed marks c =
    (b : Bool) × IsHanded b (get_or marks c no_mark) (get_or (kept_marks marks) c no_mark)
    (get_or (given_marks marks) c no_mark)

unfed : (ms : List Mark) (d : ℕ) → get_or (map (given_mark false) ms) d no_mark ≡ given_mark false
    (get_or ms d no_mark)
unfed [] d = refl
unfed (m ∷ ms) zero = refl
unfed (m ∷ ms) (suc d) = unfed ms d

handed_by : (mark : Mark) (marks : List Mark) (feeds : Bool) → mark.feeds ≡ feeds → (d : ℕ) →
    ((e : ℕ) → Handed marks e) → Handed (mark ∷ marks) d
handed_by mark marks true is zero rest = (true, (rw is refl, rw is refl, λ _. is))
handed_by mark marks true is (suc d) rest = (
  false,
  (rw is refl, rw is (unfed marks d), λ no. absurd (true≢false (sym no))),
)
handed_by mark marks false is zero rest = (
  false,
  (rw is refl, rw is refl, λ no. absurd (true≢false (sym no))),
)
handed_by mark marks false is (suc d) rest = let r = rest d in
    (r.0, (rw is r.1.0, rw is r.1.1, r.1.2))

-- Each mark of the two passes, by whether its right is handed over.
pub handed : (marks : List Mark) (c : ℕ) → Handed marks c
handed [] c = (false, (refl, refl, λ is. absurd (true≢false (sym is))))
handed (mark ∷ marks) c = handed_by mark marks mark.feeds refl c (λ e. handed marks e)

-- Each mark of the first pass.
pub first_at : (plan : List Planned) (c : ℕ) → c < length plan →
    get_or (map first_mark plan) c no_mark ≡ first_mark (get_or plan c Free)
first_at [] c below = absurd (omega arith)
first_at (p ∷ plan) zero below = refl
first_at (p ∷ plan) (suc c) below = first_at plan c (omega arith)

-- It has one for each column.
pub first_length : (plan : List Planned) → length (map first_mark plan) ≡ length plan
first_length [] = refl
first_length (p ∷ plan) = ap suc (first_length plan)

-- Each mark of a joined pass.
pub joined_at : (xs ys : List Mark) (c : ℕ) → c < length xs → c < length ys →
    get_or (joined_marks xs ys) c no_mark ≡ joined_mark (get_or xs c no_mark) (get_or ys c no_mark)
joined_at [] ys c n m = absurd (omega arith)
joined_at (a ∷ xs) [] c n m = absurd (omega arith)
joined_at (a ∷ xs) (b ∷ ys) zero n m = refl
joined_at (a ∷ xs) (b ∷ ys) (suc c) n m = joined_at xs ys c (omega arith) (omega arith)

-- A join keeps the number of columns.
pub joined_length : (xs ys : List Mark) → length (joined_marks xs ys) ≡ length xs
joined_length [] ys = refl
joined_length (a ∷ xs) [] = refl
joined_length (a ∷ xs) (b ∷ ys) = ap suc (joined_length xs ys)

-- A split keeps the number of columns.
pub given_length : (ms : List Mark) → (length (kept_marks ms) ≡ length ms) ×
    (length (given_marks ms) ≡ length ms)
given_length [] = (refl, refl)
given_length (m ∷ ms) = by m.feeds refl (given_length ms)
  where
    mapped : (xs : List Mark) → length (map (given_mark false) xs) ≡ length xs
    mapped [] = refl
    mapped (x ∷ xs) = ap suc (mapped xs)

    by : (t : Bool) → m.feeds ≡ t → ((length (kept_marks ms) ≡ length ms) ×
        (length (given_marks ms) ≡ length ms)) →
        (length (kept_marks (m ∷ ms)) ≡ suc (length ms)) ×
        (length (given_marks (m ∷ ms)) ≡ suc (length ms))
    by true is rest = (rw is refl, rw is (ap suc (mapped ms)))
    by false is rest = (rw is (ap suc rest.0), rw is (ap suc rest.1))

-- A join leaves the locks to the pass that stays.
pub joined_held : (xs ys : List Mark) (c : ℕ) →
    (get_or (joined_marks xs ys) c no_mark).held ≡ (get_or xs c no_mark).held
joined_held [] ys c = refl
joined_held (a ∷ xs) [] c = refl
joined_held (a ∷ xs) (b ∷ ys) zero = refl
joined_held (a ∷ xs) (b ∷ ys) (suc c) = joined_held xs ys c
