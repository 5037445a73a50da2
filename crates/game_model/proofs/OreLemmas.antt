-- Counts of the cells with ore.
use Rattle.std.proofs.Common.{◌≡◌, ◌⊎◌, ◌*◌, ◌+◌, ◌<◌, ◌≤◌, ℕ, zero, suc, cond, List, length}
use Rattle.std.proofs.Common.{take, drop, replicate, set, get_or, refl, sym, ap, ◌∙◌, inl, inr, arith}
use Rattle.std.specs.Prelude.{IsTrue}
use Rattle.std.specs.List.{count_by}
use Rattle.std.proofs.lemmas.List.{length-set, length-replicate, get_or-set_same, get_or-set_other}
use Rattle.std.proofs.lemmas.Bool.{cases_lt}
use Rattle.std.proofs.lemmas.List.{length-take, length-drop, get_or-take, get_or-drop}
use Rattle.std.proofs.lemmas.List.{drop-set-lt, drop-set-add, take-set-le, drop-take}
use Rattle.std.proofs.lemmas.List.Sums.{sum_by-set, count_by-le-length}
use Rattle.std.proofs.Math.Seq.{take-set-lt}
use Rattle.std.proofs.Math.Nat.{mul-le-mul_right}
use Rattle.std.proofs.lemmas.Nat.{mul-add-lt}
use Rattle.game_model.specs.OreRows.{has_ore, row_of, recounted, AreCounted}

ore_digit : ℕ → ℕ
ore_digit bales = cond (has_ore bales) 1 0

-- A row in which a cell changes.
row_set_same :
    (cells : List ℕ) (width x y value : ℕ) → x < width →
    row_of (set cells (y * width + x) value) width y ≡ set (row_of cells width y) x value
row_set_same cells width x y value within =
    ap (take width) (drop-set-add (y * width) cells x value)
    ∙ take-set-lt width (drop (y * width) cells) x value within

row_set_later :
    (cells : List ℕ) (width x y row value : ℕ) → x < width → y < row →
    row_of (set cells (y * width + x) value) width row ≡ row_of cells width row
row_set_later cells width x y row value within later =
    let past : (y + 1) * width ≤ row * width = mul-le-mul_right width (omega arith) in
    ap (take width) (drop-set-lt (row * width) cells (y * width + x) value (omega (arith, past)))

row_set_earlier :
    (cells : List ℕ) (width x y row value : ℕ) → row < y →
    row_of (set cells (y * width + x) value) width row ≡ row_of cells width row
row_set_earlier cells width x y row value earlier =
    let past : (row + 1) * width ≤ y * width = mul-le-mul_right width (omega arith) in
    sym (drop-take (row * width) width (set cells (y * width + x) value))
    ∙ ap (drop (row * width)) (take-set-le (row * width + width) cells (y * width + x) value (omega (arith, past)))
    ∙ drop-take (row * width) width cells

-- A count with one cell changed.
recount :
    (xs : List ℕ) (i value : ℕ) → i < length xs →
    count_by has_ore (set xs i value)
    ≡ recounted (count_by has_ore xs) (has_ore (get_or xs i 0)) (has_ore value)
recount xs i value within =
    let changed = sum_by-set (λ x. cond (has_ore x) 1 0) xs i value 0 within in omega (arith, changed)

-- A cell with ore is counted.
counted :
    (xs : List ℕ) (i : ℕ) → i < length xs → cond (has_ore (get_or xs i 0)) 1 0 ≤ count_by has_ore xs
counted xs i within =
    let changed = sum_by-set (λ x. cond (has_ore x) 1 0) xs i 0 0 within in omega (arith, changed)

within_row :
    (cells : List ℕ) (width height x y : ℕ) → length cells ≡ width * height → x < width → y < height →
    x < length (row_of cells width y)
within_row cells width height x y whole column row =
    omega (arith, whole, mul-add-lt y width x height row column, length-take width (drop (y * width) cells), length-drop (y * width) cells)

row_at :
    (cells : List ℕ) (width x y : ℕ) → x < width →
    get_or (row_of cells width y) x 0 ≡ get_or cells (y * width + x) 0
row_at cells width x y column =
    get_or-take width (drop (y * width) cells) x 0 column ∙ get_or-drop (y * width) cells x 0

-- The cell at which a row's count is kept.
row_recounted :
    (width height x y value : ℕ) (cells rows : List ℕ) (total row : ℕ) →
    AreCounted width height cells rows total → x < width → y < height →
    row ≡ recounted (get_or rows y 0) (has_ore (get_or cells (y * width + x) 0)) (has_ore value) →
    row ≡ count_by has_ore (row_of (set cells (y * width + x) value) width y)
row_recounted width height x y value cells rows total row counts column within is =
    let kept : get_or rows y 0 ≡ count_by has_ore (row_of cells width y) = counts.by_row y within in
    let at = row_at cells width x y column in
    let inside = within_row cells width height x y counts.whole column within in
    is
    ∙ ap (λ n. recounted n (has_ore (get_or cells (y * width + x) 0)) (has_ore value)) kept
    ∙ ap (λ b. recounted (count_by has_ore (row_of cells width y)) (has_ore b) (has_ore value)) (sym at)
    ∙ sym (recount (row_of cells width y) x value inside)
    ∙ ap (count_by has_ore) (sym (row_set_same cells width x y value column))

-- The other rows' counts stay.
others_counted :
    (width x y value r : ℕ) (cells rows : List ℕ) (row : ℕ) → x < width →
    get_or rows r 0 ≡ count_by has_ore (row_of cells width r) → (r < y) ⊎ (y < r) →
    get_or (set rows y row) r 0 ≡ count_by has_ore (row_of (set cells (y * width + x) value) width r)
others_counted width x y value r cells rows row column kept (inl earlier) =
    get_or-set_other rows y r row 0 (λ same. omega arith) ∙ kept
    ∙ ap (count_by has_ore) (sym (row_set_earlier cells width x y r value earlier))
others_counted width x y value r cells rows row column kept (inr later) =
    get_or-set_other rows y r row 0 (λ same. omega arith) ∙ kept
    ∙ ap (count_by has_ore) (sym (row_set_later cells width x y r value column later))

each_counted :
    (width height x y value r : ℕ) (cells rows : List ℕ) (total row : ℕ) →
    AreCounted width height cells rows total → x < width → y < height → r < height →
    row ≡ count_by has_ore (row_of (set cells (y * width + x) value) width y) →
    (r < y) ⊎ (y ≤ r) →
    get_or (set rows y row) r 0 ≡ count_by has_ore (row_of (set cells (y * width + x) value) width r)
each_counted width height x y value r cells rows total row counts column within inside is (inl earlier) =
    others_counted width x y value r cells rows row column (counts.by_row r inside) (inl earlier)
each_counted width height x y value r cells rows total row counts column within inside is (inr from) =
    at_or_after (cases_lt y r) where
      at_or_after :
          ((y < r) ⊎ (r ≤ y)) →
          get_or (set rows y row) r 0 ≡ count_by has_ore (row_of (set cells (y * width + x) value) width r)
      at_or_after (inl later) =
          others_counted width x y value r cells rows row column (counts.by_row r inside) (inr later)
      at_or_after (inr upto) =
          let same : r ≡ y = omega arith in
          let there : y < length rows = omega (arith, counts.each) in
          ap (λ k. get_or (set rows y row) k 0) same ∙ get_or-set_same rows y row 0 there ∙ is
          ∙ ap (λ k. count_by has_ore (row_of (set cells (y * width + x) value) width k)) (sym same)

-- The counts after a cell was set.
pub set_counted :
    (width height x y value : ℕ) (cells rows : List ℕ) (total row whole : ℕ) →
    AreCounted width height cells rows total → x < width → y < height →
    row ≡ recounted (get_or rows y 0) (has_ore (get_or cells (y * width + x) 0)) (has_ore value) →
    whole ≡ recounted total (has_ore (get_or cells (y * width + x) 0)) (has_ore value) →
    AreCounted width height (set cells (y * width + x) value) (set rows y row) whole
set_counted width height x y value cells rows total row whole counts column within is all =
    let place : y * width + x < length cells = omega (arith, mul-add-lt y width x height within column, counts.whole) in
    let counted_row = row_recounted width height x y value cells rows total row counts column within is in
    record {
      whole = length-set cells (y * width + x) value ∙ counts.whole;
      each = length-set rows y row ∙ counts.each;
      by_row =
          λ r inside. each_counted width height x y value r cells rows total row counts column within inside counted_row (cases_lt r y);
      in_all =
          all ∙ ap (λ n. recounted n (has_ore (get_or cells (y * width + x) 0)) (has_ore value)) counts.in_all
          ∙ sym (recount cells (y * width + x) value place);
    }

-- A row with a cell that has ore has it counted.
pub some_in_row :
    (width height x y : ℕ) (cells rows : List ℕ) (total : ℕ) →
    AreCounted width height cells rows total → x < width → y < height →
    IsTrue (has_ore (get_or cells (y * width + x) 0)) → 1 ≤ get_or rows y 0
some_in_row width height x y cells rows total counts column within has =
    let kept : get_or rows y 0 ≡ count_by has_ore (row_of cells width y) = counts.by_row y within in
    let inside = within_row cells width height x y counts.whole column within in
    let one = counted (row_of cells width y) x inside in
    let at = ap {B = ℕ} (λ b. cond (has_ore b) 1 0) (row_at cells width x y column) in
    let is : cond (has_ore (get_or cells (y * width + x) 0)) 1 0 ≡ 1 = ap {B = ℕ} (λ b. cond b 1 0) has in
    omega (arith, kept, one, at, is)

-- A row has at most its width of cells with ore.
pub most_in_row :
    (width height y : ℕ) (cells rows : List ℕ) (total : ℕ) →
    AreCounted width height cells rows total → y < height → get_or rows y 0 ≤ width
most_in_row width height y cells rows total counts within =
    let kept : get_or rows y 0 ≡ count_by has_ore (row_of cells width y) = counts.by_row y within in
    omega (arith, kept, count_by-le-length has_ore (row_of cells width y), length-take width (drop (y * width) cells))

take_zeros : (m n : ℕ) → count_by has_ore (take m (replicate n 0)) ≡ 0
take_zeros zero n = refl
take_zeros (suc m) zero = refl
take_zeros (suc m) (suc n) = take_zeros m n

row_zeros : (m k n : ℕ) → count_by has_ore (take m (drop k (replicate n 0))) ≡ 0
row_zeros m zero n = take_zeros m n
row_zeros zero (suc k) zero = refl
row_zeros (suc m) (suc k) zero = refl
row_zeros m (suc k) (suc n) = row_zeros m k n

all_zeros : (n : ℕ) → count_by has_ore (replicate n 0) ≡ 0
all_zeros zero = refl
all_zeros (suc n) = all_zeros n

get_zeros : (n k : ℕ) → get_or {A = ℕ} (replicate n 0) k 0 ≡ 0
get_zeros zero k = refl
get_zeros (suc n) zero = refl
get_zeros (suc n) (suc k) = get_zeros n k

-- Cells without ore.
pub none_counted :
    (width height : ℕ) → AreCounted width height (replicate (width * height) 0) (replicate height 0) 0
none_counted width height =
    record {
      whole = length-replicate (width * height) 0;
      each = length-replicate height 0;
      by_row = λ y within. get_zeros height y ∙ sym (row_zeros width (y * width) (width * height));
      in_all = sym (all_zeros (width * height));
    }
