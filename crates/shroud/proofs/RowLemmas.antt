-- The rows and columns of a disc, gone over one by one.
use Rattle.std.proofs.Common.{◌≡◌, ℕ, ◌+◌, ◌-◌, ◌*◌, ◌/◌, ◌%◌, ◌<◌, ◌≤◌, eqb, Bool, true, false, ◌&&◌, ◌||◌, List, length, set, refl, sym, ap, ap₂, ◌∙◌, inl, inr, arith}
use Rattle.std.specs.Prelude.{nat_lt, nat_le}
use Rattle.std.proofs.lemmas.Bool.{cases_eq, cases_lt, cases_order, lt-ltb, le-ltb, le-leb, lt-leb, eq-eqb, eqb-true, ne_eqb, and_left, and_right, true≢false}
use Rattle.std.proofs.lemmas.Nat.{div-mul-add, mod-mul-add, mod_below, div-add-mod'}
use Rattle.shroud.specs.declared.disc.Disc.{Disc}
use Rattle.shroud.specs.declared.disc.Span.{Span}
use Rattle.shroud.specs.declared.spot.Spot.{Spot}
use Rattle.shroud.specs.Discs.{covers, IsDisc, IsSpan}
use Rattle.shroud.specs.Spots.{AreChanged, cell_in, changed, client_at, in_disc, in_row, in_rows, row_of, spot_at}
use Rattle.shroud.proofs.ChangeLemmas.{none_changed, changed_as, one_changed, both_changed}
use Rattle.shroud.proofs.DiscLemmas.{near_across, near_down}
use Rattle.shroud.proofs.PlaceLemmas.{high, row_on, wide}

-- ---- tests

-- A test of a number below another and below the next one.
lt_same : (n k : ℕ) → (n ≡ k → ⊥) → nat_lt n (k + 1) ≡ nat_lt n k
lt_same n k other = elim (cases_order n k) [
  | inl same ↦ absurd (other same)
  | inr apart ↦ elim apart [
    | inl less ↦ lt-ltb n (k + 1) (omega arith) ∙ sym (lt-ltb n k less)
    | inr more ↦ le-ltb n (k + 1) (omega arith) ∙ sym (le-ltb n k (omega arith))
  ]
]

-- No cell before the first one that a disc has.
none_below :
    (start first place : ℕ) (t : Bool) → (t ≡ true → first ≤ place - start) →
    (nat_le start place && (nat_lt place (start + first) && t)) ≡ false
none_below start first place true below = elim (cases_lt place start) [
  | inl less ↦ and_left (nat_le start place) (nat_lt place (start + first) && true) (lt-leb start place less)
  | inr more ↦ and_right (nat_le start place) (nat_lt place (start + first) && true)
      (and_left (nat_lt place (start + first)) true (outside more (below refl)))
]
  where
    outside : start ≤ place → first ≤ place - start → nat_lt place (start + first) ≡ false
    outside from le = le-ltb place (start + first) (omega arith)
none_below start first place false below =
    and_right (nat_le start place) (nat_lt place (start + first) && false)
    (and_right (nat_lt place (start + first)) false refl)

-- All cells of a row that a disc has come before its end.
all_before :
    (start end width place : ℕ) (t : Bool) → end ≤ width →
    (t ≡ true → place - start < width → place - start < end) →
    (nat_le start place && (nat_lt place (start + end) && t))
    ≡ (nat_le start place && (nat_lt place (start + width) && t))
all_before start end width place true most below = elim (cases_lt place start) [
  | inl less ↦ and_left (nat_le start place) (nat_lt place (start + end) && true) (lt-leb start place less)
      ∙ sym (and_left (nat_le start place) (nat_lt place (start + width) && true) (lt-leb start place less))
  | inr more ↦ ap (λ (b : Bool). nat_le start place && (b && true)) (same more)
]
  where
    inside : start ≤ place → place - start < width → place - start < end →
        nat_lt place (start + end) ≡ nat_lt place (start + width)
    inside from less near =
        lt-ltb place (start + end) (omega arith) ∙ sym (lt-ltb place (start + width) (omega arith))

    outside : start ≤ place → width ≤ place - start → end ≤ width →
        nat_lt place (start + end) ≡ nat_lt place (start + width)
    outside from more few =
        le-ltb place (start + end) (omega arith) ∙ sym (le-ltb place (start + width) (omega arith))

    same : start ≤ place → nat_lt place (start + end) ≡ nat_lt place (start + width)
    same from = elim (cases_lt (place - start) width) [
      | inl less ↦ inside from less (below refl less)
      | inr more ↦ outside from more most
    ]
all_before start end width place false most below =
    and_right (nat_le start place) (nat_lt place (start + end) && false)
    (and_right (nat_lt place (start + end)) false refl)
    ∙ sym (and_right (nat_le start place) (nat_lt place (start + width) && false)
    (and_right (nat_lt place (start + width)) false refl))

-- ---- a row, column by column

-- Before the first column.
pub columns_begin :
    (by start y width : ℕ) (disc : Disc) (span : Span) (cells : List Spot) → IsDisc disc →
    IsSpan disc.centre.x disc.reach width span →
    AreChanged by (in_row start span.first y disc) cells cells
columns_begin by start y width disc span cells is spans =
    none_changed by (in_row start span.first y disc) cells
    (λ place within.
    none_below start span.first place (covers disc (place - start) y)
    (λ has. spans.first (place - start) (near_across disc (place - start) y is has)))

here_before : (start x y : ℕ) (disc : Disc) → in_row start x y disc (start + x) ≡ false
here_before start x y disc =
    and_right (nat_le start (start + x)) (nat_lt (start + x) (start + x) && covers disc (start + x - start) y)
    (and_left (nat_lt (start + x) (start + x)) (covers disc (start + x - start) y)
    (le-ltb (start + x) (start + x) (omega arith)))

here_now : (start x y : ℕ) (disc : Disc) → in_row start (x + 1) y disc (start + x) ≡ covers disc x y
here_now start x y disc =
    let low : nat_le start (start + x) ≡ true = le-leb start (start + x) (omega arith) in
    let high : nat_lt (start + x) (start + (x + 1)) ≡ true =
    lt-ltb (start + x) (start + (x + 1)) (omega arith) in
    let at : start + x - start ≡ x = omega arith in
    ap₂ (λ (a b : Bool). a && (b && covers disc (start + x - start) y)) low high
    ∙ ap (λ (n : ℕ). covers disc n y) at

there_same :
    (start x y : ℕ) (disc : Disc) (place : ℕ) → (place ≡ start + x → ⊥) →
    in_row start (x + 1) y disc place ≡ in_row start x y disc place
there_same start x y disc place other =
    let next : start + (x + 1) ≡ start + x + 1 = omega arith in
    ap (λ (b : Bool). nat_le start place && (b && covers disc (place - start) y))
    (ap (λ (n : ℕ). nat_lt place n) next ∙ lt_same place (start + x) other)

-- One column more.
pub columns_more :
    (by start x y : ℕ) (disc : Disc) (old mid new : List Spot) →
    AreChanged by (in_row start x y disc) old mid → start + x < length mid →
    new ≡ set mid (start + x) (changed (covers disc x y) by (spot_at mid (start + x))) →
    AreChanged by (in_row start (x + 1) y disc) old new
columns_more by start x y disc old mid new is within new_is =
    one_changed by (start + x) (covers disc x y) (in_row start x y disc)
    (in_row start (x + 1) y disc) old mid new is within (here_before start x y disc)
    (here_now start x y disc) (there_same start x y disc) new_is

-- After the last column.
pub columns_end :
    (by start y width : ℕ) (disc : Disc) (span : Span) (old new : List Spot) → IsDisc disc →
    IsSpan disc.centre.x disc.reach width span →
    AreChanged by (in_row start span.end y disc) old new →
    AreChanged by (in_row start width y disc) old new
columns_end by start y width disc span old new is spans done =
    changed_as by (in_row start span.end y disc) (in_row start width y disc) old new done
    (λ place within.
    all_before start span.end width place (covers disc (place - start) y) spans.within
    (λ has inside. spans.last (place - start) inside (near_across disc (place - start) y is has)))

-- ---- a row of a client, by the row and the column of a place

row_found :
    (width row place : ℕ) → row * width ≤ place → place < row * width + width → place / width ≡ row
row_found width row place low high =
    let rest : place - row * width < width = omega arith in
    let whole : place ≡ row * width + (place - row * width) = omega arith in
    ap (λ (n : ℕ). n / width) whole ∙ div-mul-add row width (place - row * width) rest

not_in_row :
    (width row place : ℕ) (t : Bool) → (place / width ≡ row → ⊥) →
    (nat_le (row * width) place && (nat_lt place (row * width + width) && t)) ≡ false
not_in_row width row place t other = elim (cases_lt place (row * width)) [
  | inl less ↦ and_left (nat_le (row * width) place) (nat_lt place (row * width + width) && t) (lt-leb (row * width) place less)
  | inr more ↦ elim (cases_lt place (row * width + width)) [
    | inl inside ↦ absurd (other (row_found width row place more inside))
    | inr outside ↦ and_right (nat_le (row * width) place) (nat_lt place (row * width + width) && t)
        (and_left (nat_lt place (row * width + width)) t (le-ltb place (row * width + width) outside))
  ]
]

is_in_row :
    (width row place y : ℕ) (disc : Disc) → 0 < width → place / width ≡ row →
    in_row (row * width) width y disc place ≡ covers disc (place % width) y
is_in_row width row place y disc some same =
    let rest : place % width < width = mod_below place width some in
    let whole : row * width + place % width ≡ place =
    ap (λ (n : ℕ). n * width + place % width) (sym same) ∙ div-add-mod' place width in
    let low : nat_le (row * width) place ≡ true = le-leb (row * width) place (omega arith) in
    let high : nat_lt place (row * width + width) ≡ true =
    lt-ltb place (row * width + width) (omega arith) in
    let at : place - row * width ≡ place % width = omega arith in
    ap₂ (λ (a b : Bool). a && (b && covers disc (place - row * width) y)) low high
    ∙ ap (λ (n : ℕ). covers disc n y) at

-- A row of a disc is that of a place.
row_as :
    (width row place y : ℕ) (disc : Disc) → 0 < width →
    in_row (row * width) width y disc place
    ≡ (eqb (place / width) row && covers disc (place % width) y)
row_as width row place y disc some = elim (cases_eq (place / width) row) [
  | inl same ↦ is_in_row width row place y disc some same
      ∙ sym (ap (λ (b : Bool). b && covers disc (place % width) y) (eq-eqb (place / width) row same))
  | inr other ↦ not_in_row width row place (covers disc (place - row * width) y) other
      ∙ sym (and_left (eqb (place / width) row) (covers disc (place % width) y) (ne_eqb (place / width) row other))
]

-- ---- the rows of a client

or_false : (b : Bool) → b || false ≡ b
or_false true = refl
or_false false = refl

-- The row that is gone over now is the next of the client's rows.
in_next :
    (own before upto this has here : Bool) → own ≡ true → upto ≡ true → before ≡ false →
    this ≡ true → has ≡ here →
    (own && (upto && has)) ≡ (own && (before && has)) || (this && here)
in_next own before upto this has here a b c d e = rw (a, b, c, d) e

in_other :
    (own before upto this has here : Bool) → this ≡ false → (own ≡ true → upto ≡ before) →
    (own && (upto && has)) ≡ (own && (before && has)) || (this && here)
in_other true before upto this has here e same =
    ap (λ (b : Bool). b && has) (same refl) ∙ sym (or_false (before && has))
    ∙ ap (λ (b : Bool). (before && has) || (b && here)) (sym e)
in_other false before upto this has here e same = ap (λ (b : Bool). b && here) (sym e)

row_again : (height client q : ℕ) → client ≡ q / height → client * height + q % height ≡ q
row_again height client q same =
    ap (λ (n : ℕ). n * height + q % height) same ∙ div-add-mod' q height

-- With the rows of the disc at a column as a test.
rows_split :
    (height client y q : ℕ) (has : ℕ → Bool) → y < height →
    (eqb client (q / height) && (nat_lt (q % height) (y + 1) && has (q % height)))
    ≡ (eqb client (q / height) && (nat_lt (q % height) y && has (q % height)))
    || (eqb q (client * height + y) && has y)
rows_split height client y q has row = elim (cases_eq q (client * height + y)) [
  | inl same ↦ this same
  | inr other ↦ in_other (eqb client (q / height)) (nat_lt (q % height) y)
      (nat_lt (q % height) (y + 1)) (eqb q (client * height + y)) (has (q % height)) (has y)
      (ne_eqb q (client * height + y) other)
      (λ own. lt_same (q % height) y (λ at. other (sym (row_again height client q (eqb-true client (q / height) own)) ∙ ap (λ (n : ℕ). client * height + n) at)))
]
  where
    this : q ≡ client * height + y →
        (eqb client (q / height) && (nat_lt (q % height) (y + 1) && has (q % height)))
        ≡ (eqb client (q / height) && (nat_lt (q % height) y && has (q % height)))
        || (eqb q (client * height + y) && has y)
    this same =
        let own : q / height ≡ client =
        ap (λ (n : ℕ). n / height) same ∙ div-mul-add client height y row in
        let at : q % height ≡ y =
        ap (λ (n : ℕ). n % height) same ∙ mod-mul-add client height y row in
        in_next (eqb client (q / height)) (nat_lt (q % height) y) (nat_lt (q % height) (y + 1))
        (eqb q (client * height + y)) (has (q % height)) (has y)
        (eq-eqb client (q / height) (sym own)) (lt-ltb (q % height) (y + 1) (omega arith))
        (le-ltb (q % height) y (omega arith)) (eq-eqb q (client * height + y) same)
        (ap has at)

rows_apart :
    (height client y q : ℕ) (has : ℕ → Bool) → y < height →
    (eqb client (q / height) && (nat_lt (q % height) y && has (q % height))) ≡ true →
    (eqb q (client * height + y) && has y) ≡ false
rows_apart height client y q has row before = elim (cases_eq q (client * height + y)) [
  | inl same ↦ absurd (true≢false (sym before ∙ this same))
  | inr other ↦ and_left (eqb q (client * height + y)) (has y) (ne_eqb q (client * height + y) other)
]
  where
    this : q ≡ client * height + y →
        (eqb client (q / height) && (nat_lt (q % height) y && has (q % height))) ≡ false
    this same =
        let at : q % height ≡ y =
        ap (λ (n : ℕ). n % height) same ∙ mod-mul-add client height y row in
        and_right (eqb client (q / height)) (nat_lt (q % height) y && has (q % height))
        (and_left (nat_lt (q % height) y) (has (q % height)) (le-ltb (q % height) y (omega arith)))

none_before : (own before has : Bool) → (has ≡ true → before ≡ false) → (own && (before && has)) ≡ false
none_before own before true below =
    and_right own (before && true) (and_left before true (below refl))
none_before own before false below = and_right own (before && false) (and_right before false refl)

all_there : (own upto has : Bool) → (has ≡ true → upto ≡ true) → (own && (upto && has)) ≡ (own && has)
all_there own upto true below = ap (λ (b : Bool). own && (b && true)) (below refl)
all_there own upto false below = ap (λ (b : Bool). own && b) (and_right upto false refl)

-- Before the first row.
pub rows_begin :
    (by width height client : ℕ) (disc : Disc) (span : Span) (cells : List Spot) → IsDisc disc →
    IsSpan disc.centre.y disc.reach height span →
    AreChanged by (in_rows width height client span.first disc) cells cells
rows_begin by width height client disc span cells is spans =
    none_changed by (in_rows width height client span.first disc) cells
    (λ place within.
    let p = cell_in width height place in
    none_before (eqb client (client_at width height place)) (nat_lt p.y span.first)
    (covers disc p.x p.y)
    (λ has. le-ltb p.y span.first (spans.first p.y (near_down disc p.x p.y is has))))

-- One row more.
pub rows_more :
    (by width height clients client y : ℕ) (disc : Disc) (old mid new : List Spot) →
    length old ≡ (clients * height) * width → y < height →
    AreChanged by (in_rows width height client y disc) old mid →
    AreChanged by (in_row (row_of height client y * width) width y disc) mid new →
    AreChanged by (in_rows width height client (y + 1) disc) old new
rows_more by width height clients client y disc old mid new whole row first second =
    both_changed by (in_rows width height client y disc)
    (in_row (row_of height client y * width) width y disc)
    (in_rows width height client (y + 1) disc) old mid new first second
    (λ place within before.
    row_as width (row_of height client y) place y disc
    (wide width height clients place (length old) whole within)
    ∙ rows_apart height client y (place / width) (λ (n : ℕ). covers disc (place % width) n) row before)
    (λ place within.
    rows_split height client y (place / width) (λ (n : ℕ). covers disc (place % width) n) row
    ∙ ap (λ (b : Bool). in_rows width height client y disc place || b)
    (sym (row_as width (row_of height client y) place y disc
    (wide width height clients place (length old) whole within))))

-- After the last row.
pub rows_end :
    (by width height clients client : ℕ) (disc : Disc) (span : Span) (old new : List Spot) →
    length old ≡ (clients * height) * width → IsDisc disc →
    IsSpan disc.centre.y disc.reach height span →
    AreChanged by (in_rows width height client span.end disc) old new →
    AreChanged by (in_disc width height client disc) old new
rows_end by width height clients client disc span old new whole is spans done =
    changed_as by (in_rows width height client span.end disc) (in_disc width height client disc)
    old new done
    (λ place within.
    let p = cell_in width height place in
    all_there (eqb client (client_at width height place)) (nat_lt p.y span.end)
    (covers disc p.x p.y)
    (λ has.
    lt-ltb p.y span.end
    (spans.last p.y (row_on width height clients place (length old) whole within)
    (near_down disc p.x p.y is has))))
