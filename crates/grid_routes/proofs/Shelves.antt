-- Buckets after a cell is put in or a bucket is emptied.
use Rattle.std.proofs.Common.{◌≡◌, ◌≢◌, ℕ, zero, suc, ◌+◌, ◌*◌, ◌<◌, ◌≤◌, ◌⊎◌, ◌++◌, inl, inr, true, false, List, [], length, replicate, set, get_or, refl, ap, sym, ◌∙◌, arith, get_or-set_other, get_or-set_same, length-set, nat_lt, Bool}
use Rattle.std.specs.Int.{from_bool}
use Rattle.std.proofs.lemmas.Nat.{same_from_place}
use Rattle.std.proofs.lemmas.Bool.{cases_eq, cases_lt, cond_both, ltb-true, ltb-false}
use Rattle.std.proofs.lemmas.List.{get_or_append_left, get_or_default, get_or_past, length-append, length-replicate}
use Rattle.std.proofs.lemmas.Grind.{get_or-set_at}
use Rattle.world_units.specs.declared.cell.CPos.{CPos}
use Rattle.grid_routes.specs.Held.{Shelves, len_of, HasRows, IsAt, IsHeld, IsWhole, corner, widened, more, pushed, tried, emptied}

-- Buckets that hold nothing.
zeros : (n b : ℕ) → ◌≡◌ {A = ℕ} (get_or (replicate n 0) b 0) 0
zeros zero zero = refl
zeros zero (suc b) = refl
zeros (suc n) zero = refl
zeros (suc n) (suc b) = zeros n b

pub none-held : (room : ℕ) → IsWhole (record { room = room; cells = []; lens = replicate 71 0; lost = false })
none-held room = record {
  rows = 0;
  cells = refl;
  lens = length-replicate {A = ℕ} 71 0;
  fits = λ b. let none = zeros 71 b in omega (arith, none);
  low = omega arith;
}

-- A bucket that holds a cell is one of the 71.
low_bucket : (s : Shelves) (b i : ℕ) → IsWhole s → i < get_or s.lens b 0 → b < 71
low_bucket s b i whole held = elim (cases_lt b 71) [
  | inl low ↦ low
  | inr past ↦ let none : get_or s.lens b 0 ≡ 0 = get_or_past s.lens b 0 (omega (arith, whole.lens)) in absurd (omega arith)
]

-- The rows up to a place, and what stands in them.
widened-kept :
    (cells : List CPos) (place n : ℕ) (c : CPos) → n < length cells → get_or (widened cells place) n c ≡ get_or cells n c
widened-kept cells place n c within =
    cond_both (nat_lt place (length cells)) cells (cells ++ replicate 71 corner) (λ xs. get_or xs n c ≡ get_or cells n c)
    (λ (test : nat_lt place (length cells) ≡ true). refl)
    (λ (test : nat_lt place (length cells) ≡ false). get_or_append_left cells (replicate 71 corner) c n within)

row-more : (cells : List CPos) → length (cells ++ replicate 71 corner) ≡ length cells + 71
row-more cells = length-append cells (replicate 71 corner) ∙ ap (λ n. length cells + n) (length-replicate 71 corner)

widened-there :
    (cells : List CPos) (place : ℕ) → place < length cells + 71 → place < length (widened cells place)
widened-there cells place near =
    cond_both (nat_lt place (length cells)) cells (cells ++ replicate 71 corner) (λ xs. place < length xs)
    (λ (test : nat_lt place (length cells) ≡ true). ltb-true place (length cells) test)
    (λ (test : nat_lt place (length cells) ≡ false). omega (arith, row-more cells))

module _ (s : Shelves) (b : ℕ) (p : CPos) (whole : IsWhole s) (low : b < 71) (room : get_or s.lens b 0 < s.room) where
  len-more : (j : ℕ) → (get_or (set s.lens b (get_or s.lens b 0 + 1)) j 0 ≡ get_or s.lens j 0 + 1) ⊎ (get_or (set s.lens b (get_or s.lens b 0 + 1)) j 0 ≡ get_or s.lens j 0)
  len-more j =
      let within : b < length s.lens = omega (arith, whole.lens) in
      elim (cases_eq j b) [
        | inl same ↦ inl (get_or-set_at s.lens b j (get_or s.lens b 0 + 1) 0 same within ∙ ap (λ i. get_or s.lens i 0 + 1) (sym same))
        | inr other ↦ inr (get_or-set_other s.lens b j (get_or s.lens b 0 + 1) 0 other)
      ]

  pub more-kept : (j i : ℕ) (c : CPos) → IsAt s j i c → IsAt (more s b p) j i c
  more-kept j i c at =
      let at_old : i < get_or s.lens j 0 = at.within in
      let full : get_or s.lens j 0 ≤ whole.rows = whole.fits j in
      let bucket : j < 71 = low_bucket s j i whole at_old in
      let size : length s.cells ≡ 71 * whole.rows = whole.cells in
      let place : i * 71 + j < length s.cells = omega arith in
      record {
        within = elim (len-more j) [ inl grown ↦ omega arith | inr stays ↦ omega arith ];
        cell =
            get_or-set_other (widened s.cells (get_or s.lens b 0 * 71 + b)) (get_or s.lens b 0 * 71 + b) (i * 71 + j) p c
            (λ (same : i * 71 + j ≡ get_or s.lens b 0 * 71 + b).
            let parts = same_from_place i j (get_or s.lens b 0) b 71 bucket low same in
            let there : get_or s.lens j 0 ≡ get_or s.lens b 0 = ap (λ k. get_or s.lens k 0) parts.1 in
            let here : i ≡ get_or s.lens b 0 = parts.0 in
            absurd (omega arith))
            ∙ widened-kept s.cells (get_or s.lens b 0 * 71 + b) (i * 71 + j) c place ∙ at.cell;
      }

  pub more-held : IsHeld (more s b p) b p
  more-held =
      let within : b < length s.lens = omega (arith, whole.lens) in
      let full : get_or s.lens b 0 ≤ whole.rows = whole.fits b in
      let size : length s.cells ≡ 71 * whole.rows = whole.cells in
      let place : get_or s.lens b 0 * 71 + b < length (widened s.cells (get_or s.lens b 0 * 71 + b)) =
      widened-there s.cells (get_or s.lens b 0 * 71 + b) (omega arith) in
      record {
        place = get_or s.lens b 0;
        at = record {
          within = omega (arith, get_or-set_same s.lens b (get_or s.lens b 0 + 1) 0 within);
          cell = get_or-set_same (widened s.cells (get_or s.lens b 0 * 71 + b)) (get_or s.lens b 0 * 71 + b) p p place;
        };
      }

  pub more-others : (j : ℕ) → j ≢ b → get_or (set s.lens b (get_or s.lens b 0 + 1)) j 0 ≡ get_or s.lens j 0
  more-others j other = get_or-set_other s.lens b j (get_or s.lens b 0 + 1) 0 other

  pub more-grows : (j : ℕ) → get_or (set s.lens b (get_or s.lens b 0 + 1)) j 0 ≤ get_or s.lens j 0 + 1
  more-grows j = elim (len-more j) [ inl grown ↦ omega arith | inr stays ↦ omega arith ]

  -- Where the place is there, the rows stay; else there is one more.
  more-fits-in : get_or s.lens b 0 < whole.rows → (j : ℕ) → get_or (set s.lens b (get_or s.lens b 0 + 1)) j 0 ≤ whole.rows
  more-fits-in below j =
      let full : get_or s.lens j 0 ≤ whole.rows = whole.fits j in
      elim (cases_eq j b) [
        | inl same ↦
            let grown = more-grows j in
            let there : get_or s.lens j 0 ≡ get_or s.lens b 0 = ap (λ k. get_or s.lens k 0) same in
            omega arith
        | inr other ↦ let stays = more-others j other in omega arith
      ]

  pub more-whole : IsWhole (more s b p)
  more-whole =
      let place = get_or s.lens b 0 * 71 + b in
      let count = length-set s.lens b (get_or s.lens b 0 + 1) in
      cond_both (nat_lt place (length s.cells)) s.cells (s.cells ++ replicate 71 corner)
      (λ xs. IsWhole (record s { cells = set xs place p; lens = set s.lens b (get_or s.lens b 0 + 1) }))
      (λ (test : nat_lt place (length s.cells) ≡ true).
      let there : place < length s.cells = ltb-true place (length s.cells) test in
      let size : length s.cells ≡ 71 * whole.rows = whole.cells in
      record {
        rows = whole.rows;
        cells = length-set s.cells place p ∙ whole.cells;
        lens = count ∙ whole.lens;
        fits = more-fits-in (omega arith);
        low = whole.low;
      })
      (λ (test : nat_lt place (length s.cells) ≡ false).
      let past : length s.cells ≤ place = ltb-false place (length s.cells) test in
      let size : length s.cells ≡ 71 * whole.rows = whole.cells in
      let full : get_or s.lens b 0 ≤ whole.rows = whole.fits b in
      record {
        rows = whole.rows + 1;
        cells = length-set (s.cells ++ replicate 71 corner) place p ∙ row-more s.cells ∙ omega arith;
        lens = count ∙ whole.lens;
        fits = λ j. let grown = more-grows j in let old : get_or s.lens j 0 ≤ whole.rows = whole.fits j in omega arith;
        low = omega arith;
      })

-- A place of a bucket holds one cell.
pub only-one : (s : Shelves) (b i : ℕ) (p q : CPos) → IsWhole s → b < 71 → IsAt s b i p → IsAt s b i q → p ≡ q
only-one s b i p q whole low first second =
    let at : i < get_or s.lens b 0 = first.within in
    let full : get_or s.lens b 0 ≤ whole.rows = whole.fits b in
    let size : length s.cells ≡ 71 * whole.rows = whole.cells in
    let place : i * 71 + b < length s.cells = omega arith in
    sym first.cell ∙ get_or_default s.cells (i * 71 + b) p q place ∙ second.cell

-- A cell that is held stands within the rows.
pub place-within : (s : Shelves) (b i : ℕ) → IsWhole s → b < 71 → i < len_of s b → i * 71 + b < length s.cells
place-within s b i whole low held =
    let full : len_of s b ≤ whole.rows = whole.fits b in
    let size : length s.cells ≡ 71 * whole.rows = whole.cells in
    omega arith

-- Where a place is past the rows, there is room for one more.
pub row-fits :
    (s : Shelves) (b capacity : ℕ) → IsWhole s → b < 71 → 71 * s.room ≤ capacity → len_of s b < s.room →
    length s.cells ≤ len_of s b * 71 + b → length s.cells + 71 ≤ capacity
row-fits s b capacity whole low enough room past =
    let full : len_of s b ≤ whole.rows = whole.fits b in
    let size : length s.cells ≡ 71 * whole.rows = whole.cells in
    omega arith

-- The other buckets stay where one is emptied.
pub emptied-kept : (s : Shelves) (b : ℕ) (j i : ℕ) (c : CPos) → j ≢ b → IsAt s j i c → IsAt (emptied s b) j i c
emptied-kept s b j i c other at =
    let at_old : i < get_or s.lens j 0 = at.within in
    record { within = omega (arith, get_or-set_other s.lens b j 0 0 other); cell = at.cell }

module _ (s : Shelves) (b : ℕ) (p : CPos) (whole : IsWhole s) (low : b < 71) where
  pub pushed-whole : IsWhole (pushed s b p)
  pushed-whole =
      cond_both (nat_lt (len_of s b) s.room) (more s b p) (record s { lost = true }) IsWhole
      (λ (test : nat_lt (len_of s b) s.room ≡ true). more-whole s b p whole low (ltb-true (len_of s b) s.room test))
      (λ (test : nat_lt (len_of s b) s.room ≡ false).
      record { rows = whole.rows; cells = whole.cells; lens = whole.lens; fits = whole.fits; low = whole.low })

  either : (P : Shelves → Type 0) → (len_of s b < s.room → P (more s b p)) → P (record s { lost = true }) → P (pushed s b p)
  either P room full =
      cond_both (nat_lt (len_of s b) s.room) (more s b p) (record s { lost = true }) P
      (λ (test : nat_lt (len_of s b) s.room ≡ true). room (ltb-true (len_of s b) s.room test))
      (λ (test : nat_lt (len_of s b) s.room ≡ false). full)

  pub pushed-kept : (j i : ℕ) (c : CPos) → IsAt s j i c → IsAt (pushed s b p) j i c
  pushed-kept j i c at =
      either (λ n. IsAt n j i c) (λ room. more-kept s b p whole low room j i c at)
      (record { within = at.within; cell = at.cell })

  pub pushed-held : ((pushed s b p).lost ≡ true) ⊎ IsHeld (pushed s b p) b p
  pushed-held =
      either (λ n. (n.lost ≡ true) ⊎ IsHeld n b p) (λ room. inr (more-held s b p whole low room)) (inl refl)

  pub pushed-others : (j : ℕ) → j ≢ b → len_of (pushed s b p) j ≡ len_of s j
  pushed-others j other =
      either (λ n. len_of n j ≡ len_of s j) (λ room. more-others s b p whole low room j other) refl

  pub pushed-lost : s.lost ≡ true → (pushed s b p).lost ≡ true
  pushed-lost lost = either (λ n. n.lost ≡ true) (λ room. lost) refl

  pub pushed-room : (pushed s b p).room ≡ s.room
  pushed-room = either (λ n. n.room ≡ s.room) (λ room. refl) refl

  pub pushed-grows : (j : ℕ) → len_of (pushed s b p) j ≤ len_of s j + 1
  pushed-grows j = either (λ n. len_of n j ≤ len_of s j + 1) (λ room. more-grows s b p whole low room j) (omega arith)

  pub pushed-fits : len_of s b < s.room → s.lost ≡ false → ((pushed s b p).lost ≡ false) × IsHeld (pushed s b p) b p
  pushed-fits room kept =
      cond_both (nat_lt (len_of s b) s.room) (more s b p) (record s { lost = true }) (λ n. (n.lost ≡ false) × IsHeld n b p)
      (λ (test : nat_lt (len_of s b) s.room ≡ true). (kept, more-held s b p whole low room))
      (λ (test : nat_lt (len_of s b) s.room ≡ false). let full = ltb-false (len_of s b) s.room test in absurd (omega arith))

-- A cell went into its bucket, or is missing, and the rest stays.
pub record Puts (s t : Shelves) (b : ℕ) (p : CPos) : Type 0 where
  pub kept : (j i : ℕ) (c : CPos) → IsAt s j i c → IsAt t j i c
  pub held : (t.lost ≡ true) ⊎ IsHeld t b p
  pub others : (j : ℕ) → j ≢ b → len_of t j ≡ len_of s j
  pub lost : s.lost ≡ true → t.lost ≡ true
  pub room : t.room ≡ s.room

pub pushed-puts : (s : Shelves) (b : ℕ) (p : CPos) → IsWhole s → b < 71 → Puts s (pushed s b p) b p
pushed-puts s b p whole low = record {
  kept = pushed-kept s b p whole low;
  held = pushed-held s b p whole low;
  others = pushed-others s b p whole low;
  lost = pushed-lost s b p whole low;
  room = pushed-room s b p whole low;
}

-- A cell that is written after the last one of a bucket.
from_bool-low : (held : Bool) → from_bool held ≤ 1
from_bool-low true = omega arith
from_bool-low false = omega arith

module _ (s : Shelves) (b : ℕ) (p : CPos) (held : Bool) (whole : IsWhole s) (low : b < 71) (rows : HasRows s b 1) where
  tried-len : (j : ℕ) → ((j ≡ b) × (len_of (tried s b p held) j ≡ len_of s j + from_bool held)) ⊎ ((j ≢ b) × (len_of (tried s b p held) j ≡ len_of s j))
  tried-len j =
      let within : b < length s.lens = omega (arith, whole.lens) in
      elim (cases_eq j b) [
        | inl same ↦
            inl (
              same,
              get_or-set_at s.lens b j (get_or s.lens b 0 + from_bool held) 0 same within
                  ∙ ap (λ i. get_or s.lens i 0 + from_bool held) (sym same),
            )
        | inr other ↦ inr (other, get_or-set_other s.lens b j (get_or s.lens b 0 + from_bool held) 0 other)
      ]

  pub tried-grows : (j : ℕ) → len_of (tried s b p held) j ≤ len_of s j + 1
  tried-grows j =
      let one = from_bool-low held in
      elim (tried-len j) [ inl grown ↦ omega (arith, grown.1, one) | inr stays ↦ omega (arith, stays.1) ]

  tried-least : (j : ℕ) → len_of s j ≤ len_of (tried s b p held) j
  tried-least j = elim (tried-len j) [ inl grown ↦ omega (arith, grown.1) | inr stays ↦ omega (arith, stays.1) ]

  pub tried-cells : length (tried s b p held).cells ≡ length s.cells
  tried-cells = length-set s.cells (len_of s b * 71 + b) p

  pub tried-whole : IsWhole (tried s b p held)
  tried-whole =
      let one = from_bool-low held in
      let size : length s.cells ≡ 71 * whole.rows = whole.cells in
      record {
        rows = whole.rows;
        cells = tried-cells ∙ whole.cells;
        lens = length-set s.lens b (get_or s.lens b 0 + from_bool held) ∙ whole.lens;
        fits = λ j. let full : len_of s j ≤ whole.rows = whole.fits j in
            elim (tried-len j) [
              | inl grown ↦
                  let there : len_of s j ≡ len_of s b = ap (λ k. get_or s.lens k 0) grown.0 in
                  omega (arith, grown.1, one, rows.fit)
              | inr stays ↦ omega (arith, stays.1)
            ];
        low = whole.low;
      }

  pub tried-kept : (j i : ℕ) (c : CPos) → IsAt s j i c → IsAt (tried s b p held) j i c
  tried-kept j i c at =
      let at_old : i < get_or s.lens j 0 = at.within in
      let bucket : j < 71 = low_bucket s j i whole at_old in
      let least = tried-least j in
      record {
        within = omega (arith, least);
        cell =
            get_or-set_other s.cells (get_or s.lens b 0 * 71 + b) (i * 71 + j) p c
            (λ (same : i * 71 + j ≡ get_or s.lens b 0 * 71 + b).
            let parts = same_from_place i j (get_or s.lens b 0) b 71 bucket low same in
            let there : get_or s.lens j 0 ≡ get_or s.lens b 0 = ap (λ k. get_or s.lens k 0) parts.1 in
            let here : i ≡ get_or s.lens b 0 = parts.0 in
            absurd (omega arith))
            ∙ at.cell;
      }

  pub tried-others : (j : ℕ) → j ≢ b → len_of (tried s b p held) j ≡ len_of s j
  tried-others j other = elim (tried-len j) [ inl grown ↦ absurd (other grown.0) | inr stays ↦ stays.1 ]

-- The bucket holds the cell, if so told.
pub tried-puts : (s : Shelves) (b : ℕ) (p : CPos) → IsWhole s → b < 71 → HasRows s b 1 → Puts s (tried s b p true) b p
tried-puts s b p whole low rows =
    let within : b < length s.lens = omega (arith, whole.lens) in
    let place : get_or s.lens b 0 * 71 + b < length s.cells = omega (arith, rows.fit) in
    record {
      kept = tried-kept s b p true whole low rows;
      held = inr (record {
        place = get_or s.lens b 0;
        at = record {
          within = omega (arith, get_or-set_same s.lens b (get_or s.lens b 0 + 1) 0 within);
          cell = get_or-set_same s.cells (get_or s.lens b 0 * 71 + b) p p place;
        };
      });
      others = tried-others s b p true whole low rows;
      lost = λ lost. lost;
      room = refl;
    }

-- Else no length changes.
pub tried-stays : (s : Shelves) (b : ℕ) (p : CPos) → IsWhole s → b < 71 → HasRows s b 1 → (j : ℕ) → len_of (tried s b p false) j ≡ len_of s j
tried-stays s b p whole low rows j =
    elim (tried-len s b p false whole low rows j) [ inl grown ↦ omega (arith, grown.1) | inr stays ↦ stays.1 ]
