-- Discs of ranges, and their cells.
use Rattle.std.proofs.Common.{◌≡◌, ℕ, ◌+◌, ◌*◌, ◌/◌, ◌<◌, ◌≤◌, true, sym, ap₂, ◌∙◌, arith, inl, inr}
use Rattle.std.specs.Prelude.{nat_le, Some}
use Rattle.std.proofs.Math.Nat.{mul-mul-mul_comm}
use Rattle.std.proofs.lemmas.Nat.{mul-lt}
use Rattle.std.proofs.lemmas.Bool.{cases_lt, le-leb, lt-leb, leb-true}
use Rattle.world_units.specs.declared.cell.CPos.{CPos}
use Rattle.world_units.specs.Cells.{apart, square}
use Rattle.rule_traits.specs.declared.trait_fields.Reveals.{Reveals}
use Rattle.shroud.specs.declared.disc.Disc.{Disc}
use Rattle.shroud.specs.Discs.{covers, disc_of, IsDisc}
use Rattle.shroud.specs.Sights.{reaches}

-- A square in units is that many square cells.
in_cells : (n : ℕ) → square (1024 * n) ≡ 1048576 * square n
in_cells n = mul-mul-mul_comm 1024 n 1024 n

-- A number whose square is at most that of a range, in cells, is at most the range in cells.
farther : (n range : ℕ) → range / 1024 < n → range * range < 1048576 * (n * n)
farther n range less =
    let above : range < 1024 * n = omega arith in
    let squares : range * range < (1024 * n) * (1024 * n) =
    mul-lt range range (1024 * n) (1024 * n) above above in
    let same : (1024 * n) * (1024 * n) ≡ 1048576 * (n * n) = in_cells n in
    omega (arith, squares, same)

-- With the squares as numbers.
no_farther : (square_of_n square_of_range : ℕ) → square_of_range < 1048576 * square_of_n →
    square_of_n ≤ square_of_range / 1048576 → ⊥
no_farther a b more most = omega arith

near : (n range : ℕ) → n * n ≤ (range * range) / 1048576 → n ≤ range / 1024
near n range most = elim (cases_lt (range / 1024) n) [
  | inl less ↦ absurd (no_farther (n * n) (range * range) (farther n range less) most)
  | inr more ↦ more
]

pub disc_is : (centre : CPos) (range : ℕ) → IsDisc (disc_of centre range)
disc_is centre range = record { reach = λ n most. near n range most }

-- Two tests that hold of the same are the same.
same_tests :
    (a b c d : ℕ) → (a ≤ b → c ≤ d) → (b < a → d < c) → nat_le a b ≡ nat_le c d
same_tests a b c d holds fails = elim (cases_lt b a) [
  | inl more ↦ lt-leb a b more ∙ sym (lt-leb c d (fails more))
  | inr most ↦ le-leb a b most ∙ sym (le-leb c d (holds most))
]

-- The test in units is that in cells.
in_units :
    (a b sq : ℕ) → nat_le (1048576 * a + 1048576 * b) sq ≡ nat_le (a + b) (sq / 1048576)
in_units a b sq =
    same_tests (1048576 * a + 1048576 * b) sq (a + b) (sq / 1048576)
    (λ most. omega (arith, most)) (λ more. omega (arith, more))

-- A cell is within range exactly where the disc of the range has it.
pub reaches_as :
    (r : Reveals) (cell p : CPos) → reaches (Some r) cell p ≡ covers (disc_of cell r.range) p.x p.y
reaches_as r cell p =
    ap₂ (λ (a b : ℕ). nat_le (a + b) (square r.range)) (in_cells (apart cell.x p.x))
    (in_cells (apart cell.y p.y))
    ∙ in_units (square (apart cell.x p.x)) (square (apart cell.y p.y)) (square r.range)

first_part : (a b c : ℕ) → a + b ≤ c → a ≤ c
first_part a b c le = omega arith

second_part : (a b c : ℕ) → a + b ≤ c → b ≤ c
second_part a b c le = omega arith

-- A cell of the disc is near in its column and in its row.
pub near_across :
    (disc : Disc) (x y : ℕ) → IsDisc disc → covers disc x y ≡ true →
    apart disc.centre.x x ≤ disc.reach
near_across disc x y is has =
    is.reach (apart disc.centre.x x)
    (first_part (square (apart disc.centre.x x)) (square (apart disc.centre.y y)) disc.most
    (leb-true (square (apart disc.centre.x x) + square (apart disc.centre.y y)) disc.most has))

pub near_down :
    (disc : Disc) (x y : ℕ) → IsDisc disc → covers disc x y ≡ true →
    apart disc.centre.y y ≤ disc.reach
near_down disc x y is has =
    is.reach (apart disc.centre.y y)
    (second_part (square (apart disc.centre.x x)) (square (apart disc.centre.y y)) disc.most
    (leb-true (square (apart disc.centre.x x) + square (apart disc.centre.y y)) disc.most has))
