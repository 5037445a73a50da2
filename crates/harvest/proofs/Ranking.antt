-- Least ranks of two sets together, and that there is one least.
use Rattle.std.proofs.Common.{◌≡◌, ℕ, ◌+◌, ◌*◌, ◌/◌, ◌%◌, ◌<◌, ◌≤◌, ◌⊎◌, nat_le, Bool, true, false, Option, Some, None, inl, inr, refl, sym, ap, ap₂, ◌∙◌, arith}
use Rattle.std.proofs.Math.Nat.{mul-le-mul}
use Rattle.std.proofs.lemmas.Bool.Decides.{nat_tests}
use Rattle.std.proofs.lemmas.Nat.{mul-add-lt, div-mul-add, mod-mul-add}
use Rattle.world_units.specs.declared.cell.CPos.{CPos}
use Rattle.world_units.specs.Cells.{dist_sq_of}
use Rattle.game_model.specs.Grid.{Grid, IsOn, place_of}
use Rattle.harvest.specs.Ranks.{closer_of, rank_of, IsRich, IsLeast}

-- the same set
pub least_same : (width : ℕ) (from : CPos) (A B : CPos → Type 0) (o : Option CPos) → ((q : CPos) → A q → B q) → ((q : CPos) → B q → A q) → IsLeast width from A o → IsLeast width from B o
least_same width from A B None to back least = λ q in_b. least q (back q in_b)
least_same width from A B (Some p) to back least = (to p least.0, λ q in_b. least.1 q (back q in_b))

-- two sets
pub join_none : (width : ℕ) (from : CPos) (A B : CPos → Type 0) (o : Option CPos) → IsLeast width from A None → IsLeast width from B o → IsLeast width from (λ q. A q ⊎ B q) o
join_none width from A B o none least = least_same width from B (λ q. A q ⊎ B q) o (λ q in_b. inr in_b) (λ q in_one. other q in_one) least
  where
    other : (q : CPos) → A q ⊎ B q → B q
    other q (inl in_a) = absurd (none q in_a)
    other q (inr in_b) = in_b

pub join_first : (width : ℕ) (from : CPos) (A B : CPos → Type 0) (p : CPos) → IsLeast width from A (Some p) → IsLeast width from B None → IsLeast width from (λ q. A q ⊎ B q) (Some p)
join_first width from A B p least none = least_same width from A (λ q. A q ⊎ B q) (Some p) (λ q in_a. inl in_a) (λ q in_one. other q in_one) least
  where
    other : (q : CPos) → A q ⊎ B q → A q
    other q (inl in_a) = in_a
    other q (inr in_b) = absurd (none q in_b)

pub join_lesser : (width : ℕ) (from : CPos) (A B : CPos → Type 0) (p q : CPos) → IsLeast width from A (Some p) → IsLeast width from B (Some q) → rank_of width from p ≤ rank_of width from q → IsLeast width from (λ q. A q ⊎ B q) (Some p)
join_lesser width from A B p q first second le = (inl first.0, λ r in_one. bound r in_one)
  where
    bound : (r : CPos) → A r ⊎ B r → rank_of width from p ≤ rank_of width from r
    bound r (inl in_a) = first.1 r in_a
    bound r (inr in_b) = (let other = second.1 r in_b in omega (arith, le, other))

pub join_greater : (width : ℕ) (from : CPos) (A B : CPos → Type 0) (p q : CPos) → IsLeast width from A (Some p) → IsLeast width from B (Some q) → rank_of width from q < rank_of width from p → IsLeast width from (λ q. A q ⊎ B q) (Some q)
join_greater width from A B p q first second lt = (inr second.0, λ r in_one. bound r in_one)
  where
    bound : (r : CPos) → A r ⊎ B r → rank_of width from q ≤ rank_of width from r
    bound r (inl in_a) = (let other = first.1 r in_a in omega (arith, lt, other))
    bound r (inr in_b) = second.1 r in_b

-- the closer of the least of two sets is the least of both
pub closer_least : (width : ℕ) (from : CPos) (A B : CPos → Type 0) (first second : Option CPos) → IsLeast width from A first → IsLeast width from B second → IsLeast width from (λ q. A q ⊎ B q) (closer_of width from first second)
closer_least width from A B None second one other = join_none width from A B second one other
closer_least width from A B (Some p) None one other = join_first width from A B p one other
closer_least width from A B (Some p) (Some q) one other = elim (le_tells (rank_of width from p) (rank_of width from q)) [
  | inl hit ↦ rw hit.0 (join_lesser width from A B p q one other hit.1)
  | inr miss ↦ rw miss.0 (join_greater width from A B p q one other miss.1)
]
  where
    le_tells : (a b : ℕ) → ((nat_le a b ≡ true) × (a ≤ b)) ⊎ ((nat_le a b ≡ false) × (b < a))
    le_tells a b = cases (nat_le a b) refl
      where
        cases : (t : Bool) → nat_le a b ≡ t → ((nat_le a b ≡ true) × (a ≤ b)) ⊎ ((nat_le a b ≡ false) × (b < a))
        cases true met = inl (met, grind (arith, nat_tests))
        cases false fails = inr (fails, grind (arith, nat_tests))

-- a map has at most 65,025 cells
pub small_area : (width height : ℕ) → width < 256 → height < 256 → width * height ≤ 65025
small_area width height wide high =
    let w : width ≤ 255 = omega arith in
    let h : height ≤ 255 = omega arith in
    mul-le-mul w h

pub place_below : (width height : ℕ) (p : CPos) → width < 256 → height < 256 → IsOn width height p → place_of width p < 65025
place_below width height p wide high on =
    let place : p.y * width + p.x < width * height = mul-add-lt p.y width p.x height on.row on.column in
    let area : width * height ≤ 65025 = small_area width height wide high in
    omega (arith, place, area)

same_cells : (width : ℕ) (p q : CPos) → p.x < width → q.x < width → place_of width p ≡ place_of width q → p ≡ q
same_cells width p q p_on q_on same =
    let rows : p.y ≡ q.y = sym (div-mul-add p.y width p.x p_on) ∙ ap (λ n. n / width) same ∙ div-mul-add q.y width q.x q_on in
    let columns : p.x ≡ q.x = sym (mod-mul-add p.y width p.x p_on) ∙ ap (λ n. n % width) same ∙ mod-mul-add q.y width q.x q_on in
    let made : ℕ → ℕ → CPos = λ x y. record { x = x; y = y } in
    ap₂ made columns rows

same_place : (far near a b : ℕ) → a < 65536 → b < 65536 → far * 65536 + a ≤ near * 65536 + b → near * 65536 + b ≤ far * 65536 + a → a ≡ b
same_place far near a b low_a low_b up down = omega arith

-- there is one nearest cell with ore
pub one_least : (ore : Grid ℕ) (from : CPos) (o other : Option CPos) → ore.width < 256 → ore.height < 256 → IsLeast ore.width from (IsRich ore) o → IsLeast ore.width from (IsRich ore) other → o ≡ other
one_least ore from None None wide high first second = refl
one_least ore from None (Some q) wide high first second = absurd (first q second.0)
one_least ore from (Some p) None wide high first second = absurd (second p first.0)
one_least ore from (Some p) (Some q) wide high first second =
    let low_p = place_below ore.width ore.height p wide high first.0.on_grid in
    let low_q = place_below ore.width ore.height q wide high second.0.on_grid in
    let same = same_place (dist_sq_of from p) (dist_sq_of from q) (place_of ore.width p) (place_of ore.width q) (omega (arith, low_p)) (omega (arith, low_q)) (first.1 q second.0) (second.1 p first.0) in
    ap (λ (r : CPos). Some r) (same_cells ore.width p q first.0.on_grid.column second.0.on_grid.column same)
