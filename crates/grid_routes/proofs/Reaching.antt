-- A search that goes as far as a walk goes as far as what is left of it.
use Rattle.std.proofs.Common.{◌≡◌, ℕ, ◌+◌, ◌*◌, ◌%◌, ◌<◌, ◌≤◌, eqb, Bool, true, false, cond, Option, Some, None, refl, arith}
use Rattle.std.proofs.lemmas.Bool.Decides.{nat_tests}
use Rattle.world_units.specs.declared.cell.CPos.{CPos}
use Rattle.world_units.specs.Directions.{east_of, west_of, north_of, south_of, shifted, step_of}
use Rattle.game_model.specs.Walks.{IsStep, step_cost_of}
use Rattle.grid_routes.specs.declared.reach.Reach.{Reach}
use Rattle.grid_routes.specs.Reach.{IsReached, apart, least_cost_across, least_cost_between}
use Rattle.grid_routes.proofs.Directions.{both, moved}

-- A step costs at least 5, and 7 across a corner.
dear-either : (b c : Bool) (t k : ℕ) → cond b (5 * t) (cond c (7 * t) 0) ≡ k → 0 < k → (5 ≤ k) × (b ≡ false → 7 ≤ k)
dear-either true c t k is some = (omega (arith, is, some), λ (no : true ≡ false). absurd (cc))
dear-either false true t k is some = (omega (arith, is, some), λ no. omega (arith, is, some))
dear-either false false t k is some = absurd (omega (arith, is, some))

dear : (entry_cost : CPos → ℕ) (p q : CPos) (d k : ℕ) → IsStep entry_cost p d q k → (5 ≤ k) × (eqb (d % 2) 0 ≡ false → 7 ≤ k)
unfolding step_cost_of
dear entry_cost p q d k step = dear-either (eqb (d % 2) 0) _ (entry_cost q) k step.cost step.allowed

-- By how much a step brings a cell nearer to another one, in columns and rows.
record IsNearerBy (p q t : CPos) (columns rows : ℕ) : Type 0 where
  wide : apart q.x t.x ≤ apart p.x t.x + columns
  high : apart q.y t.y ≤ apart p.y t.y + rows

nearer-by :
    (p q t : CPos) (d : ℕ) → step_of p d ≡ Some q → IsNearerBy p q t (east_of d + west_of d) (south_of d + north_of d)
nearer-by p q t d there =
    let parts = both (shifted p.x (east_of d) (west_of d)) (shifted p.y (south_of d) (north_of d)) q there in
    let x = moved p.x (east_of d) (west_of d) q.x parts.0 in
    let y = moved p.y (south_of d) (north_of d) q.y parts.1 in
    record { wide = omega (arith, x); high = omega (arith, y) }

-- How much is left to go after a step: less by what it costs at most.
left-straight : (c r c' r' a b : ℕ) → c' ≤ c + a → r' ≤ r + b → a + b ≤ 1 → least_cost_across c' r' ≤ least_cost_across c r + 5
left-straight c r c' r' a b wide high one = grind (arith, nat_tests)

left-across : (c r c' r' a b : ℕ) → c' ≤ c + a → r' ≤ r + b → a ≤ 1 → b ≤ 1 → least_cost_across c' r' ≤ least_cost_across c r + 7
left-across c r c' r' a b wide high east south = grind (arith, nat_tests)

one-way : (d : ℕ) → d < 8 → eqb (d % 2) 0 ≡ true → (east_of d + west_of d) + (south_of d + north_of d) ≤ 1
one-way d low even = grind (arith, nat_tests)

at-most-one : (d : ℕ) → d < 8 → (east_of d + west_of d ≤ 1) × (south_of d + north_of d ≤ 1)
at-most-one d low = (grind (arith, nat_tests), grind (arith, nat_tests))

least-left :
    (b : Bool) (p q t : CPos) (columns rows k : ℕ) → IsNearerBy p q t columns rows → columns ≤ 1 → rows ≤ 1 →
    (b ≡ true → columns + rows ≤ 1) → 5 ≤ k → (b ≡ false → 7 ≤ k) → least_cost_between q t ≤ least_cost_between p t + k
least-left true p q t columns rows k near wide high one some more =
    let left = left-straight (apart p.x t.x) (apart p.y t.y) (apart q.x t.x) (apart q.y t.y) columns rows near.wide near.high (one refl) in
    omega (arith, left, some)
least-left false p q t columns rows k near wide high one some more =
    let left = left-across (apart p.x t.x) (apart p.y t.y) (apart q.x t.x) (apart q.y t.y) columns rows near.wide near.high wide high in
    omega (arith, left, more refl)

-- No step costs less than it brings a cell nearer to another one.
step-left :
    (entry_cost : CPos → ℕ) (p q t : CPos) (d k : ℕ) → IsStep entry_cost p d q k → least_cost_between q t ≤ least_cost_between p t + k
step-left entry_cost p q t d k step =
    let cost = dear entry_cost p q d k step in
    let most = at-most-one d step.direction in
    least-left (eqb (d % 2) 0) p q t (east_of d + west_of d) (south_of d + north_of d) k (nearer-by p q t d step.enters) most.0 most.1
    (one-way d step.direction) cost.0 cost.1

-- What is left of a walk within reach is within reach.
pub reached-on :
    (entry_cost : CPos → ℕ) (reach : Option Reach) (p q : CPos) (d k n m : ℕ) → IsStep entry_cost p d q k → k + m ≤ n →
    IsReached reach p n → IsReached reach q m
reached-on entry_cost None p q d k n m step sum reached = tt
reached-on entry_cost (Some reach) p q d k n m step sum reached =
    let left = step-left entry_cost p q reach.toward d k step in
    omega (arith, left, sum, reached)

pub reached-below : (reach : Option Reach) (p : CPos) (m n : ℕ) → m ≤ n → IsReached reach p n → IsReached reach p m
reached-below None p m n below reached = tt
reached-below (Some reach) p m n below reached = omega (arith, below, reached)

pub reached-all : (reach : Option Reach) (p : CPos) (n : ℕ) → reach ≡ None → IsReached reach p n
reached-all None p n all = tt
reached-all (Some reach) p n all = absurd (cc)
