-- What a step costs at most, and which cells it enters.
use Rattle.std.proofs.Common.{◌≡◌, ℕ, ◌*◌, ◌<◌, ◌≤◌, ◌&&◌, inl, inr, Bool, true, false, cond, Option, Some, None, refl, arith}
use Rattle.std.proofs.lemmas.Bool.{cases_eq}
use Rattle.world_units.specs.declared.cell.CPos.{CPos}
use Rattle.rule_traits.specs.declared.trait_fields.Costs.{Costs}
use Rattle.game_model.specs.declared.terrain.Terrain.{Terrain}
use Rattle.game_model.specs.declared.terrain.Terrain.TheVariants.{Clear, Road, Rough, Water, Rock}
use Rattle.game_model.specs.Grid.{Grid, HasSize, IsOn, is_on, at_cell}
use Rattle.game_model.specs.Walks.{IsStep, cost_at, step_cost_of, entry_cost_of}
use Rattle.grid_routes.specs.EntryCosts.{IsCheap}
use Rattle.grid_routes.specs.Steps.{IsFair}
use Rattle.grid_routes.proofs.Cells.{is_on-on}

zero-either : (b c : Bool) → ◌≡◌ {A = ℕ} (cond b (5 * 0) (cond c (7 * 0) 0)) 0
zero-either true c = refl
zero-either false true = refl
zero-either false false = refl

low-either : (b c : Bool) (t : ℕ) → t ≤ 10 → cond b (5 * t) (cond c (7 * t) 0) ≤ 70
low-either true c t low = omega arith
low-either false true t low = omega arith
low-either false false t low = omega arith

step_cost-low : (entry_cost : CPos → ℕ) (p : CPos) (d : ℕ) (q : CPos) → entry_cost q ≤ 10 → step_cost_of entry_cost p d q ≤ 70
unfolding step_cost_of
step_cost-low entry_cost p d q low = low-either _ _ (entry_cost q) low

entry_cost-on : (b : Bool) (x : ℕ) → 0 < cond b x 0 → b ≡ true
entry_cost-on true x some = refl
entry_cost-on false x some = absurd (omega arith)

entry_cost-low : (b : Bool) (x : ℕ) → x ≤ 10 → cond b x 0 ≤ 10
entry_cost-low true x low = low
entry_cost-low false x low = omega arith

pub step_cost-zero : (entry_cost : CPos → ℕ) (p : CPos) (d : ℕ) (q : CPos) → entry_cost q ≡ 0 → step_cost_of entry_cost p d q ≡ 0
unfolding step_cost_of
step_cost-zero entry_cost p d q free = rw free (zero-either _ _)

-- A step enters a cell of the map.
pub step-on : (entry_cost : CPos → ℕ) (w h : ℕ) → IsFair entry_cost w h → (p q : CPos) (d k : ℕ) → IsStep entry_cost p d q k → IsOn w h q
step-on entry_cost w h fair p q d k step =
    elim (cases_eq (entry_cost q) 0) [
      | inl none ↦
          let zero_step_cost = step_cost-zero entry_cost p d q none in
          absurd (omega (arith, zero_step_cost, step.cost, step.allowed))
      | inr some ↦ fair.inside q (omega arith)
    ]

cost-low : (costs : Costs) (o : Option Terrain) → IsCheap costs → cost_at costs o ≤ 10
cost-low costs None cheap = omega arith
cost-low costs (Some Clear) cheap = cheap.clear
cost-low costs (Some Road) cheap = cheap.road
cost-low costs (Some Rough) cheap = cheap.rough
cost-low costs (Some Water) cheap = cheap.water
cost-low costs (Some Rock) cheap = omega arith

both-true : (a b : Bool) → (a && b) ≡ true → a ≡ true
both-true true b met = refl
both-true false b met = absurd (cc)

-- The entry costs of a map are fair.
pub fair-map :
    (terrain : Grid Terrain) (built : Grid Bool) (costs : Costs) (goal : CPos) (w h : ℕ) → HasSize w h terrain →
    IsCheap costs → IsFair (entry_cost_of terrain built costs goal) w h
unfolding entry_cost_of
fair-map terrain built costs goal w h size cheap = record {
  inside = λ q some.
      let on = is_on-on terrain.width terrain.height q (both-true (is_on terrain.width terrain.height q) _ (entry_cost-on _ _ some)) in
      record { column = rw size.width at on.column; row = rw size.height at on.row };
  cheap = λ p q d k step.
      let low : entry_cost_of terrain built costs goal q ≤ 10 = entry_cost-low _ (cost_at costs (at_cell terrain q)) (cost-low costs (at_cell terrain q) cheap) in
      let most = step_cost-low (entry_cost_of terrain built costs goal) p d q low in
      omega (arith, most, step.cost);
}
