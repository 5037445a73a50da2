-- What it costs to enter a cell: as read from the surface, and from each neighbour.
use Rattle.std.proofs.Common.{◌≡◌, ◌≢◌, ℕ, ◌+◌, ◌*◌, ◌%◌, ◌==◌, ◌⊎◌, ◌<◌, ◌≤◌, ◌&&◌, ◌||◌, nat_lt, not, inl, inr, Bool, true, false, cond, Option, Some, None, List, length, get_or, refl, sym, ap, ap₂, ◌∙◌, subst, arith}
use Rattle.std.proofs.lemmas.Bool.{cases_eq}
use Rattle.world_units.specs.declared.cell.CPos.{CPos}
use Rattle.world_units.specs.Cells.{same_cell}
use Rattle.world_units.specs.CellEquality.{cell_decides}
use Rattle.world_units.specs.Directions.{opposite_of, step_of}
use Rattle.rule_traits.specs.declared.trait_fields.Costs.{Costs}
use Rattle.game_model.specs.declared.terrain.Terrain.{Terrain}
use Rattle.game_model.specs.declared.terrain.Terrain.TheVariants.{Clear, Road, Rough, Water, Rock}
use Rattle.game_model.specs.Grid.{Grid, HasSize, IsOn, is_on, at_cell, place_of, with_cell}
use Rattle.game_model.specs.Walks.{cost_at, step_cost_of, holds, is_free, entry_cost_of}
use Rattle.grid_routes.specs.declared.surface.TheConstants.{ROCK}
use Rattle.grid_routes.specs.declared.step_costs.StepCosts.{StepCosts}
use Rattle.grid_routes.specs.Values.{value_in}
use Rattle.grid_routes.specs.StepCosts.{AreStepCosts, IsStepCostFrom}
use Rattle.grid_routes.specs.Footing.{ArePut, IsFooting, IsRenewed, charges_of, number_at, number_or_rock}
use Rattle.grid_routes.specs.EntryCosts.{Ground, AreEntryCosts, entry_cost_in}
use Rattle.grid_routes.specs.Around.{number_in}
use Rattle.grid_routes.specs.Beside.{IsBeside, IsPlaced}
use Rattle.grid_routes.specs.declared.beside.Placed.{Placed}
use Rattle.grid_routes.specs.Labels.{IsFull}
use Rattle.grid_routes.proofs.Cells.{is_on-on, is_on-true, placed, set-here, set-other}
use Rattle.grid_routes.proofs.Directions.{beside-north_east, beside-south_east, beside-south_west, beside-north_west}
use Rattle.grid_routes.proofs.Lowering.{one-or-not}

-- The cells of a row, one after the other.
on-back : (w h : ℕ) (g : Grid ℕ) (p : CPos) → HasSize w h g → IsOn g.width g.height p → IsOn w h p
on-back w h g p size on = record { column = rw size.width at on.column; row = rw size.height at on.row }

-- A cell that is set has its number, and the others stay.
pub renewed :
    (number : CPos → ℕ) (g : Grid ℕ) (p : CPos) (n : ℕ) → IsFull g → IsOn g.width g.height p → n ≡ number p →
    IsRenewed number g (with_cell g p n) p
renewed number g p n full on is = record {
  size = record { width = refl; height = refl };
  here = λ there. set-here ROCK g p n full.size on ∙ is;
  others = λ q other. set-other ROCK g p n q on.column other;
}

pub put-none : (number : CPos → ℕ) (g : Grid ℕ) → ArePut number g 0 0
put-none number g = record {
  above = λ p below on. absurd (omega arith);
  before = λ p row below on. absurd (omega arith);
}

pub put-next :
    (number : CPos → ℕ) (g g' : Grid ℕ) (p : CPos) → ArePut number g p.y p.x → IsRenewed number g g' p →
    ArePut number g' p.y (p.x + 1)
put-next number g g' p so_far one = record {
  above = λ c below on.
      one.others c (λ (same : c ≡ p). let row : c.y ≡ p.y = ap (λ x. x.y) same in omega arith)
      ∙ so_far.above c below (on-back g.width g.height g' c one.size on);
  before = λ c row below on.
      elim (one-or-not c p) [
        | inl same ↦
            subst (λ (x : CPos). value_in ROCK g' x ≡ number x) (sym same)
            (one.here (subst (λ (x : CPos). IsOn g.width g.height x) same (on-back g.width g.height g' c one.size on)))
        | inr other ↦
            elim (cases_eq c.x p.x) [
              | inl column ↦
                  let made : ℕ → ℕ → CPos = λ x y. record { x = x; y = y } in
                  absurd (other (ap (λ n. made n c.y) column ∙ ap (λ n. made p.x n) row))
              | inr less ↦
                  one.others c other ∙ so_far.before c row (omega arith) (on-back g.width g.height g' c one.size on)
            ]
      ];
}

pub put-row :
    (number : CPos → ℕ) (g : Grid ℕ) (y x : ℕ) → g.width ≤ x → ArePut number g y x → ArePut number g (y + 1) 0
put-row number g y x end so_far = record {
  above = λ c below on.
      let column : c.x < g.width = on.column in
      elim (cases_eq c.y y) [
        | inl same ↦ so_far.before c same (omega arith) on
        | inr less ↦ so_far.above c (omega arith) on
      ];
  before = λ c row below on. absurd (omega arith);
}

pub put-all : (number : CPos → ℕ) (g : Grid ℕ) (y : ℕ) → g.height ≤ y → ArePut number g y 0 → IsFooting number g
put-all number g y end so_far = record {
  each = λ p on.
      let row : p.y < g.height = on.row in
      so_far.above p (omega arith) on;
}

on-or-off : (b : Bool) → (b ≡ true) ⊎ (b ≡ false)
on-or-off true = inl refl
on-or-off false = inr refl

unlike : (a b : CPos) → a ≢ b → same_cell a b ≡ false
unlike a b other =
    elim (on-or-off (same_cell a b)) [
      | inl same ↦ absurd (other ((cell_decides a b).0 same))
      | inr apart ↦ apart
    ]

-- Only two cells count as something else on the way to another goal.
other-number :
    (terrain : Grid Terrain) (built : Grid Bool) (last goal p : CPos) → p ≢ last → p ≢ goal →
    number_at terrain built goal p ≡ number_at terrain built last p
unfolding number_at
other-number terrain built last goal p from to =
    let not_goal : same_cell p goal ≡ false = unlike p goal to in
    let not_last : same_cell p last ≡ false = unlike p last from in
    rw (not_goal, not_last) refl

pub turned-footing :
    (terrain : Grid Terrain) (built : Grid Bool) (last goal : CPos) (g h k : Grid ℕ) →
    IsFooting (number_at terrain built last) g → IsRenewed (number_at terrain built goal) g h last →
    IsRenewed (number_at terrain built goal) h k goal → IsFooting (number_at terrain built goal) k
turned-footing terrain built last goal g h k old first second = record {
  each = λ p on.
      let there : IsOn h.width h.height p = on-back h.width h.height k p second.size on in
      let here : IsOn g.width g.height p = on-back g.width g.height h p first.size there in
      elim (one-or-not p goal) [
        | inl same ↦
            subst (λ (x : CPos). value_in ROCK k x ≡ number_at terrain built goal x) (sym same)
            (second.here (subst (λ (x : CPos). IsOn h.width h.height x) same there))
        | inr to ↦
            second.others p to
            ∙ elim (one-or-not p last) [
              | inl same ↦
                  subst (λ (x : CPos). value_in ROCK h x ≡ number_at terrain built goal x) (sym same)
                  (first.here (subst (λ (x : CPos). IsOn g.width g.height x) same here))
              | inr from ↦
                  first.others p from ∙ old.each p here ∙ sym (other-number terrain built last goal p from to)
            ]
      ];
}

charged : (costs : Costs) (o : Option Terrain) → get_or (charges_of costs) (number_or_rock o) 0 ≡ cost_at costs o
charged costs None = refl
charged costs (Some Clear) = refl
charged costs (Some Road) = refl
charged costs (Some Rough) = refl
charged costs (Some Water) = refl
charged costs (Some Rock) = refl

charged-if :
    (costs : Costs) (enters : Bool) (o : Option Terrain) →
    get_or (charges_of costs) (cond enters (number_or_rock o) ROCK) 0 ≡ cond enters (cost_at costs o) 0
charged-if costs true o = charged costs o
charged-if costs false o = refl

off-map : (g : Grid ℕ) (p : CPos) → is_on g.width g.height p ≡ false → value_in ROCK g p ≡ ROCK
unfolding value_in
off-map g p outside = rw outside refl

-- The charge of a cell's number is its entry cost.
pub entry_cost-read :
    (ground : Ground) (surface : Grid ℕ) (charges : List ℕ) (p : CPos) → AreEntryCosts ground surface charges →
    get_or charges (value_in ROCK surface p) 0 ≡ entry_cost_in ground p
unfolding entry_cost_of number_at
entry_cost-read ground surface charges p entry_costs =
    rw entry_costs.charged
    (elim (on-or-off (is_on ground.terrain.width ground.terrain.height p)) [
      | inl on ↦
          let here : IsOn ground.terrain.width ground.terrain.height p = is_on-on _ _ p on in
          let there : IsOn surface.width surface.height p = record { column = rw entry_costs.size.width here.column; row = rw entry_costs.size.height here.row } in
          let number = entry_costs.footing.each p there in
          rw (number, on)
          (charged-if ground.costs (same_cell p ground.goal || not (holds (at_cell ground.built p))) (at_cell ground.terrain p))
      | inr outside ↦
          let away : is_on surface.width surface.height p ≡ false = rw (entry_costs.size.width, entry_costs.size.height) outside in
          rw (off-map surface p away, outside) refl
    ])

-- Whether the cell with a number can be entered.
free-read :
    (ground : Ground) (surface : Grid ℕ) (charges : List ℕ) (o : Option CPos) → AreEntryCosts ground surface charges →
    nat_lt 0 (get_or charges (number_in surface o) 0) ≡ is_free (entry_cost_in ground) o
free-read ground surface charges (Some p) entry_costs = ap (λ n. nat_lt 0 n) (entry_cost-read ground surface charges p entry_costs)
free-read ground surface charges None entry_costs = rw entry_costs.charged refl

pub open-read :
    (ground : Ground) (surface : Grid ℕ) (charges : List ℕ) (o : Option CPos) (n : ℕ) (b : Bool) →
    AreEntryCosts ground surface charges → b ≡ nat_lt 0 (get_or charges n 0) → n ≡ number_in surface o →
    b ≡ is_free (entry_cost_in ground) o
open-read ground surface charges o n b entry_costs is at =
    is ∙ ap (λ k. nat_lt 0 (get_or charges k 0)) at ∙ free-read ground surface charges o entry_costs

pub number-within :
    (w h : ℕ) (g : Grid ℕ) (k : Placed) → IsFull g → HasSize w h g → IsPlaced w h k → k.at < length g.cells
number-within w h g k full size there =
    let on : IsOn g.width g.height k.cell = record { column = rw size.width there.on.column; row = rw size.height there.on.row } in
    let at : k.at ≡ place_of g.width k.cell = there.at ∙ ap (λ n. place_of n k.cell) (sym size.width) in
    omega (arith, at, placed g.width g.height k.cell (length g.cells) full.size on)

surface-read :
    (g : Grid ℕ) (p : CPos) → IsOn g.width g.height p → value_in ROCK g p ≡ get_or g.cells (place_of g.width p) ROCK
unfolding value_in
surface-read g p on = rw (is_on-true g.width g.height p on) refl

-- The number of a neighbour.
pub number-some :
    (w h : ℕ) (g : Grid ℕ) (q : CPos) (d : ℕ) (k : Placed) → HasSize w h g → IsBeside w h q d (Some k) →
    get_or g.cells k.at ROCK ≡ number_in g (step_of q d)
number-some w h g q d k size beside =
    let b = beside.some k refl in
    let on : IsOn g.width g.height k.cell = record { column = rw size.width b.1.on.column; row = rw size.height b.1.on.row } in
    let at : k.at ≡ place_of g.width k.cell = b.1.at ∙ ap (λ n. place_of n k.cell) (sym size.width) in
    rw (b.0, at) (sym (surface-read g k.cell on))

outside : (g : Grid ℕ) (o : Option CPos) → ((p : CPos) → o ≡ Some p → IsOn g.width g.height p → ⊥) → ROCK ≡ number_in g o
outside g None away = refl
outside g (Some p) away =
    elim (on-or-off (is_on g.width g.height p)) [
      | inl on ↦ absurd (away p refl (is_on-on g.width g.height p on))
      | inr off ↦ sym (off-map g p off)
    ]

pub number-none :
    (w h : ℕ) (g : Grid ℕ) (q : CPos) (d : ℕ) → HasSize w h g → IsBeside w h q d None →
    ROCK ≡ number_in g (step_of q d)
number-none w h g q d size beside =
    outside g (step_of q d) (λ p there on.
    beside.none refl p there (record { column = rw (sym size.width) on.column; row = rw (sym size.height) on.row }))

between-low : (b : Bool) (t : ℕ) → t ≤ 10 → cond b (7 * t) 0 ≤ 70
between-low true t low = omega arith
between-low false t low = omega arith

-- The step costs from all neighbours, by which of those that share a side are free.
module _ (entry_cost : CPos → ℕ) (q : CPos) (wide : q.x < 256) (high : q.y < 256) (t : ℕ) (north east south west : Bool)
    (north_is : north ≡ is_free entry_cost (step_of q 0)) (east_is : east ≡ is_free entry_cost (step_of q 2))
    (south_is : south ≡ is_free entry_cost (step_of q 4)) (west_is : west ≡ is_free entry_cost (step_of q 6))
    (t_is : t ≡ entry_cost q) (low : t ≤ 10) where
  between : (left right : Bool) (step_cost : ℕ) → step_cost ≡ cond (left && right) (7 * t) 0 → cond (left && right) (7 * entry_cost q) 0 ≡ step_cost
  between left right step_cost is = ap (λ n. cond (left && right) (7 * n) 0) (sym t_is) ∙ sym is

  cheap-between : (left right : Bool) (step_cost : ℕ) → step_cost ≡ cond (left && right) (7 * t) 0 → step_cost ≤ 70
  cheap-between left right step_cost is = rw is (between-low (left && right) t low)

  from-north_east : (step_cost : ℕ) → step_cost ≡ cond (north && east) (7 * t) 0 → IsStepCostFrom entry_cost q 1 step_cost
  unfolding step_cost_of
  from-north_east step_cost is = record {
    cost = λ p there.
        let b = beside-north_east q p wide high there in
        let left : is_free entry_cost (step_of p 6) ≡ north = ap (λ o. is_free entry_cost o) b.0 ∙ sym north_is in
        let right : is_free entry_cost (step_of p 4) ≡ east = ap (λ o. is_free entry_cost o) b.1 ∙ sym east_is in
        ap₂ (λ l r. cond (l && r) (7 * entry_cost q) 0) left right ∙ between north east step_cost is;
    cheap = cheap-between north east step_cost is;
  }

  from-south_east : (step_cost : ℕ) → step_cost ≡ cond (east && south) (7 * t) 0 → IsStepCostFrom entry_cost q 3 step_cost
  unfolding step_cost_of
  from-south_east step_cost is = record {
    cost = λ p there.
        let b = beside-south_east q p wide high there in
        let left : is_free entry_cost (step_of p 0) ≡ east = ap (λ o. is_free entry_cost o) b.1 ∙ sym east_is in
        let right : is_free entry_cost (step_of p 6) ≡ south = ap (λ o. is_free entry_cost o) b.0 ∙ sym south_is in
        ap₂ (λ l r. cond (l && r) (7 * entry_cost q) 0) left right ∙ between east south step_cost is;
    cheap = cheap-between east south step_cost is;
  }

  from-south_west : (step_cost : ℕ) → step_cost ≡ cond (south && west) (7 * t) 0 → IsStepCostFrom entry_cost q 5 step_cost
  unfolding step_cost_of
  from-south_west step_cost is = record {
    cost = λ p there.
        let b = beside-south_west q p wide high there in
        let left : is_free entry_cost (step_of p 2) ≡ south = ap (λ o. is_free entry_cost o) b.0 ∙ sym south_is in
        let right : is_free entry_cost (step_of p 0) ≡ west = ap (λ o. is_free entry_cost o) b.1 ∙ sym west_is in
        ap₂ (λ l r. cond (l && r) (7 * entry_cost q) 0) left right ∙ between south west step_cost is;
    cheap = cheap-between south west step_cost is;
  }

  from-north_west : (step_cost : ℕ) → step_cost ≡ cond (west && north) (7 * t) 0 → IsStepCostFrom entry_cost q 7 step_cost
  unfolding step_cost_of
  from-north_west step_cost is = record {
    cost = λ p there.
        let b = beside-north_west q p wide high there in
        let left : is_free entry_cost (step_of p 4) ≡ west = ap (λ o. is_free entry_cost o) b.1 ∙ sym west_is in
        let right : is_free entry_cost (step_of p 2) ≡ north = ap (λ o. is_free entry_cost o) b.0 ∙ sym north_is in
        ap₂ (λ l r. cond (l && r) (7 * entry_cost q) 0) left right ∙ between west north step_cost is;
    cheap = cheap-between west north step_cost is;
  }

  straight : (d step_cost : ℕ) → step_cost ≡ 5 * t → (d % 2 == 0) ≡ true → d ≡ opposite_of (opposite_of d) → IsStepCostFrom entry_cost q (opposite_of d) step_cost
  unfolding step_cost_of
  straight d step_cost is even back = record {
    cost = λ p there. rw (sym back, even) (omega (arith, is, t_is));
    cheap = omega (arith, is, low);
  }

  pub all-step_costs :
      (step_costs : StepCosts) → step_costs.straight ≡ 5 * t → step_costs.north_east ≡ cond (north && east) (7 * t) 0 →
      step_costs.south_east ≡ cond (east && south) (7 * t) 0 → step_costs.south_west ≡ cond (south && west) (7 * t) 0 →
      step_costs.north_west ≡ cond (west && north) (7 * t) 0 → AreStepCosts entry_cost q step_costs
  all-step_costs step_costs side north_east south_east south_west north_west = record {
    north = straight 4 step_costs.straight side refl refl;
    north_east = from-north_east step_costs.north_east north_east;
    east = straight 6 step_costs.straight side refl refl;
    south_east = from-south_east step_costs.south_east south_east;
    south = straight 0 step_costs.straight side refl refl;
    south_west = from-south_west step_costs.south_west south_west;
    west = straight 2 step_costs.straight side refl refl;
    north_west = from-north_west step_costs.north_west north_west;
  }
