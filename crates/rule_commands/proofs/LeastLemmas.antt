-- The least cost of bounded walks, as a function, is that of all walks where one of them is short.
use Rattle.std.proofs.Common.{◌≡◌, ◌⊎◌, ◌<◌, ◌≤◌, ◌+◌, ℕ, zero, suc, Bool, true, false, cond, List, [], ◌∷◌, length, map, Option, None, Some, inl, inr, refl, sym, ap, ap₂, subst, ◌∙◌, arith}
use Rattle.std.specs.Prelude.{min}
use Rattle.std.specs.List.{fold}
use Rattle.std.proofs.lemmas.Bool.{cases_lt}
use Rattle.world_units.specs.declared.cell.CPos.{CPos}
use Rattle.world_units.specs.Cells.{same_cell}
use Rattle.world_units.specs.CellEquality.{cell_decides}
use Rattle.world_units.specs.Directions.{step_of}
use Rattle.game_model.specs.Walks.{Land, IsStep, IsWalk, IsDistance, HasNoWalk, step_cost_of}
use Rattle.game_model.specs.BestDirection.{directions, lesser, least_of, by_step_cost, by_step, by_direction, least_within}

-- ---- the least of some costs

-- The cost that was found is no greater than this.
pub record IsLow (found : Option ℕ) (most : ℕ) : Type 0 where
  pub cost : ℕ
  pub is : found ≡ Some cost
  pub low : cost ≤ most

lower : (found : Option ℕ) (a b : ℕ) → a ≤ b → IsLow found a → IsLow found b
lower found a b less low = record { cost = low.cost; is = low.is; low = omega (arith, less, low.low) }

fold_low : (least : ℕ) (costs : List (Option ℕ)) → IsLow (fold lesser (Some least) costs) least
fold_low least [] = record { cost = least; is = refl; low = omega arith }
fold_low least (None ∷ rest) = fold_low least rest
fold_low least (Some cost ∷ rest) =
    let low : IsLow (fold lesser (Some (min least cost)) rest) (min least cost) = fold_low (min least cost) rest in
    record { cost = low.cost; is = low.is; low = omega (arith, low.low) }

-- One of the list.
abbrev pub Has : List ℕ → ℕ → Type 0
Has [] d = ⊥
Has (e ∷ rest) d = (e ≡ d) ⊎ Has rest d

started : (start : Option ℕ) (cost : ℕ) (costs : List (Option ℕ)) → IsLow (fold lesser (lesser start (Some cost)) costs) cost
started None cost costs = fold_low cost costs
started (Some least) cost costs =
    lower (fold lesser (Some (min least cost)) costs) (min least cost) cost (omega arith) (fold_low (min least cost) costs)

least_low :
    (of : ℕ → Option ℕ) (ds : List ℕ) (start : Option ℕ) (d cost : ℕ) → Has ds d → of d ≡ Some cost →
    IsLow (fold lesser start (map of ds)) cost
least_low of [] start d cost has is = absurd has
least_low of (e ∷ ds) start d cost (inl same) is =
    let here : of e ≡ Some cost = ap of same ∙ is in
    subst (λ (found : Option ℕ). IsLow (fold lesser (lesser start found) (map of ds)) cost) (sym here) (started start cost (map of ds))
least_low of (e ∷ ds) start d cost (inr later) is = least_low of ds (lesser start (of e)) d cost later is

-- The direction whose cost is the least.
pub record IsFound (of : ℕ → Option ℕ) (ds : List ℕ) (cost : ℕ) : Type 0 where
  pub direction : ℕ
  pub has : Has ds direction
  pub is : of direction ≡ Some cost

of_lesser : (start found : Option ℕ) (cost : ℕ) → lesser start found ≡ Some cost → (start ≡ Some cost) ⊎ (found ≡ Some cost)
of_lesser None found cost is = inr is
of_lesser (Some a) None cost is = inl is
of_lesser (Some a) (Some b) cost is =
    let least : min a b ≡ cost = cc in
    elim (cases_lt b a) [
      | inl less ↦ inr (ap Some (omega (arith, least, less)))
      | inr more ↦ inl (ap Some (omega (arith, least, more)))
    ]

least_found :
    (of : ℕ → Option ℕ) (ds : List ℕ) (start : Option ℕ) (cost : ℕ) → fold lesser start (map of ds) ≡ Some cost →
    (start ≡ Some cost) ⊎ IsFound of ds cost
least_found of [] start cost is = inl is
least_found of (e ∷ ds) start cost is =
    elim (least_found of ds (lesser start (of e)) cost is) [
      | inl first ↦ elim (of_lesser start (of e) cost first) [
        | inl before ↦ inl before
        | inr here ↦ inr (record { direction = e; has = inl refl; is = here })
      ]
      | inr later ↦ inr (record { direction = later.direction; has = inr later.has; is = later.is })
    ]

-- ---- the eight directions

below_eight : (d : ℕ) → Has directions d → d < 8
below_eight d (inl e) = omega (arith, e)
below_eight d (inr (inl e)) = omega (arith, e)
below_eight d (inr (inr (inl e))) = omega (arith, e)
below_eight d (inr (inr (inr (inl e)))) = omega (arith, e)
below_eight d (inr (inr (inr (inr (inl e))))) = omega (arith, e)
below_eight d (inr (inr (inr (inr (inr (inl e)))))) = omega (arith, e)
below_eight d (inr (inr (inr (inr (inr (inr (inl e))))))) = omega (arith, e)
below_eight d (inr (inr (inr (inr (inr (inr (inr (inl e)))))))) = omega (arith, e)
below_eight d (inr (inr (inr (inr (inr (inr (inr (inr none)))))))) = absurd none

has_eight : (d : ℕ) → d < 8 → Has directions d
has_eight zero low = inl refl
has_eight (suc zero) low = inr (inl refl)
has_eight (suc (suc zero)) low = inr (inr (inl refl))
has_eight (suc (suc (suc zero))) low = inr (inr (inr (inl refl)))
has_eight (suc (suc (suc (suc zero)))) low = inr (inr (inr (inr (inl refl))))
has_eight (suc (suc (suc (suc (suc zero))))) low = inr (inr (inr (inr (inr (inl refl)))))
has_eight (suc (suc (suc (suc (suc (suc zero)))))) low = inr (inr (inr (inr (inr (inr (inl refl))))))
has_eight (suc (suc (suc (suc (suc (suc (suc zero))))))) low = inr (inr (inr (inr (inr (inr (inr (inl refl)))))))
has_eight (suc (suc (suc (suc (suc (suc (suc (suc n)))))))) low = absurd (omega arith)

-- ---- one step, and the rest of the way

-- A way that begins with this direction: its step, and what the rest of it costs.
pub record IsWayOn (land : Land) (rest : CPos → Option ℕ) (p : CPos) (d n : ℕ) : Type 0 where
  pub entered : CPos
  pub cost : ℕ
  pub left : ℕ
  pub step : IsStep land.entry_cost p d entered cost
  pub there : rest entered ≡ Some left
  pub sum : n ≡ cost + left

way_by_step_cost :
    (land : Land) (rest : CPos → Option ℕ) (p q : CPos) (d n : ℕ) → d < 8 → step_of p d ≡ Some q →
    (cost : ℕ) (left : Option ℕ) → step_cost_of land.entry_cost p d q ≡ cost → rest q ≡ left → by_step_cost cost left ≡ Some n →
    IsWayOn land rest p d n
way_by_step_cost land rest p q d n low enters zero left step_cost there is = absurd cc
way_by_step_cost land rest p q d n low enters (suc less) None step_cost there is = absurd cc
way_by_step_cost land rest p q d n low enters (suc less) (Some left) step_cost there is = record {
  entered = q;
  cost = suc less;
  left = left;
  step = record { direction = low; enters = enters; cost = step_cost; allowed = omega arith };
  there = there;
  sum = cc;
}

way_by_step :
    (land : Land) (rest : CPos → Option ℕ) (p : CPos) (d n : ℕ) → d < 8 → (to : Option CPos) → step_of p d ≡ to →
    by_step land rest p d to ≡ Some n → IsWayOn land rest p d n
way_by_step land rest p d n low None enters is = absurd cc
way_by_step land rest p d n low (Some q) enters is =
    way_by_step_cost land rest p q d n low enters (step_cost_of land.entry_cost p d q) (rest q) refl refl is

pub way_on :
    (land : Land) (rest : CPos → Option ℕ) (p : CPos) (d n : ℕ) → d < 8 → by_direction land rest p d ≡ Some n →
    IsWayOn land rest p d n
way_on land rest p d n low is = way_by_step land rest p d n low (step_of p d) refl is

step_cost_sum : (cost left : ℕ) → 0 < cost → by_step_cost cost (Some left) ≡ Some (cost + left)
step_cost_sum zero left some = absurd (omega arith)
step_cost_sum (suc less) left some = refl

pub direction_cost :
    (land : Land) (rest : CPos → Option ℕ) (p q : CPos) (d cost left : ℕ) → IsStep land.entry_cost p d q cost → rest q ≡ Some left →
    by_direction land rest p d ≡ Some (cost + left)
direction_cost land rest p q d cost left step there =
    ap (by_step land rest p d) step.enters ∙ ap₂ by_step_cost step.cost there ∙ step_cost_sum cost left step.allowed

-- ---- what is found is the cost of a walk

pub record IsWalked (land : Land) (p : CPos) (n : ℕ) : Type 0 where
  pub cells : List CPos
  pub walk : IsWalk land p cells n

here : (land : Land) (p : CPos) (n : ℕ) → same_cell p land.goal ≡ true → Some 0 ≡ Some n → IsWalked land p n
here land p n same is = record { cells = []; walk = ((cell_decides p land.goal).0 same, cc) }

walked_step :
    (land : Land) (rest : CPos → Option ℕ) → ((q : CPos) (left : ℕ) → rest q ≡ Some left → IsWalked land q left) →
    (p : CPos) (n : ℕ) (b : Bool) → same_cell p land.goal ≡ b →
    cond b (Some 0) (least_of (map (by_direction land rest p) directions)) ≡ Some n → IsWalked land p n
walked_step land rest later p n true same is = here land p n same is
walked_step land rest later p n false same is =
    elim (least_found (by_direction land rest p) directions None n is) [
      | inl none ↦ absurd cc
      | inr found ↦
          let way : IsWayOn land rest p found.direction n = way_on land rest p found.direction n (below_eight found.direction found.has) found.is in
          let after : IsWalked land way.entered way.left = later way.entered way.left way.there in
          record {
            cells = way.entered ∷ after.cells;
            walk = (found.direction, way.cost, way.left, way.step, way.sum, after.walk);
          }
    ]

at_goal : (land : Land) (p : CPos) (n : ℕ) (b : Bool) → same_cell p land.goal ≡ b → cond b (Some 0) None ≡ Some n → IsWalked land p n
at_goal land p n true same is = here land p n same is
at_goal land p n false same is = absurd cc

pub walked : (land : Land) (steps : ℕ) (p : CPos) (n : ℕ) → least_within land steps p ≡ Some n → IsWalked land p n
walked land zero p n is = at_goal land p n (same_cell p land.goal) refl is
walked land (suc more) p n is =
    walked_step land (least_within land more) (λ q left there. walked land more q left there) p n (same_cell p land.goal) refl is

-- ---- a short walk is found

low_here : (other : Option ℕ) (m : ℕ) (b : Bool) → b ≡ true → IsLow (cond b (Some 0) other) m
low_here other m true same = record { cost = 0; is = refl; low = omega arith }
low_here other m false same = absurd cc

low_later : (other : Option ℕ) (m : ℕ) (b : Bool) → IsLow other m → IsLow (cond b (Some 0) other) m
low_later other m true low = record { cost = 0; is = refl; low = omega arith }
low_later other m false low = low

low_step :
    (land : Land) (rest : CPos → Option ℕ) (p q : CPos) (d k m n : ℕ) → IsStep land.entry_cost p d q k → n ≡ k + m → IsLow (rest q) m →
    IsLow (least_of (map (by_direction land rest p) directions)) n
low_step land rest p q d k m n step sum low =
    lower (least_of (map (by_direction land rest p) directions)) (k + low.cost) n (omega (arith, sum, low.low))
    (least_low (by_direction land rest p) directions None d (k + low.cost) (has_eight d step.direction)
    (direction_cost land rest p q d k low.cost step low.is))

pub found_low :
    (land : Land) (steps : ℕ) (p : CPos) (cells : List CPos) (m : ℕ) → IsWalk land p cells m → length cells ≤ steps →
    IsLow (least_within land steps p) m
found_low land zero p [] m walk short = low_here None m (same_cell p land.goal) ((cell_decides p land.goal).1 walk.0)
found_low land zero p (q ∷ cells) m walk short = absurd (omega arith)
found_low land (suc more) p [] m walk short =
    low_here (least_of (map (by_direction land (least_within land more) p) directions)) m (same_cell p land.goal) ((cell_decides p land.goal).1 walk.0)
found_low land (suc more) p (q ∷ cells) m walk short =
    low_later (least_of (map (by_direction land (least_within land more) p) directions)) m (same_cell p land.goal)
    (low_step land (least_within land more) p q walk.0 walk.1 walk.2 m walk.3 walk.4 (found_low land more q cells walk.2 walk.5 (omega arith)))

-- ---- the distance

pub distance_found :
    (land : Land) (steps : ℕ) (p : CPos) (n : ℕ) (cells : List CPos) → IsDistance land p n → IsWalk land p cells n → length cells ≤ steps →
    least_within land steps p ≡ Some n
distance_found land steps p n cells distance walk short =
    let low : IsLow (least_within land steps p) n = found_low land steps p cells n walk short in
    let way : IsWalked land p low.cost = walked land steps p low.cost low.is in
    let least : n ≤ low.cost = distance.least way.cells low.cost way.walk in
    low.is ∙ ap Some (omega (arith, least, low.low))

none_found : (land : Land) (steps : ℕ) (p : CPos) (found : Option ℕ) → HasNoWalk land p → least_within land steps p ≡ found → found ≡ None
none_found land steps p None none is = refl
none_found land steps p (Some n) none is =
    let way : IsWalked land p n = walked land steps p n is in absurd (none.none way.cells n way.walk)

pub no_distance : (land : Land) (steps : ℕ) (p : CPos) → HasNoWalk land p → least_within land steps p ≡ None
no_distance land steps p none = none_found land steps p (least_within land steps p) none refl
