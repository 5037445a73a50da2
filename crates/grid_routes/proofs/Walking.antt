-- A route that follows the best directions, cell by cell.
use Rattle.std.proofs.Common.{◌≡◌, ◌≢◌, ℕ, suc, ◌+◌, ◌*◌, ◌<◌, ◌≤◌, length, List, [], ◌∷◌, ◌++◌, Some, refl, ap, sym, ◌∙◌, arith, subst, append_assoc, append-nil, length-append}
use Rattle.world_units.specs.declared.cell.CPos.{CPos}
use Rattle.world_units.specs.Directions.{step_of}
use Rattle.game_model.specs.Grid.{IsOn}
use Rattle.grid_routes.specs.declared.field.TheConstants.{NONE}
use Rattle.game_model.specs.Walks.{Land, IsStep, IsWalk, IsRouteOver, FollowsBest}
use Rattle.grid_routes.specs.Labels.{Distances, IsFinalLabel, label_of}
use Rattle.grid_routes.specs.Held.{Shelves}
use Rattle.grid_routes.specs.Steps.{IsSearch, IsLead, IsLeastLead, IsOnward}
use Rattle.grid_routes.proofs.Best.{best-is, distance, entered-final, no-lead-goal}
use Rattle.grid_routes.proofs.Shortest.{walk-fits}
use Rattle.grid_routes.proofs.StepCostLemmas.{step-on}

no-cost : (land : Land) (cells : List CPos) (p : CPos) (n : ℕ) → n ≡ 0 → IsWalk land p cells n → p ≡ land.goal
no-cost land [] p n none walk = walk.0
no-cost land (q ∷ cells) p n none walk = let allowed = walk.3.allowed in let sum = walk.4 in absurd (omega (arith, sum, allowed))

-- Only the goal has no distance.
pub zero-goal : (land : Land) (f : Distances) (s : Shelves) → IsSearch land f s → (p : CPos) → label_of f.labels p ≡ 0 → p ≡ land.goal
zero-goal land f s search p none =
    let some = search.right.walks p (omega arith) in
    no-cost land some.0 p (label_of f.labels p) none some.1

-- A cell with a distance above 0 isn't the goal.
pub away :
    (land : Land) (f : Distances) (s : Shelves) → IsSearch land f s → (p : CPos) (cost : ℕ) →
    cost ≡ label_of f.labels p → (cost ≡ 0 → ⊥) → p ≢ land.goal
away land f s search p cost is some = λ (there : p ≡ land.goal).
    some (is ∙ ap (λ c. label_of f.labels c) there ∙ search.right.goal)

pub onward :
    (land : Land) (f : Distances) (s : Shelves) → IsSearch land f s → (p q : CPos) (d n : ℕ) →
    IsOn f.labels.width f.labels.height p → IsFinalLabel f p → label_of f.labels p < NONE →
    n ≡ label_of f.labels p → IsLeastLead land.entry_cost f.labels p n d → Some q ≡ step_of p d → IsOnward land f.labels p q
onward land f s search p q d n on final less is least there =
    let least_here = subst (λ (m : ℕ). IsLeastLead land.entry_cost f.labels p m d) is least in
    let lead = least_here.leads in
    let e : Some q ≡ Some lead.entered = there ∙ lead.step.enters in
    let one : lead.entered ≡ q = cc in
    record {
      direction = d;
      cost = lead.cost;
      step = subst (λ (x : CPos). IsStep land.entry_cost p d x lead.cost) one lead.step;
      best = best-is land f s search p on final less d least_here;
      label = ap (λ x. label_of f.labels x + lead.cost) (sym one) ∙ lead.label;
    }

pub leads-somewhere :
    (land : Land) (f : Distances) (s : Shelves) → IsSearch land f s → (p : CPos) (n : ℕ) →
    IsOn f.labels.width f.labels.height p → IsFinalLabel f p → label_of f.labels p < NONE →
    0 < label_of f.labels p → n ≡ label_of f.labels p → ((d : ℕ) → IsLead land.entry_cost f.labels p n d → ⊥) → ⊥
leads-somewhere land f s search p n on final less away is none =
    let none_here = subst (λ (m : ℕ). (d : ℕ) → IsLead land.entry_cost f.labels p m d → ⊥) is none in
    let there = no-lead-goal land f s search p on final less none_here in
    let zero_there = ap (λ c. label_of f.labels c) there ∙ search.right.goal in
    omega (arith, zero_there)

-- The cells so far: any walk from the last of them goes on from the first.
pub record RouteSoFar (land : Land) (f : Distances) (from at : CPos) (cells : List CPos) : Type 0 where
  pub passed : List CPos
  pub spent : ℕ
  pub all : cells ≡ from ∷ passed
  pub sum : spent + label_of f.labels at ≡ label_of f.labels from
  pub on : IsOn f.labels.width f.labels.height at
  pub final : IsFinalLabel f at
  pub walks :
      (others : List CPos) (m n : ℕ) → n ≡ spent + m → IsWalk land at others m → IsWalk land from (passed ++ others) n
  pub best : (others : List CPos) → FollowsBest land at others → FollowsBest land from (passed ++ others)

pub route-first :
    (land : Land) (f : Distances) (from : CPos) (cells : List CPos) → cells ≡ from ∷ [] →
    IsOn f.labels.width f.labels.height from → IsFinalLabel f from → RouteSoFar land f from from cells
route-first land f from cells all on final = record {
  passed = [];
  spent = 0;
  all = all;
  sum = omega arith;
  on = on;
  final = final;
  walks = λ others m n is walk. subst (λ (k : ℕ). IsWalk land from others k) (omega (arith, is)) walk;
  best = λ others best. best;
}

pub route-step :
    (land : Land) (f : Distances) (s : Shelves) → IsSearch land f s → (from at q : CPos) (cells cells' : List CPos) →
    label_of f.labels from < NONE → RouteSoFar land f from at cells → IsOnward land f.labels at q → cells' ≡ cells ++ q ∷ [] →
    RouteSoFar land f from q cells'
route-step land f s search from at q cells cells' less so_far onward more = record {
  passed = so_far.passed ++ q ∷ [];
  spent = so_far.spent + onward.cost;
  all = more ∙ ap (λ xs. xs ++ q ∷ []) so_far.all;
  sum = omega (arith, so_far.sum, onward.label);
  on = step-on land.entry_cost f.labels.width f.labels.height search.fair at q onward.direction onward.cost onward.step;
  final = entered-final land f s search at so_far.on so_far.final (omega (arith, so_far.sum, less)) q onward.direction onward.cost onward.step onward.label;
  walks = λ others m n is walk.
      rw (append_assoc so_far.passed (q ∷ []) others)
      (so_far.walks (q ∷ others) (onward.cost + m) n (omega (arith, is))
      (onward.direction, onward.cost, m, onward.step, refl, walk));
  best = λ others best.
      rw (append_assoc so_far.passed (q ∷ []) others)
      (so_far.best (q ∷ others) (onward.direction, onward.best, onward.step.enters, best));
}

pub route-end :
    (land : Land) (f : Distances) (s : Shelves) → IsSearch land f s → (from at : CPos) (cells : List CPos) (cost : ℕ) →
    RouteSoFar land f from at cells → IsOn f.labels.width f.labels.height from →
    IsFinalLabel f from → label_of f.labels from < NONE → cost ≡ label_of f.labels from →
    label_of f.labels at ≤ 0 → IsRouteOver land from cost cells
route-end land f s search from at cells cost so_far on final less is none =
    let there = zero-goal land f s search at (omega (arith, none)) in
    let walk = so_far.walks [] 0 cost (omega (arith, so_far.sum, is, none)) (there, refl) in
    let short = append-nil so_far.passed in
    record {
      entered = so_far.passed;
      all = so_far.all;
      walk = subst (λ (xs : List CPos). IsWalk land from xs cost) short walk;
      best = subst (λ (xs : List CPos). FollowsBest land from xs) short (so_far.best [] there);
      least = λ other m walk.
          let least = (distance land f s search from on final less).least other m walk in omega (arith, least, is);
    }

-- A walk that goes on has a cell.
goes-on : (land : Land) (cells : List CPos) (p : CPos) (n : ℕ) → 0 < n → IsWalk land p cells n → 0 < length cells
goes-on land [] p n some walk = let none : n ≡ 0 = walk.1 in absurd (omega (arith, none))
goes-on land (q ∷ cells) p n some walk = omega arith

-- Up to the goal there is room for one cell more among as many as the map has.
pub route-fits :
    (land : Land) (f : Distances) (s : Shelves) → IsSearch land f s → (from at : CPos) (cells : List CPos) →
    RouteSoFar land f from at cells → IsOn f.labels.width f.labels.height from →
    IsFinalLabel f from → label_of f.labels from < NONE → 0 < label_of f.labels at →
    length cells < f.labels.width * f.labels.height
route-fits land f s search from at cells so_far on final less some =
    let others = search.right.walks at (omega (arith, so_far.sum)) in
    let more = goes-on land others.0 at (label_of f.labels at) some others.1 in
    let whole =
    so_far.walks others.0 (label_of f.labels at) (label_of f.labels from) (sym so_far.sum) others.1 in
    let fits =
    walk-fits land f.labels.width f.labels.height search.fair (so_far.passed ++ others.0) from (label_of f.labels from) on
    (distance land f s search from on final less) whole in
    let long = length-append so_far.passed others.0 in
    let all : length cells ≡ suc (length so_far.passed) = ap length so_far.all in
    omega (arith, fits, long, all, more)
