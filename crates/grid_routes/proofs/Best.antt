-- What final labels say: the distance, and the direction to take.
use Rattle.std.proofs.Common.{◌≡◌, ℕ, ◌+◌, ◌<◌, ◌≤◌, ◌⊎◌, inl, inr, length, List, [], ◌∷◌, Option, Some, None, MatchOption, ap, ◌∙◌, arith, subst}
use Rattle.std.proofs.lemmas.Bool.{cases_lt}
use Rattle.std.proofs.lemmas.Nat.{mul-lt}
use Rattle.world_units.specs.declared.cell.CPos.{CPos}
use Rattle.world_units.specs.Directions.{step_of}
use Rattle.game_model.specs.Grid.{IsOn}
use Rattle.grid_routes.specs.declared.field.TheConstants.{NONE}
use Rattle.game_model.specs.Walks.{Land, IsStep, IsWalk, IsDistance, HasNoWalk, LeadsOn, IsBest, IsBestDirection}
use Rattle.grid_routes.specs.Labels.{Distances, IsFinalLabel, label_of}
use Rattle.grid_routes.specs.Reach.{IsReached}
use Rattle.grid_routes.specs.Held.{Shelves}
use Rattle.grid_routes.specs.Steps.{IsSearch, IsLead, IsLeastLead}
use Rattle.grid_routes.proofs.Reaching.{reached-all, reached-below, reached-on}
use Rattle.grid_routes.proofs.StepCostLemmas.{step-on}

module _ (land : Land) (f : Distances) (s : Shelves) (search : IsSearch land f s) where
  -- No walk within reach costs less than the label or the level.
  pub at-least :
      (cells : List CPos) (p : CPos) (m : ℕ) → IsOn f.labels.width f.labels.height p → IsWalk land p cells m →
      IsReached f.reach p m → (label_of f.labels p ≤ m) ⊎ (f.level ≤ m)
  at-least [] p m on walk reached =
      inl (let goal = ap (λ c. label_of f.labels c) walk.0 ∙ search.right.goal in omega (arith, goal))
  at-least (q ∷ cells) p m on walk reached =
      let step = walk.3 in
      let sum = walk.4 in
      let there = step-on land.entry_cost f.labels.width f.labels.height search.fair p q walk.0 walk.1 step in
      let left = reached-on land.entry_cost f.reach p q walk.0 walk.1 m walk.2 step (omega (arith, sum)) reached in
      elim (at-least cells q walk.2 there walk.5 left) [
        | inl least ↦ elim (cases_lt (label_of f.labels q) f.level) [
          | inl low ↦
              let most = search.right.closed p q walk.0 walk.1 on step low (reached-below f.reach q (label_of f.labels q) walk.2 least left) in
              inl (omega (arith, most, sum, least))
          | inr high ↦ inr (omega (arith, sum, least))
        ]
        | inr least ↦ inr (omega (arith, sum, least))
      ]

  few : length f.labels.cells < 65536
  few = omega (arith, search.full.size, mul-lt f.labels.width f.labels.height 256 256 search.full.wide search.full.high)

  -- In a search over all cells that ran dry each cell with a walk has a label.
  labelled :
      (cells : List CPos) (p : CPos) (m : ℕ) → NONE ≤ f.level → f.reach ≡ None → IsOn f.labels.width f.labels.height p →
      IsWalk land p cells m → label_of f.labels p < NONE
  labelled [] p m end all on walk =
      let goal = ap (λ c. label_of f.labels c) walk.0 ∙ search.right.goal in omega (arith, goal)
  labelled (q ∷ cells) p m end all on walk =
      let step = walk.3 in
      let there = step-on land.entry_cost f.labels.width f.labels.height search.fair p q walk.0 walk.1 step in
      let less = labelled cells q walk.2 end all there walk.5 in
      let most = search.right.closed p q walk.0 walk.1 on step (omega (arith, less)) (reached-all f.reach q (label_of f.labels q) all) in
      let small = search.right.small q less in
      let cheap = search.fair.cheap p q walk.0 walk.1 step in
      omega (arith, most, small, cheap, few)

  -- A final label is the distance.
  pub distance :
      (p : CPos) → IsOn f.labels.width f.labels.height p → IsFinalLabel f p → label_of f.labels p < NONE →
      IsDistance land p (label_of f.labels p)
  distance p on final less = record {
    walk = search.right.walks p less;
    least = λ cells m walk.
        elim (cases_lt m (label_of f.labels p)) [
          | inl below ↦
              let reached = reached-below f.reach p m (label_of f.labels p) (omega arith) final.reached in
              elim (at-least cells p m on walk reached) [ inl least ↦ least | inr least ↦ omega (arith, final.low) ]
          | inr above ↦ above
        ];
  }

  -- The distance is the label, where it is below the level and within reach.
  label-is :
      (p : CPos) (n : ℕ) → IsOn f.labels.width f.labels.height p → IsDistance land p n → n < f.level → n < NONE →
      IsReached f.reach p n → label_of f.labels p ≡ n
  label-is p n on is low less reached =
      let most : label_of f.labels p ≤ n = elim (at-least is.walk.0 p n on is.walk.1 reached) [ inl least ↦ least | inr least ↦ absurd (omega arith) ] in
      let some = search.right.walks p (omega arith) in
      let least = is.least some.0 (label_of f.labels p) some.1 in
      omega arith

  module _ (p : CPos) (on : IsOn f.labels.width f.labels.height p) (final : IsFinalLabel f p) (less : label_of f.labels p < NONE) where
    here : IsDistance land p (label_of f.labels p)
    here = distance p on final less

    -- The label of a cell that a step leads to is final as well.
    pub entered-final :
        (q : CPos) (d k : ℕ) → IsStep land.entry_cost p d q k → label_of f.labels q + k ≡ label_of f.labels p → IsFinalLabel f q
    entered-final q d k step sum = record {
      low = omega (arith, sum, final.low);
      reached = reached-on land.entry_cost f.reach p q d k (label_of f.labels p) (label_of f.labels q) step (omega (arith, sum)) final.reached;
      everywhere = λ end. absurd (omega (arith, sum));
    }

    leads-on : (d : ℕ) → IsLead land.entry_cost f.labels p (label_of f.labels p) d → LeadsOn land p d
    leads-on d lead =
        let there = step-on land.entry_cost f.labels.width f.labels.height search.fair p lead.entered d lead.cost lead.step in
        let allowed = lead.step.allowed in
        record {
          entered = lead.entered;
          cost = lead.cost;
          left = label_of f.labels lead.entered;
          step = lead.step;
          here = subst (λ (n : ℕ). IsDistance land p n) (omega (arith, lead.label)) here;
          there = distance lead.entered there (entered-final lead.entered d lead.cost lead.step lead.label) (omega (arith, lead.label));
        }

    lead-of : (d : ℕ) → LeadsOn land p d → IsLead land.entry_cost f.labels p (label_of f.labels p) d
    lead-of d leads =
        let there = step-on land.entry_cost f.labels.width f.labels.height search.fair p leads.entered d leads.cost leads.step in
        let mine = here.walk in
        let a = here.least leads.here.walk.0 (leads.cost + leads.left) leads.here.walk.1 in
        let b = leads.here.least mine.0 (label_of f.labels p) mine.1 in
        let allowed = leads.step.allowed in
        let reached = reached-on land.entry_cost f.reach p leads.entered d leads.cost (label_of f.labels p) leads.left leads.step (omega arith) final.reached in
        let same = label-is leads.entered leads.left there leads.there (omega (arith, final.low)) (omega arith) reached in
        record {
          entered = leads.entered;
          cost = leads.cost;
          step = leads.step;
          label = omega (arith, same, a, b);
        }

    -- The least direction to a label that is less by the step's cost is the best direction.
    pub best-is : (d : ℕ) → IsLeastLead land.entry_cost f.labels p (label_of f.labels p) d → IsBest land p d
    best-is d least = record {
      leads = leads-on d least.leads;
      least = λ e leads. least.least e (lead-of e leads);
    }

    -- Where no direction leads on the cell is the goal.
    no-lead :
        (cells : List CPos) → IsWalk land p cells (label_of f.labels p) →
        ((d : ℕ) → IsLead land.entry_cost f.labels p (label_of f.labels p) d → ⊥) → p ≡ land.goal
    no-lead [] walk none = walk.0
    no-lead (q ∷ cells) walk none =
        let step = walk.3 in
        let there = step-on land.entry_cost f.labels.width f.labels.height search.fair p q walk.0 walk.1 step in
        let allowed = step.allowed in
        let sum = walk.4 in
        let left = reached-on land.entry_cost f.reach p q walk.0 walk.1 (label_of f.labels p) walk.2 step (omega (arith, sum)) final.reached in
        let least : label_of f.labels q ≤ walk.2 = elim (at-least cells q walk.2 there walk.5 left) [ inl least ↦ least | inr least ↦ absurd (omega (arith, sum, final.low)) ] in
        let most = search.right.closed p q walk.0 walk.1 on step (omega (arith, sum, least, final.low)) (reached-below f.reach q (label_of f.labels q) walk.2 least left) in
        absurd (none walk.0 (record { entered = q; cost = walk.1; step = step; label = omega (arith, sum, least, most) }))

    pub no-lead-goal : ((d : ℕ) → IsLead land.entry_cost f.labels p (label_of f.labels p) d → ⊥) → p ≡ land.goal
    no-lead-goal none = let some = search.right.walks p less in no-lead some.0 some.1 none

  -- Where there is no label in the end there is no walk.
  pub no-walk :
      (p : CPos) → IsOn f.labels.width f.labels.height p → IsFinalLabel f p → NONE ≤ label_of f.labels p →
      HasNoWalk land p
  no-walk p on final end = record {
    none = λ cells m walk.
        let less = labelled cells p m (omega (arith, final.low)) (final.everywhere end) on walk in absurd (omega arith);
  }

-- What the search for a direction gives is the best direction.
pub best-direction :
    (land : Land) (f : Distances) (s : Shelves) → IsSearch land f s → (p : CPos) (n : ℕ) →
    IsOn f.labels.width f.labels.height p → IsFinalLabel f p → n < NONE → n ≡ label_of f.labels p →
    (answer : Option ℕ) →
    MatchOption answer ((d : ℕ) → IsLead land.entry_cost f.labels p n d → ⊥) (λ d. IsLeastLead land.entry_cost f.labels p n d) →
    IsBestDirection land p answer
best-direction land f s search p n on final less is (Some d) least =
    best-is land f s search p on final (omega arith) d (subst (λ (m : ℕ). IsLeastLead land.entry_cost f.labels p m d) is least)
best-direction land f s search p n on final less is None none =
    inl (no-lead-goal land f s search p on final (omega arith)
    (subst (λ (m : ℕ). (d : ℕ) → IsLead land.entry_cost f.labels p m d → ⊥) is none))

pub no-direction :
    (land : Land) (f : Distances) (s : Shelves) → IsSearch land f s → (p : CPos) (n : ℕ) →
    IsOn f.labels.width f.labels.height p → IsFinalLabel f p → n ≡ NONE → n ≡ label_of f.labels p →
    (p ≡ land.goal) ⊎ HasNoWalk land p
no-direction land f s search p n on final end is = inr (no-walk land f s search p on final (omega arith))

-- The cell that the best step enters is on the map,
pub next-on :
    (land : Land) (f : Distances) (s : Shelves) → IsSearch land f s → (p q : CPos) (d : ℕ) →
    IsBest land p d → Some q ≡ step_of p d → IsOn f.labels.width f.labels.height q
next-on land f s search p q d best there =
    let leads = best.leads in
    let e : Some q ≡ Some leads.entered = there ∙ leads.step.enters in
    let one : leads.entered ≡ q = cc in
    subst (λ (x : CPos). IsOn f.labels.width f.labels.height x) one
    (step-on land.entry_cost f.labels.width f.labels.height search.fair p leads.entered d leads.cost leads.step)

-- and its label is final, as that of the cell before it.
pub next-final :
    (land : Land) (f : Distances) (s : Shelves) → IsSearch land f s → (p q : CPos) (d : ℕ) →
    IsOn f.labels.width f.labels.height p → IsFinalLabel f p → IsBest land p d → Some q ≡ step_of p d → IsFinalLabel f q
next-final land f s search p q d on final best there =
    let here = best.leads.here in
    let less : label_of f.labels p < NONE = elim (cases_lt (label_of f.labels p) NONE) [
      | inl low ↦ low
      | inr end ↦ absurd ((no-walk land f s search p on final end).none here.walk.0 (best.leads.cost + best.leads.left) here.walk.1)
    ] in
    let lead = lead-of land f s search p on final less d best.leads in
    let e : Some q ≡ Some lead.entered = there ∙ lead.step.enters in
    let one : lead.entered ≡ q = cc in
    subst (λ (x : CPos). IsFinalLabel f x) one
    (entered-final land f s search p on final less lead.entered d lead.cost lead.step lead.label)
