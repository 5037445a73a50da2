-- What a cell's and a ring's expansion has done so far.
use Rattle.std.proofs.Common.{◌≡◌, ℕ, ◌+◌, ◌*◌, ◌%◌, ◌<◌, ◌≤◌, inl, inr, Some, refl, ap, sym, ◌∙◌, arith, subst}
use Rattle.std.proofs.lemmas.Bool.{cases_eq}
use Rattle.world_units.specs.declared.cell.CPos.{CPos}
use Rattle.world_units.specs.Directions.{opposite_of, step_of}
use Rattle.game_model.specs.Grid.{Grid, IsOn}
use Rattle.game_model.specs.Walks.{IsStep}
use Rattle.grid_routes.specs.EntryCosts.{Ground, entry_cost_in}
use Rattle.grid_routes.specs.Labels.{Distances, IsFull, label_of}
use Rattle.grid_routes.specs.Held.{Shelves, IsAt, IsWhole}
use Rattle.grid_routes.specs.Reach.{IsReached}
use Rattle.grid_routes.specs.Steps.{Lowers, IsExpanded, IsOffered}
use Rattle.grid_routes.proofs.Directions.{step-back, opposite-back, opposite-low}
use Rattle.grid_routes.proofs.Lowering.{lowers-refl, lowers-trans, falls, level-stays, expanded-stays}
use Rattle.grid_routes.proofs.Shelves.{only-one}
use Rattle.grid_routes.proofs.StepCostLemmas.{step_cost-zero}

-- The sizes stay.
pub full-stays :
    (entry_cost : CPos → ℕ) (level : ℕ) (old : Grid ℕ) (before : Shelves) (new : Grid ℕ) (after : Shelves) →
    Lowers entry_cost level old before new after → IsFull old → IsFull new
full-stays entry_cost level old before new after low full =
    let wide : new.width ≡ old.width = low.size.width in
    let high : new.height ≡ old.height = low.size.height in
    record {
      size = low.cells ∙ full.size ∙ ap (λ n. n * old.height) (sym wide) ∙ ap (λ n. new.width * n) (sym high);
      wide = rw wide full.wide;
      high = rw high full.high;
    }

-- The neighbours in directions below d were offered their walk over q.
pub record Offered (entry_cost : CPos → ℕ) (field : Distances) (shelves : Shelves) (field' : Distances) (shelves' : Shelves) (q : CPos) (level d : ℕ) : Type 0 where
  pub same : field' ≡ record field { labels = field'.labels }
  pub lowers : Lowers entry_cost level field.labels shelves field'.labels shelves'
  pub done :
      (e : ℕ) (p : CPos) (k : ℕ) → e < d → step_of q e ≡ Some p → IsOn field.labels.width field.labels.height p →
      IsStep entry_cost p (opposite_of e) q k → label_of field'.labels p ≤ level + k

pub offered-none :
    (entry_cost : CPos → ℕ) (field : Distances) (shelves : Shelves) (q : CPos) (level : ℕ) →
    Offered entry_cost field shelves field shelves q level 0
offered-none entry_cost field shelves q level = record {
  same = refl;
  lowers = lowers-refl entry_cost level field.labels shelves;
  done = λ e p k below there on step. absurd (omega arith);
}

pub offered-step :
    (entry_cost : CPos → ℕ) (field : Distances) (shelves : Shelves) (field' : Distances) (shelves' : Shelves)
    (q : CPos) (level d : ℕ) (field'' : Distances) (shelves'' : Shelves) →
    Offered entry_cost field shelves field' shelves' q level d →
    IsOffered entry_cost q d level field' shelves' field'' shelves'' →
    Offered entry_cost field shelves field'' shelves'' q level (d + 1)
offered-step entry_cost field shelves field' shelves' q level d field'' shelves'' so_far one =
    let wide : field'.labels.width ≡ field.labels.width = so_far.lowers.size.width in
    let high : field'.labels.height ≡ field.labels.height = so_far.lowers.size.height in
    record {
      same = one.same ∙ ap (λ (f : Distances). record f { labels = field''.labels }) so_far.same;
      lowers = lowers-trans entry_cost level field.labels shelves field'.labels shelves' field''.labels shelves'' so_far.lowers one.lowers;
      done = λ e p k below there on step.
          elim (cases_eq e d) [
            | inl same ↦
                one.done p k (ap (λ j. step_of q j) (sym same) ∙ there)
                (record { column = rw wide on.column; row = rw high on.row })
                (subst (λ (j : ℕ). IsStep entry_cost p (opposite_of j) q k) same step)
            | inr other ↦
                let before = so_far.done e p k (omega arith) there on step in
                let fell = falls entry_cost level field'.labels shelves' field''.labels shelves'' one.lowers p in
                omega (arith, before, fell)
          ];
    }

-- All neighbours were offered their walk.
pub offered-all :
    (entry_cost : CPos → ℕ) (field : Distances) (shelves : Shelves) (field' : Distances) (shelves' : Shelves)
    (q : CPos) (level : ℕ) → IsFull field.labels →
    Offered entry_cost field shelves field' shelves' q level 8 →
    IsExpanded entry_cost field'.labels level q
offered-all entry_cost field shelves field' shelves' q level full so_far = λ p e k on step.
    let wide : field'.labels.width ≡ field.labels.width = so_far.lowers.size.width in
    let high : field'.labels.height ≡ field.labels.height = so_far.lowers.size.height in
    let column : p.x < field.labels.width = rw wide at on.column in
    let row : p.y < field.labels.height = rw high at on.row in
    let small : p.x < 256 = omega (arith, full.wide) in
    let short : p.y < 256 = omega (arith, full.high) in
    so_far.done (opposite_of e) p k (opposite-low e)
    (step-back p q e small short step.direction step.enters)
    (record { column = column; row = row })
    (subst (λ (j : ℕ). IsStep entry_cost p j q k) (sym (opposite-back e step.direction)) step)

-- The offers to the eight neighbours, one after the other.
pub offered-eight :
    (entry_cost : CPos → ℕ) (q : CPos) (level : ℕ)
    (f0 f1 f2 f3 f4 f5 f6 f7 f8 : Distances) (s0 s1 s2 s3 s4 s5 s6 s7 s8 : Shelves) →
    IsOffered entry_cost q 0 level f0 s0 f1 s1 → IsOffered entry_cost q 1 level f1 s1 f2 s2 →
    IsOffered entry_cost q 2 level f2 s2 f3 s3 → IsOffered entry_cost q 3 level f3 s3 f4 s4 →
    IsOffered entry_cost q 4 level f4 s4 f5 s5 → IsOffered entry_cost q 5 level f5 s5 f6 s6 →
    IsOffered entry_cost q 6 level f6 s6 f7 s7 → IsOffered entry_cost q 7 level f7 s7 f8 s8 →
    Offered entry_cost f0 s0 f8 s8 q level 8
offered-eight entry_cost q level f0 f1 f2 f3 f4 f5 f6 f7 f8 s0 s1 s2 s3 s4 s5 s6 s7 s8 a b c d e f g h =
    let none : Offered entry_cost f0 s0 f0 s0 q level 0 = offered-none entry_cost f0 s0 q level in
    let one : Offered entry_cost f0 s0 f1 s1 q level 1 = offered-step entry_cost f0 s0 f0 s0 q level 0 f1 s1 none a in
    let two : Offered entry_cost f0 s0 f2 s2 q level 2 = offered-step entry_cost f0 s0 f1 s1 q level 1 f2 s2 one b in
    let three : Offered entry_cost f0 s0 f3 s3 q level 3 = offered-step entry_cost f0 s0 f2 s2 q level 2 f3 s3 two c in
    let four : Offered entry_cost f0 s0 f4 s4 q level 4 = offered-step entry_cost f0 s0 f3 s3 q level 3 f4 s4 three d in
    let five : Offered entry_cost f0 s0 f5 s5 q level 5 = offered-step entry_cost f0 s0 f4 s4 q level 4 f5 s5 four e in
    let six : Offered entry_cost f0 s0 f6 s6 q level 6 = offered-step entry_cost f0 s0 f5 s5 q level 5 f6 s6 five f in
    let seven : Offered entry_cost f0 s0 f7 s7 q level 7 = offered-step entry_cost f0 s0 f6 s6 q level 6 f7 s7 six g in
    offered-step entry_cost f0 s0 f7 s7 q level 7 f8 s8 seven h

-- A cell that can't be entered has nothing to offer.
pub expanded-free :
    (entry_cost : CPos → ℕ) (labels : Grid ℕ) (level : ℕ) (q : CPos) → entry_cost q ≡ 0 →
    IsExpanded entry_cost labels level q
expanded-free entry_cost labels level q free = λ p d k on step.
    absurd (omega (arith, step_cost-zero entry_cost p d q free, step.cost, step.allowed))

-- The cells in the first places of the level's bucket are expanded.
pub record Ringed (entry_costs : Ground) (field : Distances) (shelves : Shelves) (entry_costs' : Ground) (field' : Distances) (shelves' : Shelves) (level i : ℕ) : Type 0 where
  pub same_entry_costs : entry_costs' ≡ entry_costs
  pub same : field' ≡ record field { labels = field'.labels }
  pub lowers : Lowers (entry_cost_in entry_costs) level field.labels shelves field'.labels shelves'
  pub done :
      (j : ℕ) (q : CPos) → j < i → IsAt shelves (level % 71) j q → label_of field.labels q ≡ level →
      IsReached field.reach q level → IsExpanded (entry_cost_in entry_costs) field'.labels level q

pub ringed-none :
    (entry_costs : Ground) (field : Distances) (shelves : Shelves) (level : ℕ) →
    Ringed entry_costs field shelves entry_costs field shelves level 0
ringed-none entry_costs field shelves level = record {
  same_entry_costs = refl;
  same = refl;
  lowers = lowers-refl (entry_cost_in entry_costs) level field.labels shelves;
  done = λ j q below at label reached. absurd (omega arith);
}

module _ (entry_costs : Ground) (field : Distances) (shelves : Shelves) (entry_costs' : Ground) (field' : Distances) (shelves' : Shelves) (level i : ℕ) (c : CPos) (so_far : Ringed entry_costs field shelves entry_costs' field' shelves' level i) (whole : IsWhole shelves') (at : IsAt shelves' (level % 71) i c) where
  there : (q : CPos) → IsAt shelves (level % 71) i q → q ≡ c
  there q here =
      let low : level % 71 < 71 = omega arith in
      only-one shelves' (level % 71) i q c whole low (so_far.lowers.kept (level % 71) i q here) at

  pub ringed-skip : (label_of field'.labels c ≡ level → IsReached field.reach c level → IsExpanded (entry_cost_in entry_costs') field'.labels level c) → Ringed entry_costs field shelves entry_costs' field' shelves' level (i + 1)
  ringed-skip expanded = record {
    same_entry_costs = so_far.same_entry_costs;
    same = so_far.same;
    lowers = so_far.lowers;
    done = λ j q below here label reached.
        elim (cases_eq j i) [
          | inl same ↦
              let one = there q (subst (λ (n : ℕ). IsAt shelves (level % 71) n q) same here) in
              let stays = level-stays (entry_cost_in entry_costs) level field.labels shelves field'.labels shelves' so_far.lowers q (omega (arith, label)) in
              let here_done = expanded (ap (λ x. label_of field'.labels x) (sym one) ∙ stays ∙ label)
              (subst (λ (x : CPos). IsReached field.reach x level) one reached) in
              subst (λ (x : CPos). IsExpanded (entry_cost_in entry_costs) field'.labels level x) (sym one)
              (subst (λ (t : CPos → ℕ). IsExpanded t field'.labels level c) (ap entry_cost_in so_far.same_entry_costs) here_done)
          | inr less ↦ so_far.done j q (omega arith) here label reached
        ];
  }

  pub ringed-step :
      (entry_costs'' : Ground) (field'' : Distances) (shelves'' : Shelves) →
      entry_costs'' ≡ entry_costs' → field'' ≡ record field' { labels = field''.labels } →
      Lowers (entry_cost_in entry_costs') level field'.labels shelves' field''.labels shelves'' →
      IsExpanded (entry_cost_in entry_costs') field''.labels level c →
      Ringed entry_costs field shelves entry_costs'' field'' shelves'' level (i + 1)
  ringed-step entry_costs'' field'' shelves'' entry_costs_stay stays low done =
      let entry_cost : entry_cost_in entry_costs' ≡ entry_cost_in entry_costs = ap entry_cost_in so_far.same_entry_costs in
      let lower : Lowers (entry_cost_in entry_costs) level field'.labels shelves' field''.labels shelves'' =
      subst (λ (t : CPos → ℕ). Lowers t level field'.labels shelves' field''.labels shelves'') entry_cost low in
      let here_done : IsExpanded (entry_cost_in entry_costs) field''.labels level c =
      subst (λ (t : CPos → ℕ). IsExpanded t field''.labels level c) entry_cost done in
      record {
        same_entry_costs = entry_costs_stay ∙ so_far.same_entry_costs;
        same = stays ∙ ap (λ (f : Distances). record f { labels = field''.labels }) so_far.same;
        lowers = lowers-trans (entry_cost_in entry_costs) level field.labels shelves field'.labels shelves' field''.labels shelves'' so_far.lowers lower;
        done = λ j q below here label reached.
            elim (cases_eq j i) [
              | inl same ↦
                  let one = there q (subst (λ (n : ℕ). IsAt shelves (level % 71) n q) same here) in
                  subst (λ (x : CPos). IsExpanded (entry_cost_in entry_costs) field''.labels level x) (sym one) here_done
              | inr less ↦
                  expanded-stays (entry_cost_in entry_costs) level field'.labels shelves' field''.labels shelves'' lower q
                  (so_far.done j q (omega arith) here label reached)
            ];
      }
