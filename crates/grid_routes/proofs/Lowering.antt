-- Labels that fall by steps into cells of one level.
use Rattle.std.proofs.Common.{◌≡◌, ◌≢◌, ◌&&◌, Bool, true, false, ℕ, ◌+◌, ◌%◌, ◌<◌, ◌≤◌, ◌⊎◌, inl, inr, not, nat_lt, Some, cond, length, List, set, get_or, refl, ap, sym, ◌∙◌, arith, subst, length-set}
use Rattle.std.proofs.lemmas.Bool.{cases_eq, ltb-true, ltb-false, true≢false, false≢true}
use Rattle.std.proofs.lemmas.List.{set-get_or}
use Rattle.std.proofs.lemmas.Bool.Decides.{nat_tests}
use Rattle.std.proofs.lemmas.List.Sums.{sum_by-set}
use Rattle.std.specs.List.{count_by}
use Rattle.world_units.specs.declared.cell.CPos.{CPos}
use Rattle.world_units.specs.Directions.{opposite_of, step_of}
use Rattle.game_model.specs.Grid.{Grid, IsOn, place_of, with_cell}
use Rattle.grid_routes.specs.declared.field.TheConstants.{NONE}
use Rattle.grid_routes.specs.Values.{value_in}
use Rattle.game_model.specs.Walks.{IsStep, step_cost_of}
use Rattle.grid_routes.specs.Labels.{Distances, IsFull, label_of, open_count}
use Rattle.grid_routes.specs.Held.{Shelves, HasRows, IsWhole, tried}
use Rattle.grid_routes.specs.StepCosts.{IsStepCostFrom}
use Rattle.grid_routes.specs.Steps.{IsMade, IsOffered, IsRelaxed, Lowers, IsExpanded}
use Rattle.grid_routes.proofs.Cells.{placed, set-here, set-other, is_on-true}
use Rattle.grid_routes.proofs.Shelves.{Puts, tried-kept, tried-puts, tried-stays}

-- Two cells are one or not.
pub one-or-not : (p q : CPos) → (p ≡ q) ⊎ (p ≢ q)
one-or-not p q =
    let made : ℕ → ℕ → CPos = λ x y. record { x = x; y = y } in
    elim (cases_eq p.x q.x) [
      | inl x ↦ elim (cases_eq p.y q.y) [
        | inl y ↦ inl (ap (λ n. made n p.y) x ∙ ap (λ n. made q.x n) y)
        | inr y ↦ inr (λ (same : p ≡ q). y (ap (λ c. c.y) same))
      ]
      | inr x ↦ inr (λ (same : p ≡ q). x (ap (λ c. c.x) same))
    ]

pub lowers-refl : (entry_cost : CPos → ℕ) (level : ℕ) (g : Grid ℕ) (s : Shelves) → Lowers entry_cost level g s g s
lowers-refl entry_cost level g s = record {
  size = record { width = refl; height = refl };
  cells = refl;
  each = λ p. inl refl;
  count = refl;
  kept = λ b i c at. at;
  row = refl;
  lost = λ h. h;
  room = refl;
}

-- What falls does not rise, and a label at the level stays.
pub falls : (entry_cost : CPos → ℕ) (level : ℕ) (old : Grid ℕ) (before : Shelves) (new : Grid ℕ) (after : Shelves) →
    Lowers entry_cost level old before new after → (p : CPos) → label_of new p ≤ label_of old p
falls entry_cost level old before new after low p =
    elim (low.each p) [ inl same ↦ omega arith | inr made ↦ omega (arith, made.label, made.lower) ]

pub level-stays : (entry_cost : CPos → ℕ) (level : ℕ) (old : Grid ℕ) (before : Shelves) (new : Grid ℕ) (after : Shelves) →
    Lowers entry_cost level old before new after → (p : CPos) → label_of old p ≤ level → label_of new p ≡ label_of old p
level-stays entry_cost level old before new after low p at =
    elim (low.each p) [ inl same ↦ same | inr made ↦ absurd (omega (arith, made.lower)) ]

-- A label at most the level was there before.
pub level-was : (entry_cost : CPos → ℕ) (level : ℕ) (old : Grid ℕ) (before : Shelves) (new : Grid ℕ) (after : Shelves) →
    Lowers entry_cost level old before new after → (p : CPos) → label_of new p ≤ level → label_of new p ≡ label_of old p
level-was entry_cost level old before new after low p at =
    elim (low.each p) [ inl same ↦ same | inr made ↦ absurd (omega (arith, made.label, made.step.allowed)) ]

pub lowers-trans :
    (entry_cost : CPos → ℕ) (level : ℕ) (a : Grid ℕ) (s : Shelves) (b : Grid ℕ) (t : Shelves) (c : Grid ℕ) (u : Shelves) →
    Lowers entry_cost level a s b t → Lowers entry_cost level b t c u → Lowers entry_cost level a s c u
lowers-trans entry_cost level a s b t c u first second =
    let wide : b.width ≡ a.width = first.size.width in
    let high : b.height ≡ a.height = first.size.height in
    record {
      size = record { width = second.size.width ∙ wide; height = second.size.height ∙ high };
      cells = second.cells ∙ first.cells;
      each = λ p. elim (second.each p) [
        | inl same ↦ elim (first.each p) [
          | inl before ↦ inl (same ∙ before)
          | inr made ↦ inr (record {
            entered = made.entered;
            direction = made.direction;
            cost = made.cost;
            on = made.on;
            step = made.step;
            cheap = made.cheap;
            from = made.from;
            label = same ∙ made.label;
            lower = made.lower;
            held = elim made.held [
              | inl lost ↦ inl (second.lost lost)
              | inr held ↦ inr (record { place = held.place; at = second.kept _ _ _ held.at })
            ];
          })
        ]
        | inr made ↦ inr (record {
          entered = made.entered;
          direction = made.direction;
          cost = made.cost;
          on = record { column = rw wide at made.on.column; row = rw high at made.on.row };
          step = made.step;
          cheap = made.cheap;
          from = sym (level-was entry_cost level a s b t first made.entered (omega (arith, made.from))) ∙ made.from;
          label = made.label;
          lower = let most = falls entry_cost level a s b t first p in omega (arith, made.lower, most);
          held = made.held;
        })
      ];
      count = second.count ∙ first.count;
      kept = λ j i q at. second.kept j i q (first.kept j i q at);
      row = second.row ∙ first.row;
      lost = λ h. second.lost (first.lost h);
      room = second.room ∙ first.room;
    }

-- A cell that was expanded stays so.
pub expanded-stays :
    (entry_cost : CPos → ℕ) (level : ℕ) (old : Grid ℕ) (before : Shelves) (new : Grid ℕ) (after : Shelves) →
    Lowers entry_cost level old before new after → (q : CPos) → IsExpanded entry_cost old level q → IsExpanded entry_cost new level q
expanded-stays entry_cost level old before new after low q done = λ p d k on step.
    let wide : new.width ≡ old.width = low.size.width in
    let high : new.height ≡ old.height = low.size.height in
    let here : IsOn old.width old.height p = record { column = rw wide at on.column; row = rw high at on.row } in
    let most = falls entry_cost level old before new after low p in
    let least = done p d k here step in
    omega (arith, most, least)

above : (bound x : ℕ) → bound ≤ x → ◌≡◌ {A = ℕ} (cond (not (nat_lt x bound)) 1 0) 1
above bound x high = grind (arith, nat_tests)

count-set :
    (bound : ℕ) (cells : List ℕ) (i v d : ℕ) → i < length cells → bound ≤ v → bound ≤ get_or cells i d →
    count_by (λ l. not (nat_lt l bound)) (set cells i v) ≡ count_by (λ l. not (nat_lt l bound)) cells
count-set bound cells i v d within new old =
    let sums = sum_by-set (λ l. cond (not (nat_lt l bound)) 1 0) cells i v d within in
    let one = above bound v new in
    let other = above bound (get_or cells i d) old in
    omega (arith, sums, one, other)

pub label-read : (g : Grid ℕ) (p : CPos) → IsOn g.width g.height p → label_of g p ≡ get_or g.cells (place_of g.width p) NONE
unfolding value_in
label-read g p on = rw (is_on-true g.width g.height p on) refl

count-with :
    (g : Grid ℕ) (p : CPos) (bound v : ℕ) → IsFull g → IsOn g.width g.height p → bound ≤ v → bound ≤ label_of g p →
    open_count bound (with_cell g p v) ≡ open_count bound g
unfolding open_count
count-with g p bound v full on new old =
    let within = placed g.width g.height p (length g.cells) full.size on in
    let read = label-read g p on in
    count-set bound g.cells (place_of g.width p) v NONE within new (rw read at old)

-- A cell that is offered a lower label.
pub relaxed :
    (entry_cost : CPos → ℕ) (level : ℕ) (g : Grid ℕ) (s t : Shelves) (p q : CPos) (d k : ℕ) →
    IsFull g → Puts s t ((level + k) % 71) p → IsOn g.width g.height p → IsStep entry_cost p d q k → k ≤ 70 →
    label_of g q ≡ level → level + k < label_of g p →
    Lowers entry_cost level g s (with_cell g p (level + k)) t
relaxed entry_cost level g s t p q d k full puts on step cheap from less =
    let allowed = step.allowed in
    record {
      size = record { width = refl; height = refl };
      cells = length-set g.cells (place_of g.width p) (level + k);
      each = λ c. elim (one-or-not c p) [
        | inl same ↦
            subst (λ (x : CPos). (label_of (with_cell g p (level + k)) x ≡ label_of g x) ⊎ IsMade entry_cost level g (with_cell g p (level + k)) t x)
            (sym same)
            (inr (record {
              entered = q;
              direction = d;
              cost = k;
              on = on;
              step = step;
              cheap = cheap;
              from = from;
              label = set-here NONE g p (level + k) full.size on;
              lower = less;
              held = puts.held;
            }))
        | inr other ↦ inl (set-other NONE g p (level + k) c on.column other)
      ];
      count = count-with g p (level + 1) (level + k) full on (omega arith) (omega arith);
      kept = puts.kept;
      row = puts.others (level % 71) (λ (same : level % 71 ≡ (level + k) % 71). omega arith);
      lost = puts.lost;
      room = puts.room;
    }

-- The same, as what is said of the labels and the buckets, whatever the step.
pub relaxed-all :
    (f : Distances) (s t : Shelves) (p : CPos) (label : ℕ) → IsFull f.labels → Puts s t (label % 71) p →
    IsOn f.labels.width f.labels.height p → label < label_of f.labels p →
    IsRelaxed f s (record f { labels = with_cell f.labels p label }) t p label
relaxed-all f s t p label full puts on less =
    let here = set-here NONE f.labels p label full.size on in
    record {
      least = omega (arith, here);
      same = refl;
      stays = λ c low. elim (one-or-not c p) [
        | inl one ↦
            let same_label : label_of f.labels c ≡ label_of f.labels p = ap (λ x. label_of f.labels x) one in
            absurd (omega (arith, low, less, same_label))
        | inr other ↦ set-other NONE f.labels p label c on.column other
      ];
      lowers = λ entry_cost n d k q step cheap from is.
          let there : Puts s t ((n + k) % 71) p = subst (λ (m : ℕ). Puts s t (m % 71) p) is puts in
          subst (λ (m : ℕ). Lowers entry_cost n f.labels s (with_cell f.labels p m) t) (sym is)
          (relaxed entry_cost n f.labels s t p q d k full there on step cheap from (omega (arith, is, less)));
    }

-- A label that is written again.
pub label-again : (g : Grid ℕ) (p : CPos) → IsOn g.width g.height p → with_cell g p (label_of g p) ≡ g
label-again g p on =
    let made : List ℕ → Grid ℕ = λ cells. record g { cells = cells } in
    ap (λ n. with_cell g p n) (label-read g p on) ∙ ap made (set-get_or g.cells (place_of g.width p) NONE)

-- A cell that keeps its label.
pub left-so :
    (entry_cost : CPos → ℕ) (level : ℕ) (g : Grid ℕ) (s : Shelves) (b : ℕ) (p : CPos) →
    IsWhole s → b < 71 → HasRows s b 1 → Lowers entry_cost level g s g (tried s b p false)
left-so entry_cost level g s b p whole low rows = record {
  size = record { width = refl; height = refl };
  cells = refl;
  each = λ c. inl refl;
  count = refl;
  kept = tried-kept s b p false whole low rows;
  row = tried-stays s b p whole low rows (level % 71);
  lost = λ h. h;
  room = refl;
}

-- A cell whose label is no greater is left so.
pub relaxed-not :
    (f : Distances) (s : Shelves) (p : CPos) (label : ℕ) → IsWhole s → HasRows s (label % 71) 1 →
    label_of f.labels p ≤ label → IsRelaxed f s f (tried s (label % 71) p false) p label
relaxed-not f s p label whole rows most = record {
  least = most;
  same = refl;
  stays = λ c low. refl;
  lowers = λ entry_cost n d k q step cheap from is. left-so entry_cost n f.labels s (label % 71) p whole (omega arith) rows;
}

-- What is known of a cell that was tried, by whether its label is lower.
pub record Tried (f : Distances) (s : Shelves) (g : Distances) (t : Shelves) (p : CPos) (allowed : Bool) (label : ℕ) : Type 0 where
  pub relaxed : allowed ≡ true → IsRelaxed f s g t p label
  pub closed : allowed ≡ false → (entry_cost : CPos → ℕ) (level : ℕ) → Lowers entry_cost level f.labels s g.labels t

pub tried-relaxed :
    (f : Distances) (s : Shelves) (p : CPos) (allowed low : Bool) (label : ℕ) → IsFull f.labels → IsWhole s →
    HasRows s (label % 71) 1 → IsOn f.labels.width f.labels.height p → low ≡ (allowed && nat_lt label (label_of f.labels p)) →
    Tried f s (record f { labels = with_cell f.labels p (cond low label (label_of f.labels p)) }) (tried s (label % 71) p low) p allowed label
tried-relaxed f s p true true label full whole rows on is = record {
  relaxed = λ h. relaxed-all f s (tried s (label % 71) p true) p label full (tried-puts s (label % 71) p whole (omega arith) rows) on
      (ltb-true label (label_of f.labels p) (sym is));
  closed = λ h. absurd (true≢false h);
}
tried-relaxed f s p true false label full whole rows on is =
    let most : label_of f.labels p ≤ label = ltb-false label (label_of f.labels p) (sym is) in
    rw (label-again f.labels p on)
    (record {
      relaxed = λ h. relaxed-not f s p label whole rows most;
      closed = λ h. absurd (true≢false h);
    })
tried-relaxed f s p false true label full whole rows on is = absurd (true≢false is)
tried-relaxed f s p false false label full whole rows on is =
    rw (label-again f.labels p on)
    (record {
      relaxed = λ h. absurd (false≢true h);
      closed = λ h entry_cost level. left-so entry_cost level f.labels s (label % 71) p whole (omega arith) rows;
    })

-- A neighbour that is offered the walk over a cell.
pub offered :
    (entry_cost : CPos → ℕ) (q p : CPos) (d step_cost level : ℕ) (f : Distances) (s : Shelves) (g : Distances) (t : Shelves) →
    IsStepCostFrom entry_cost q d step_cost → 0 < step_cost → step_of q d ≡ Some p → label_of f.labels q ≡ level → opposite_of d < 8 →
    step_of p (opposite_of d) ≡ Some q →
    IsRelaxed f s g t p (level + step_cost) → IsOffered entry_cost q d level f s g t
offered entry_cost q p d step_cost level f s g t is some there from low back relaxed_to =
    let step : IsStep entry_cost p (opposite_of d) q step_cost =
    record { direction = low; enters = back; cost = is.cost p there; allowed = some } in
    record {
      same = relaxed_to.same;
      lowers = relaxed_to.lowers entry_cost level (opposite_of d) step_cost q step is.cheap from refl;
      done = λ r k to on steps.
          let one : r ≡ p = cc in
          let cost : step_cost_of entry_cost r (opposite_of d) q ≡ step_cost = is.cost r to in
          let same_label : label_of g.labels r ≡ label_of g.labels p = ap (λ x. label_of g.labels x) one in
          omega (arith, cost, steps.cost, same_label, relaxed_to.least);
    }

-- A neighbour to which no step is allowed: none leads there.
pub offered-closed :
    (entry_cost : CPos → ℕ) (q p : CPos) (d level : ℕ) (f : Distances) (s : Shelves) (g : Distances) (t : Shelves) →
    IsStepCostFrom entry_cost q d 0 → step_of q d ≡ Some p → g ≡ record f { labels = g.labels } → Lowers entry_cost level f.labels s g.labels t →
    IsOffered entry_cost q d level f s g t
offered-closed entry_cost q p d level f s g t is there same lowers = record {
  same = same;
  lowers = lowers;
  done = λ r k to on steps.
      let cost : step_cost_of entry_cost r (opposite_of d) q ≡ 0 = is.cost r to in
      absurd (omega (arith, cost, steps.cost, steps.allowed));
}

-- A neighbour that was tried was offered the walk, and what was at the level stays.
module _ (f : Distances) (s : Shelves) (g : Distances) (t : Shelves) (q p : CPos) (step_cost level : ℕ) where
  pub offered-tried :
      (entry_cost : CPos → ℕ) (d : ℕ) (allowed : Bool) →
      (allowed ≡ true → IsRelaxed f s g t p (level + step_cost)) →
      (allowed ≡ false → (any : CPos → ℕ) (n : ℕ) → Lowers any n f.labels s g.labels t) → g ≡ record f { labels = g.labels } →
      IsStepCostFrom entry_cost q d (cond allowed step_cost 0) → 0 < step_cost → step_of q d ≡ Some p → label_of f.labels q ≡ level →
      opposite_of d < 8 → step_of p (opposite_of d) ≡ Some q → IsOffered entry_cost q d level f s g t
  offered-tried entry_cost d true to closed same is some there from low back =
      offered entry_cost q p d step_cost level f s g t is some there from low back (to refl)
  offered-tried entry_cost d false to closed same is some there from low back =
      offered-closed entry_cost q p d level f s g t is there same (closed refl entry_cost level)

  pub stays-tried :
      (allowed : Bool) →
      (allowed ≡ true → IsRelaxed f s g t p (level + step_cost)) →
      (allowed ≡ false → (any : CPos → ℕ) (n : ℕ) → Lowers any n f.labels s g.labels t) →
      label_of f.labels q ≡ level → label_of g.labels q ≡ level
  stays-tried true to closed from = (to refl).stays q (omega (arith, from)) ∙ from
  stays-tried false to closed from =
      level-stays (λ c. 0) level f.labels s g.labels t (closed refl (λ c. 0) level) q (omega (arith, from)) ∙ from
