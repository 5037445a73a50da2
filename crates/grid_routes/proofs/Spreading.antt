-- A cell is expanded over the labels and the cells of the buckets as lists of their own.
use Rattle.std.proofs.Common.{◌≡◌, ◌≢◌, Bool, ℕ, ◌+◌, ◌*◌, ◌%◌, ◌<◌, ◌≤◌, Option, Some, None, cond, inl, inr, take, drop, ◌++◌, length, List, set, get_or, refl, ap, sym, ◌∙◌, arith, subst, length-set, get_or-set_other, get_or-set_same}
use Rattle.std.proofs.Math.Seq.{take-append_seam}
use Rattle.std.proofs.lemmas.Bool.{cases_eq}
use Rattle.std.proofs.lemmas.List.{set-get_or, set-set, set_comm}
use Rattle.std.specs.Int.{from_bool}
use Rattle.world_units.specs.declared.cell.CPos.{CPos}
use Rattle.world_units.specs.Directions.{step_of}
use Rattle.game_model.specs.Grid.{IsOn}
use Rattle.grid_routes.specs.declared.beside.Placed.{Placed}
use Rattle.grid_routes.specs.declared.field.TheConstants.{NONE}
use Rattle.grid_routes.specs.Beside.{IsBeside, IsPlaced}
use Rattle.grid_routes.specs.StepCosts.{IsStepCostFrom}
use Rattle.grid_routes.specs.Labels.{Distances, IsFull, label_of}
use Rattle.grid_routes.specs.Held.{Shelves, HasRows, IsWhole, len_of, tried}
use Rattle.grid_routes.specs.Steps.{IsOffered}
use Rattle.grid_routes.specs.Spreading.{HoldsIn, IsOfferTo, IsSpread, field_of, given_label, grid_of, is_given, with_bucket}
use Rattle.grid_routes.proofs.Directions.{opposite-low, step-back}
use Rattle.grid_routes.proofs.Expanding.{Offered, offered-all, offered-none, offered-step}
use Rattle.grid_routes.proofs.Lowering.{Tried, label-read, level-stays, lowers-refl, offered-tried, tried-relaxed}

-- A neighbour that is on the map was offered the walk.
pub offered-by :
    (w h : ℕ) (labels : List ℕ) (s : Shelves) (cells : List CPos) (len : ℕ) (n : Placed) (allowed : Bool)
    (entry_cost : CPos → ℕ) (q : CPos) (d level k : ℕ) →
    IsFull (grid_of w h labels) → IsPlaced w h n → (len + 1) * 71 ≤ length cells →
    HoldsIn s ((level + k) % 71) cells len → d < 8 → IsOn w h q → label_of (grid_of w h labels) q ≡ level → 0 < k →
    IsStepCostFrom entry_cost q d (cond allowed k 0) → step_of q d ≡ Some n.cell →
    IsOffered entry_cost q d level (field_of w h labels) s
    (field_of w h (set labels n.at (given_label allowed (level + k) (get_or labels n.at NONE))))
    (with_bucket s ((level + k) % 71) (set cells (len * 71 + (level + k) % 71) n.cell)
    (len + from_bool (is_given allowed (level + k) (get_or labels n.at NONE))))
offered-by w h labels s cells len n allowed entry_cost q d level k full placed row holds low on from some step there =
    let f = field_of w h labels in
    let b = (level + k) % 71 in
    let last : label_of f.labels n.cell ≡ get_or labels n.at NONE =
    label-read (grid_of w h labels) n.cell placed.on ∙ ap (λ i. get_or labels i NONE) (sym placed.at) in
    let rows : HasRows s b 1 =
    record { fit = rw (holds.count, holds.same) row } in
    let taken : Tried f s _ (tried s b n.cell (is_given allowed (level + k) (label_of f.labels n.cell))) n.cell allowed (level + k) =
    tried-relaxed f s n.cell allowed (is_given allowed (level + k) (label_of f.labels n.cell)) (level + k) full holds.whole rows placed.on refl in
    rw (← last, placed.at, ← holds.same, ← holds.count)
    (offered-tried f s _ _ q n.cell k level entry_cost d allowed taken.relaxed taken.closed refl step some there from (opposite-low d)
    (step-back q n.cell d (omega (arith, on.column, full.wide)) (omega (arith, on.row, full.high)) low there))

-- Buckets with what they have.
pub with_bucket-same : (s : Shelves) (b : ℕ) (cells : List CPos) (len : ℕ) → HoldsIn s b cells len → with_bucket s b cells len ≡ s
with_bucket-same s b cells len holds =
    let made : List CPos → List ℕ → Shelves = λ cells lens. record s { cells = cells; lens = lens } in
    rw (← holds.same, ← holds.count) (ap (made s.cells) (set-get_or s.lens b 0))

-- No neighbour is there.
pub offered-nobody :
    (entry_cost : CPos → ℕ) (f : Distances) (s : Shelves) (cells : List CPos) (b len : ℕ) (q : CPos) (d level : ℕ) →
    HoldsIn s b cells len → IsBeside f.labels.width f.labels.height q d None →
    IsOffered entry_cost q d level f s f (with_bucket s b cells len)
offered-nobody entry_cost f s cells b len q d level holds beside =
    rw (with_bucket-same s b cells len holds)
    (record {
      same = refl;
      lowers = lowers-refl entry_cost level f.labels s;
      done = λ p k there on step. absurd (beside.none refl p there on);
    })

-- Buckets whose cells and whose counts of two buckets stand in lists of their own.
abbrev pub with_both : Shelves → (a b : ℕ) → List CPos → (straight across : ℕ) → Shelves
with_both s a b cells straight across = with_bucket (with_bucket s a cells straight) b cells across

module _ (s : Shelves) (a b : ℕ) (apart : a ≢ b) where
  abbrev made : List CPos → List ℕ → Shelves
  made cells lens = record s { cells = cells; lens = lens }

  with_both-straight :
      (cells : List CPos) (straight across : ℕ) (cells' : List CPos) (straight' : ℕ) →
      with_bucket (with_both s a b cells straight across) a cells' straight' ≡ with_both s a b cells' straight' across
  with_both-straight cells straight across cells' straight' =
      ap (made cells')
      (set_comm (set s.lens a straight) b a across straight' (λ same. apart (sym same))
      ∙ ap (λ lens. set lens b across) (set-set s.lens a straight straight'))

  with_both-across :
      (cells : List CPos) (straight across : ℕ) (cells' : List CPos) (across' : ℕ) →
      with_bucket (with_both s a b cells straight across) b cells' across' ≡ with_both s a b cells' straight across'
  with_both-across cells straight across cells' across' =
      ap (made cells') (set-set (set s.lens a straight) b across across')

  pub with_both-start :
      (cells : List CPos) (straight across : ℕ) → HoldsIn s a cells straight → HoldsIn s b cells across →
      with_both s a b cells straight across ≡ s
  with_both-start cells straight across near far =
      ap (λ t. with_bucket t b cells across) (with_bucket-same s a cells straight near) ∙ with_bucket-same s b cells across far

  module _ (whole : IsWhole s) (low : a < 71) (low' : b < 71) (cells : List CPos) (straight across : ℕ) (size : length cells ≡ length s.cells) (near : straight * 71 ≤ length s.cells) (far : across * 71 ≤ length s.cells) where
    counts-straight : len_of (with_both s a b cells straight across) a ≡ straight
    counts-straight =
        get_or-set_other (set s.lens a straight) b a across 0 apart
        ∙ get_or-set_same s.lens a straight 0 (omega (arith, whole.lens))

    counts-across : len_of (with_both s a b cells straight across) b ≡ across
    counts-across =
        get_or-set_same (set s.lens a straight) b across 0 (omega (arith, length-set s.lens a straight, whole.lens))

    both-whole : IsWhole (with_both s a b cells straight across)
    both-whole =
        let rows : length s.cells ≡ 71 * whole.rows = whole.cells in
        record {
          rows = whole.rows;
          cells = size ∙ whole.cells;
          lens = length-set (set s.lens a straight) b across ∙ length-set s.lens a straight ∙ whole.lens;
          fits = λ j. elim (cases_eq j b) [
            | inl same ↦
                let here : get_or (set (set s.lens a straight) b across) j 0 ≡ across =
                ap (λ k. get_or (set (set s.lens a straight) b across) k 0) same ∙ counts-across in
                omega (arith, here)
            | inr other ↦
                let past : get_or (set (set s.lens a straight) b across) j 0 ≡ get_or (set s.lens a straight) j 0 =
                get_or-set_other (set s.lens a straight) b j across 0 other in
                elim (cases_eq j a) [
                  | inl same ↦
                      let here : get_or (set s.lens a straight) j 0 ≡ straight =
                      ap (λ k. get_or (set s.lens a straight) k 0) same
                      ∙ get_or-set_same s.lens a straight 0 (omega (arith, whole.lens)) in
                      omega (arith, past, here)
                  | inr too ↦
                      let there = get_or-set_other s.lens a j straight 0 too in
                      let full : get_or s.lens j 0 ≤ whole.rows = whole.fits j in
                      omega (arith, past, there, full)
                ]
          ];
          low = whole.low;
        }

    holds-straight : HoldsIn (with_both s a b cells straight across) a cells straight
    holds-straight = record { whole = both-whole; same = refl; count = counts-straight }

    holds-across : HoldsIn (with_both s a b cells straight across) b cells across
    holds-across = record { whole = both-whole; same = refl; count = counts-across }

-- What an offer to a neighbour gives, whatever the rest of the buckets.
abbrev pub Gives :
    (w h : ℕ) (labels : List ℕ) (cells : List CPos) (len : ℕ) (n : Option Placed) (allowed : Bool) (label : ℕ)
    (labels' : List ℕ) (cells' : List CPos) (len' : ℕ) → Type 0
Gives w h labels cells len n allowed label labels' cells' len' =
    (shelves : Shelves) (entry_cost : CPos → ℕ) (q : CPos) (d level : ℕ) → HoldsIn shelves (label % 71) cells len →
    IsOfferTo entry_cost (grid_of w h labels) q d level n allowed label →
    IsOffered entry_cost q d level (field_of w h labels) shelves (field_of w h labels') (with_bucket shelves (label % 71) cells' len')

module _ (w h : ℕ) (first : List ℕ) (s : Shelves) (x y : ℕ) (apart : x % 71 ≢ y % 71) (whole : IsWhole s) (entry_cost : CPos → ℕ) (q : CPos) (level : ℕ) (on : IsOn w h q) (from : label_of (grid_of w h first) q ≡ level) where
  -- The neighbours in directions below d were offered the walk.
  pub record SpreadSoFar (d : ℕ) (labels : List ℕ) (cells : List CPos) (straight across : ℕ) : Type 0 where
    pub offered :
        Offered entry_cost (field_of w h first) s (field_of w h labels) (with_both s (x % 71) (y % 71) cells straight across) q level d
    pub size : length cells ≡ length s.cells
    pub near : straight * 71 ≤ length s.cells
    pub far : across * 71 ≤ length s.cells

  module _ (d : ℕ) (labels : List ℕ) (cells : List CPos) (straight across : ℕ) (so_far : SpreadSoFar d labels cells straight across) (n : Option Placed) (allowed : Bool) (labels' : List ℕ) (cells' : List CPos) (size : length cells' ≡ length cells) (direction : d < 8) (beside : IsBeside w h q d n) (cost : ℕ) (some : 0 < cost) (step : IsStepCostFrom entry_cost q d (cond allowed cost 0)) where
    -- The cell to expand keeps its label.
    keeps : label_of (grid_of w h labels) q ≡ level
    keeps =
        level-stays entry_cost level (grid_of w h first) s (grid_of w h labels) (with_both s (x % 71) (y % 71) cells straight across)
        so_far.offered.lowers q (omega (arith, from)) ∙ from

    to : (label : ℕ) → label ≡ level + cost → IsOfferTo entry_cost (grid_of w h labels) q d level n allowed label
    to label labelled = record {
      direction = direction;
      on = on;
      from = keeps;
      cost = cost;
      some = some;
      labelled = labelled;
      step = step;
      beside = beside;
    }

    pub spread-straight :
        x ≡ level + cost → (straight' : ℕ) → straight' * 71 ≤ length s.cells →
        Gives w h labels cells straight n allowed x labels' cells' straight' → SpreadSoFar (d + 1) labels' cells' straight' across
    spread-straight labelled straight' near gives =
        let one =
        gives (with_both s (x % 71) (y % 71) cells straight across) entry_cost q d level
        (holds-straight s (x % 71) (y % 71) apart whole (omega arith) (omega arith) cells straight across so_far.size so_far.near so_far.far)
        (to x labelled) in
        record {
          offered =
              offered-step entry_cost (field_of w h first) s (field_of w h labels) (with_both s (x % 71) (y % 71) cells straight across) q level d
              (field_of w h labels') (with_both s (x % 71) (y % 71) cells' straight' across) so_far.offered
              (subst (λ t. IsOffered entry_cost q d level (field_of w h labels) (with_both s (x % 71) (y % 71) cells straight across) (field_of w h labels') t)
              (with_both-straight s (x % 71) (y % 71) apart cells straight across cells' straight') one);
          size = size ∙ so_far.size;
          near = near;
          far = so_far.far;
        }

    pub spread-across :
        y ≡ level + cost → (across' : ℕ) → across' * 71 ≤ length s.cells →
        Gives w h labels cells across n allowed y labels' cells' across' → SpreadSoFar (d + 1) labels' cells' straight across'
    spread-across labelled across' far gives =
        let one =
        gives (with_both s (x % 71) (y % 71) cells straight across) entry_cost q d level
        (holds-across s (x % 71) (y % 71) apart whole (omega arith) (omega arith) cells straight across so_far.size so_far.near so_far.far)
        (to y labelled) in
        record {
          offered =
              offered-step entry_cost (field_of w h first) s (field_of w h labels) (with_both s (x % 71) (y % 71) cells straight across) q level d
              (field_of w h labels') (with_both s (x % 71) (y % 71) cells' straight across') so_far.offered
              (subst (λ t. IsOffered entry_cost q d level (field_of w h labels) (with_both s (x % 71) (y % 71) cells straight across) (field_of w h labels') t)
              (with_both-across s (x % 71) (y % 71) apart cells straight across cells' across') one);
          size = size ∙ so_far.size;
          near = so_far.near;
          far = far;
        }

  -- Before any offer.
  pub spread-none :
      (cells : List CPos) (straight across : ℕ) → HoldsIn s (x % 71) cells straight → HoldsIn s (y % 71) cells across →
      straight * 71 ≤ length cells → across * 71 ≤ length cells → SpreadSoFar 0 first cells straight across
  spread-none cells straight across near far room room' = record {
    offered =
        rw (with_both-start s (x % 71) (y % 71) apart cells straight across near far)
        (offered-none entry_cost (field_of w h first) s q level);
    size = ap length (sym near.same);
    near = rw near.same room;
    far = rw near.same room';
  }

  -- After all offers the cell is expanded.
  pub spread-done :
      (labels : List ℕ) (cells : List CPos) (straight across : ℕ) → IsFull (grid_of w h first) →
      SpreadSoFar 8 labels cells straight across →
      IsSpread entry_cost q level (grid_of w h first) s (grid_of w h labels) (with_both s (x % 71) (y % 71) cells straight across)
  spread-done labels cells straight across full so_far = record {
    lowers = so_far.offered.lowers;
    done =
        offered-all entry_cost (field_of w h first) s (field_of w h labels) (with_both s (x % 71) (y % 71) cells straight across) q level full
        so_far.offered;
  }

-- What was written over a slice of a whole list is all that it holds then.
pub written :
    {A : Type 0} (items new : List A) (len : ℕ) → len ≡ length items → length new ≡ length items →
    take len (new ++ drop (length new) items) ≡ new
written items new len long same =
    ap (λ k. take k (new ++ drop (length new) items)) (long ∙ sym same) ∙ take-append_seam new (drop (length new) items)
