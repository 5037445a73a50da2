-- A ring more: what was right stays right, up to a higher level.
use Rattle.std.proofs.Common.{◌≡◌, ◌≢◌, ℕ, zero, suc, ◌+◌, ◌*◌, ◌%◌, ◌<◌, ◌≤◌, ◌⊎◌, inl, inr, not, nat_lt, Bool, true, false, cond, length, List, [], ◌∷◌, get_or, refl, sym, ◌∙◌, arith, subst}
use Rattle.std.proofs.lemmas.Bool.{cases_eq, cases_lt}
use Rattle.std.proofs.lemmas.Bool.Decides.{nat_tests}
use Rattle.std.proofs.lemmas.List.Sums.{sum_by-cons}
use Rattle.std.proofs.lemmas.Nat.{mul-lt}
use Rattle.std.specs.List.{count_by}
use Rattle.world_units.specs.declared.cell.CPos.{CPos}
use Rattle.game_model.specs.Grid.{Grid, IsOn, place_of}
use Rattle.grid_routes.specs.declared.field.TheConstants.{NONE}
use Rattle.game_model.specs.Walks.{Land, IsStep, IsWalk}
use Rattle.grid_routes.specs.Labels.{Distances, IsFull, IsRight, label_of, open_count}
use Rattle.grid_routes.specs.Held.{Shelves, IsAt, emptied}
use Rattle.grid_routes.specs.Reach.{IsReached}
use Rattle.grid_routes.specs.Steps.{AreQueued, HasLabel, IsClear, IsExpanded, IsNext, IsSearch, Lowers, rings_left}
use Rattle.grid_routes.proofs.Cells.{placed}
use Rattle.grid_routes.proofs.Filling.{labelled-on}
use Rattle.grid_routes.proofs.Lowering.{falls, level-stays, level-was, label-read}
use Rattle.grid_routes.proofs.Expanding.{full-stays}
use Rattle.grid_routes.proofs.Shelves.{emptied-kept}

counts : (bound x : ℕ) (xs : List ℕ) → count_by (λ l. not (nat_lt l bound)) (x ∷ xs) ≡ cond (not (nat_lt x bound)) 1 0 + count_by (λ l. not (nat_lt l bound)) xs
counts bound x xs = sum_by-cons (λ l. cond (not (nat_lt l bound)) 1 0) x xs

fewer-one : (low high x : ℕ) → low ≤ high → cond (not (nat_lt x high)) 1 0 ≤ cond (not (nat_lt x low)) 1 0
fewer-one low high x order = grind (arith, nat_tests)

-- Fewer cells are open at a higher level.
fewer : (low high : ℕ) (xs : List ℕ) → low ≤ high →
    count_by (λ l. not (nat_lt l high)) xs ≤ count_by (λ l. not (nat_lt l low)) xs
fewer low high [] order = omega arith
fewer low high (x ∷ xs) order =
    omega (arith, counts low x xs, counts high x xs, fewer-one low high x order, fewer low high xs order)

at-level : (x : ℕ) → (◌≡◌ {A = ℕ} (cond (not (nat_lt x (x + 1))) 1 0) 0) × (◌≡◌ {A = ℕ} (cond (not (nat_lt x x)) 1 0) 1)
at-level x = (grind (arith, nat_tests), grind (arith, nat_tests))

-- And one fewer, where a cell has the level for its label.
dropped : (level : ℕ) (xs : List ℕ) (i d : ℕ) → i < length xs → get_or xs i d ≡ level →
    count_by (λ l. not (nat_lt l (level + 1))) xs + 1 ≤ count_by (λ l. not (nat_lt l level)) xs
dropped level [] i d within is = absurd (omega arith)
dropped level (x ∷ xs) zero d within is =
    let ends = at-level x in
    let rest = fewer x (x + 1) xs (omega arith) in
    let same : x ≡ level = is in
    subst (λ (n : ℕ). count_by (λ l. not (nat_lt l (n + 1))) (x ∷ xs) + 1 ≤ count_by (λ l. not (nat_lt l n)) (x ∷ xs)) same
    (omega (arith, counts x x xs, counts (x + 1) x xs, ends.0, ends.1, rest))
dropped level (x ∷ xs) (suc i) d within is =
    omega (arith, counts level x xs, counts (level + 1) x xs, fewer-one level (level + 1) x (omega arith), dropped level xs i d (omega arith) is)

open-fewer : (g : Grid ℕ) (low high : ℕ) → low ≤ high → open_count high g ≤ open_count low g
unfolding open_count
open-fewer g low high order = fewer low high g.cells order

open-dropped : (g : Grid ℕ) (level : ℕ) → IsFull g → level < NONE → HasLabel g level → open_count (level + 1) g + 1 ≤ open_count level g
unfolding open_count
open-dropped g level full less has =
    let on : IsOn g.width g.height has.cell = labelled-on g has.cell (omega (arith, has.is)) in
    let within = placed g.width g.height has.cell (length g.cells) full.size on in
    dropped level g.cells (place_of g.width has.cell) NONE within (sym (label-read g has.cell on) ∙ has.is)

lost-or : (b : Bool) → (b ≡ false) ⊎ (b ≡ true)
lost-or true = inr refl
lost-or false = inl refl

pub no-both : (b : Bool) → b ≡ false → b ≡ true → ⊥
no-both true off on = absurd (cc)
no-both false off on = absurd (cc)

-- A cell below the next level is below the old one.
pub skipped :
    (land : Land) (f : Distances) (s : Shelves) (l : ℕ) → IsSearch land f s → s.lost ≡ false → IsClear f s l →
    (p : CPos) → label_of f.labels p < l → label_of f.labels p < NONE → label_of f.labels p < f.level
skipped land f s l search whole clear p below less =
    elim (cases_lt (label_of f.labels p) f.level) [
      | inl low ↦ low
      | inr high ↦
          let held = (search.queued whole).each p high less in
          absurd (clear.none (label_of f.labels p) held.place p high below held.at refl)
    ]

module _ (entry_cost : CPos → ℕ) (goal : CPos) (f : Distances) (s : Shelves) (l : ℕ) (g : Grid ℕ) (t : Shelves) (search : IsSearch (record { entry_cost = entry_cost; goal = goal }) f s) (whole : s.lost ≡ false) (next : IsNext f s l) (low : Lowers entry_cost l f.labels s g t) (done : (i : ℕ) (q : CPos) → IsAt s (l % 71) i q → label_of f.labels q ≡ l → IsReached f.reach q l → IsExpanded entry_cost g l q) (unfinished : f.level < NONE) where
  few : length f.labels.cells < 65536
  few = omega (arith, search.full.size, mul-lt f.labels.width f.labels.height 256 256 search.full.wide search.full.high)

  bound : f.level + 71 * open_count f.level f.labels ≤ 71 * length f.labels.cells
  bound = search.right.rises unfinished

  l-small : l < NONE
  l-small = omega (arith, few, bound, next.near)

  some-open : open_count (l + 1) f.labels + 1 ≤ open_count f.level f.labels
  some-open =
      omega (arith, open-dropped f.labels l search.full l-small next.cell, open-fewer f.labels f.level l next.from)

  pub pass-low : l < 71 * length f.labels.cells
  pass-low = omega (arith, some-open, bound, next.near)

  new-land : Land
  new-land = record { entry_cost = entry_cost; goal = goal }

  walks :
      (p : CPos) → label_of g p < NONE → (cells : List CPos) × IsWalk (record { entry_cost = entry_cost; goal = goal }) p cells (label_of g p)
  walks p less =
      elim (low.each p) [
        | inl same ↦
            let old = search.right.walks p (rw same at less) in
            (old.0, subst (λ (n : ℕ). IsWalk (record { entry_cost = entry_cost; goal = goal }) p old.0 n) (sym same) old.1)
        | inr made ↦
            let old = search.right.walks made.entered (omega (arith, made.from, l-small)) in (
              made.entered ∷ old.0,
              (made.direction, made.cost, label_of f.labels made.entered, made.step, omega (arith, made.label, made.from), old.1),
            )
      ]

  closed :
      (p q : CPos) (d k : ℕ) → IsOn g.width g.height p → IsStep entry_cost p d q k → label_of g q < l + 1 →
      IsReached f.reach q (label_of g q) → label_of g p ≤ label_of g q + k
  closed p q d k on step below reached =
      let was = level-was entry_cost l f.labels s g t low q (omega arith) in
      let fell = falls entry_cost l f.labels s g t low p in
      let wide : g.width ≡ f.labels.width = low.size.width in
      let high : g.height ≡ f.labels.height = low.size.height in
      let here : IsOn f.labels.width f.labels.height p = record { column = rw wide at on.column; row = rw high at on.row } in
      elim (cases_eq (label_of f.labels q) l) [
        | inl same ↦
            let held = (search.queued whole).each q (omega (arith, next.from)) (omega (arith, l-small)) in
            let place = subst (λ (n : ℕ). IsAt s (n % 71) held.place q) same held.at in
            let reached_here = subst (λ (n : ℕ). IsReached f.reach q n) (was ∙ same) reached in
            let most = done held.place q place same reached_here p d k on step in
            omega (arith, most, was, same)
        | inr other ↦
            let less : label_of f.labels q < l = omega (arith, was) in
            let before = skipped (record { entry_cost = entry_cost; goal = goal }) f s l search whole next.clear q less (omega (arith, l-small)) in
            let reached_here = subst (λ (n : ℕ). IsReached f.reach q n) was reached in
            let most = search.right.closed p q d k here step before reached_here in
            omega (arith, most, fell, was)
      ]

  right : IsRight (record { entry_cost = entry_cost; goal = goal }) (record { labels = g; level = l + 1; reach = f.reach })
  right = record {
    goal = level-stays entry_cost l f.labels s g t low goal (omega (arith, search.right.goal)) ∙ search.right.goal;
    walks = walks;
    closed = closed;
    near = λ p less.
        elim (low.each p) [
          | inl same ↦ let old = search.right.near p (rw same at less) in omega (arith, old, same, next.from)
          | inr made ↦ omega (arith, made.label, made.cheap)
        ];
    small = λ p less.
        elim (low.each p) [
          | inl same ↦ let old = search.right.small p (rw same at less) in omega (arith, old, same, low.cells)
          | inr made ↦ omega (arith, made.label, made.cheap, pass-low, low.cells)
        ];
    rises = λ less. omega (arith, some-open, bound, next.near, low.count, low.cells);
  }

  queued : (emptied t (l % 71)).lost ≡ false → AreQueued (record { labels = g; level = l + 1; reach = f.reach }) (emptied t (l % 71))
  queued still = record {
    each = λ p from to.
        elim (low.each p) [
          | inl same ↦
              let to_old = rw same at to in
              let held = (search.queued whole).each p (omega (arith, same, next.from)) to_old in
              let near = search.right.near p to_old in
              let apart : label_of g p % 71 ≢ l % 71 = λ (equal : label_of g p % 71 ≡ l % 71). omega (arith, same, near, next.from) in
              let at = subst (λ (n : ℕ). IsAt t (n % 71) held.place p) (sym same) (low.kept _ _ _ held.at) in
              record { place = held.place; at = emptied-kept t (l % 71) (label_of g p % 71) held.place p apart at }
          | inr made ↦
              let apart : label_of g p % 71 ≢ l % 71 = λ (equal : label_of g p % 71 ≡ l % 71). omega (arith, made.label, made.cheap, made.step.allowed) in
              elim made.held [
                | inl lost ↦ absurd (no-both t.lost still lost)
                | inr held ↦
                    let at = subst (λ (n : ℕ). IsAt t (n % 71) held.place p) (sym made.label) held.at in
                    record { place = held.place; at = emptied-kept t (l % 71) (label_of g p % 71) held.place p apart at }
              ]
        ];
  }

  pub passed : IsSearch (record { entry_cost = entry_cost; goal = goal }) (record { labels = g; level = l + 1; reach = f.reach }) (emptied t (l % 71))
  passed = record {
    goal = record { column = rw low.size.width search.goal.column; row = rw low.size.height search.goal.row };
    full = full-stays entry_cost l f.labels s g t low search.full;
    room = low.room ∙ search.room ∙ sym low.cells;
    fair = record {
      inside = λ q allowed.
          let on = search.fair.inside q allowed in
          record { column = rw low.size.width on.column; row = rw low.size.height on.row };
      cheap = search.fair.cheap;
    };
    right = right;
    queued = queued;
  }

  pub passed-fewer : rings_left (record { labels = g; level = l + 1; reach = f.reach }) < rings_left f
  unfolding rings_left
  passed-fewer =
      let a : nat_lt f.level NONE ≡ true = grind (arith, nat_tests) in
      let more : l + 1 < NONE = omega (arith, few, bound, next.near) in
      let b : nat_lt (l + 1) NONE ≡ true = grind (arith, nat_tests) in
      rw (a, b) (omega (arith, some-open, low.count))

-- Where no bucket has a cell left all labels are final.
pub dry :
    (land : Land) (f : Distances) (s : Shelves) → IsSearch land f s → s.lost ≡ false → IsClear f s (f.level + 71) →
    IsSearch land (record { labels = f.labels; level = NONE; reach = f.reach }) s
dry land f s search whole clear = record {
  goal = search.goal;
  full = search.full;
  room = search.room;
  fair = search.fair;
  right = record {
    goal = search.right.goal;
    walks = search.right.walks;
    closed = λ p q d k on step less reached.
        search.right.closed p q d k on step
        (skipped land f s (f.level + 71) search whole clear q (search.right.near q less) less) reached;
    near = λ p less. omega arith;
    small = search.right.small;
    rises = λ (less : NONE < NONE). absurd (omega arith);
  };
  queued = λ still. record { each = λ p from to. absurd (omega arith) };
}

pub dry-fewer : (f : Distances) → f.level < NONE → rings_left (record { labels = f.labels; level = NONE; reach = f.reach }) < rings_left f
unfolding rings_left
dry-fewer f unfinished =
    let a : nat_lt f.level NONE ≡ true = grind (arith, nat_tests) in
    rw a (omega arith)
