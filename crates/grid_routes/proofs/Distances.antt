-- The distance and the best direction as functions are those over all walks.
use Rattle.std.proofs.Common.{◌≡◌, ℕ, zero, suc, ◌+◌, ◌<◌, ◌≤◌, ◌⊎◌, inl, inr, Bool, true, false, length, List, [], ◌∷◌, map, Option, Some, None, refl, ap, sym, ◌∙◌, arith, subst}
use Rattle.std.specs.Prelude.{min}
use Rattle.std.specs.List.{find, fold}
use Rattle.std.specs.Option.{option_map}
use Rattle.std.proofs.lemmas.Bool.{cases_lt}
use Rattle.std.proofs.lemmas.Bool.Decides.{nat_tests}
use Rattle.world_units.specs.declared.cell.CPos.{CPos}
use Rattle.world_units.specs.Cells.{same_cell}
use Rattle.world_units.specs.CellEquality.{cell_decides}
use Rattle.world_units.specs.Directions.{step_of}
use Rattle.game_model.specs.declared.map.Map.{Map}
use Rattle.rule_traits.specs.declared.trait_fields.Costs.{Costs}
use Rattle.game_model.specs.Grid.{Grid, HasSize}
use Rattle.grid_routes.specs.Least.{AreLeast}
use Rattle.grid_routes.specs.Steps.{IsFair}
use Rattle.grid_routes.specs.EntryCosts.{IsCheap}
use Rattle.grid_routes.proofs.StepCostLemmas.{fair-map}
use Rattle.grid_routes.proofs.Shortest.{distance-most, rest-least}
use Rattle.game_model.specs.Walks.{land_of, Land, IsStep, IsWalk, IsDistance, HasNoWalk, LeadsOn, IsBest, IsBestDirection, step_cost_of}
use Rattle.game_model.specs.BestDirection.{directions, lesser, by_step_cost, by_step, by_direction, least_within, enough_steps, distance_of, is_cost, leads_on, best_dir_of}

true-or-false : (b : Bool) → (b ≡ true) ⊎ (b ≡ false)
true-or-false true = inl refl
true-or-false false = inr refl

not-both : (b : Bool) → b ≡ true → b ≡ false → ⊥
not-both true met fails = absurd (cc)
not-both false met fails = absurd (cc)

-- A direction is among some.
abbrev Among : ℕ → List ℕ → Type 0
Among d [] = ⊥
Among d (x ∷ xs) = (d ≡ x) ⊎ Among d xs

-- Some directions are from n on.
abbrev From : ℕ → List ℕ → Type 0
From n [] = Unit {0}
From n (x ∷ xs) = (n ≤ x) × From x xs

from-least : (n : ℕ) (ds : List ℕ) (d : ℕ) → From n ds → Among d ds → n ≤ d
from-least n [] d from among = absurd among
from-least n (x ∷ xs) d from (inl is) = let first : n ≤ x = from.0 in omega arith
from-least n (x ∷ xs) d from (inr later) =
    let first : n ≤ x = from.0 in
    let rest : x ≤ d = from-least x xs d from.1 later in
    omega arith

directions-rise : From 0 directions
directions-rise = (omega arith, (omega arith, (omega arith, (omega arith, (omega arith, (omega arith, (omega arith, (omega arith, tt))))))))

direction-among : (d : ℕ) → d < 8 → Among d directions
direction-among zero low = inl refl
direction-among (suc zero) low = inr (inl refl)
direction-among (suc (suc zero)) low = inr (inr (inl refl))
direction-among (suc (suc (suc zero))) low = inr (inr (inr (inl refl)))
direction-among (suc (suc (suc (suc zero)))) low = inr (inr (inr (inr (inl refl))))
direction-among (suc (suc (suc (suc (suc zero))))) low = inr (inr (inr (inr (inr (inl refl)))))
direction-among (suc (suc (suc (suc (suc (suc zero)))))) low = inr (inr (inr (inr (inr (inr (inl refl))))))
direction-among (suc (suc (suc (suc (suc (suc (suc zero))))))) low = inr (inr (inr (inr (inr (inr (inr (inl refl)))))))
direction-among (suc (suc (suc (suc (suc (suc (suc (suc d)))))))) low = absurd (omega arith)

among-low : (d : ℕ) → Among d directions → d < 8
among-low d (inl is) = omega arith
among-low d (inr (inl is)) = omega arith
among-low d (inr (inr (inl is))) = omega arith
among-low d (inr (inr (inr (inl is)))) = omega arith
among-low d (inr (inr (inr (inr (inl is))))) = omega arith
among-low d (inr (inr (inr (inr (inr (inl is)))))) = omega arith
among-low d (inr (inr (inr (inr (inr (inr (inl is))))))) = omega arith
among-low d (inr (inr (inr (inr (inr (inr (inr (inl is)))))))) = omega arith
among-low d (inr (inr (inr (inr (inr (inr (inr (inr beyond)))))))) = absurd beyond

-- There is a cost, and it is at most m.
pub record IsUpTo (costs : Option ℕ) (m : ℕ) : Type 0 where
  pub cost : ℕ
  pub is : costs ≡ Some cost
  pub most : cost ≤ m

up-to-left : (a b : Option ℕ) (m : ℕ) → IsUpTo a m → IsUpTo (lesser a b) m
up-to-left None b m up = let no : None ≡ Some up.cost = up.is in absurd (cc)
up-to-left (Some x) None m up = up
up-to-left (Some x) (Some y) m up =
    let is : x ≡ up.cost = (cc) in
    record { cost = min x y; is = refl; most = omega (arith, up.most) }

up-to-right : (a b : Option ℕ) (m : ℕ) → IsUpTo b m → IsUpTo (lesser a b) m
up-to-right None b m up = up
up-to-right (Some x) None m up = let no : None ≡ Some up.cost = up.is in absurd (cc)
up-to-right (Some x) (Some y) m up =
    let is : y ≡ up.cost = (cc) in
    record { cost = min x y; is = refl; most = omega (arith, up.most) }

lesser-is : (a b : Option ℕ) (k : ℕ) → lesser a b ≡ Some k → (a ≡ Some k) ⊎ (b ≡ Some k)
lesser-is None b k found = inr found
lesser-is (Some x) None k found = inl found
lesser-is (Some x) (Some y) k found =
    let least : min x y ≡ k = (cc) in
    elim (cases_lt x y) [
      | inl less ↦ inl (ap Some (omega arith))
      | inr more ↦ inr (ap Some (omega arith))
    ]

-- The least of the costs of some directions is that of one of them.
fold-is :
    (g : ℕ → Option ℕ) (ds : List ℕ) (before : Option ℕ) (k : ℕ) →
    fold lesser before (map g ds) ≡ Some k →
    (before ≡ Some k) ⊎ ((d : ℕ) × Among d ds × (g d ≡ Some k))
fold-is g [] before k found = inl found
fold-is g (x ∷ xs) before k found =
    elim (fold-is g xs (lesser before (g x)) k found) [
      | inl first ↦ elim (lesser-is before (g x) k first) [
        | inl old ↦ inl old
        | inr new ↦ inr (x, inl refl, new)
      ]
      | inr later ↦ inr (later.0, inr later.1, later.2)
    ]

-- And at most each of them.
fold-before :
    (g : ℕ → Option ℕ) (ds : List ℕ) (before : Option ℕ) (m : ℕ) → IsUpTo before m →
    IsUpTo (fold lesser before (map g ds)) m
fold-before g [] before m up = up
fold-before g (x ∷ xs) before m up =
    fold-before g xs (lesser before (g x)) m (up-to-left before (g x) m up)

fold-up-to :
    (g : ℕ → Option ℕ) (ds : List ℕ) (before : Option ℕ) (d m : ℕ) → Among d ds → IsUpTo (g d) m →
    IsUpTo (fold lesser before (map g ds)) m
fold-up-to g [] before d m among up = absurd among
fold-up-to g (x ∷ xs) before d m (inl is) up =
    fold-before g xs (lesser before (g x)) m
    (up-to-right before (g x) m (subst (λ (e : ℕ). IsUpTo (g e) m) is up))
fold-up-to g (x ∷ xs) before d m (inr later) up = fold-up-to g xs (lesser before (g x)) d m later up

-- A first step with the cost of the rest.
record Begins (land : Land) (rest : CPos → Option ℕ) (p : CPos) (d c : ℕ) : Type 0 where
  entered : CPos
  left : ℕ
  enters : step_of p d ≡ Some entered
  allowed : 0 < step_cost_of land.entry_cost p d entered
  there : rest entered ≡ Some left
  sum : c ≡ step_cost_of land.entry_cost p d entered + left

step_cost-is : (step_cost : ℕ) (rest : Option ℕ) (left : ℕ) → 0 < step_cost → rest ≡ Some left → by_step_cost step_cost rest ≡ Some (step_cost + left)
step_cost-is zero rest left allowed is = absurd (omega arith)
step_cost-is (suc less) rest left allowed is = ap (option_map (λ n. suc less + n)) is

step_cost-back : (step_cost : ℕ) (rest : Option ℕ) (c : ℕ) → by_step_cost step_cost rest ≡ Some c → (left : ℕ) × (0 < step_cost) × (rest ≡ Some left) × (c ≡ step_cost + left)
step_cost-back zero rest c is = absurd (cc)
step_cost-back (suc less) None c is = absurd (cc)
step_cost-back (suc less) (Some left) c is =
    let sum : suc less + left ≡ c = (cc) in
    (left, omega arith, refl, sym sum)

direction-is :
    (land : Land) (rest : CPos → Option ℕ) (p : CPos) (d : ℕ) (q : CPos) (k left : ℕ) → IsStep land.entry_cost p d q k →
    rest q ≡ Some left → by_direction land rest p d ≡ Some (k + left)
direction-is land rest p d q k left step there =
    ap (by_step land rest p d) step.enters
    ∙ step_cost-is (step_cost_of land.entry_cost p d q) (rest q) left (omega (arith, step.cost, step.allowed)) there
    ∙ ap (λ n. Some (n + left)) step.cost

step-back :
    (land : Land) (rest : CPos → Option ℕ) (p : CPos) (d : ℕ) (o : Option CPos) (c : ℕ) →
    by_step land rest p d o ≡ Some c → o ≡ step_of p d → Begins land rest p d c
step-back land rest p d None c is there = absurd (cc)
step-back land rest p d (Some q) c is there =
    let parts = step_cost-back (step_cost_of land.entry_cost p d q) (rest q) c is in
    record { entered = q; left = parts.0; enters = sym there; allowed = parts.1; there = parts.2; sum = parts.3 }

direction-back :
    (land : Land) (rest : CPos → Option ℕ) (p : CPos) (d c : ℕ) → by_direction land rest p d ≡ Some c →
    Begins land rest p d c
direction-back land rest p d c is = step-back land rest p d (step_of p d) c is refl

begun-step : (land : Land) (rest : CPos → Option ℕ) (p : CPos) (d c : ℕ) → d < 8 → (b : Begins land rest p d c) → IsStep land.entry_cost p d b.entered (step_cost_of land.entry_cost p d b.entered)
begun-step land rest p d c low b = record { direction = low; enters = b.enters; cost = refl; allowed = b.allowed }

-- A cost within some steps is that of a walk.
pub within-walk :
    (land : Land) (n : ℕ) (p : CPos) (k : ℕ) → least_within land n p ≡ Some k →
    (cells : List CPos) × IsWalk land p cells k
within-walk land zero p k found =
    elim (true-or-false (same_cell p land.goal)) [
      | inl same ↦
          let is : Some 0 ≡ Some k = rw same at found in
          let cost : 0 ≡ k = (cc) in
          ([], ((cell_decides p land.goal).0 same, sym cost))
      | inr other ↦ let no : None ≡ Some k = rw other at found in absurd (cc)
    ]
within-walk land (suc n) p k found =
    elim (true-or-false (same_cell p land.goal)) [
      | inl same ↦
          let is : Some 0 ≡ Some k = rw same at found in
          let cost : 0 ≡ k = (cc) in
          ([], ((cell_decides p land.goal).0 same, sym cost))
      | inr other ↦
          let is : fold lesser None (map (by_direction land (least_within land n) p) directions) ≡ Some k = rw other at found in
          elim (fold-is (by_direction land (least_within land n) p) directions None k is) [
            | inl none ↦ absurd (cc)
            | inr one ↦
                let b = direction-back land (least_within land n) p one.0 k one.2 in
                let rest = within-walk land n b.entered b.left b.there in
                let step = begun-step land (least_within land n) p one.0 k (among-low one.0 one.1) b in
                (b.entered ∷ rest.0, (one.0, step_cost_of land.entry_cost p one.0 b.entered, b.left, step, b.sum, rest.1))
          ]
    ]

-- A walk of so many steps bounds the cost within as many.
pub walk-within :
    (land : Land) (cells : List CPos) (n : ℕ) (p : CPos) (m : ℕ) → length cells ≤ n → IsWalk land p cells m →
    IsUpTo (least_within land n p) m
walk-within land [] zero p m short walk =
    rw ((cell_decides p land.goal).1 walk.0) (record { cost = 0; is = refl; most = omega arith })
walk-within land [] (suc n) p m short walk =
    rw ((cell_decides p land.goal).1 walk.0) (record { cost = 0; is = refl; most = omega arith })
walk-within land (q ∷ cells) zero p m short walk = absurd (omega arith)
walk-within land (q ∷ cells) (suc n) p m short walk =
    elim (true-or-false (same_cell p land.goal)) [
      | inl same ↦ rw same (record { cost = 0; is = refl; most = omega arith })
      | inr other ↦
          let d = walk.0 in
          let there = walk-within land cells n q walk.2 (omega arith) walk.5 in
          let here = direction-is land (least_within land n) p d q walk.1 there.cost walk.3 there.is in
          let sum : m ≡ walk.1 + walk.2 = walk.4 in
          let up : IsUpTo (by_direction land (least_within land n) p d) m = record { cost = walk.1 + there.cost; is = here; most = omega (arith, there.most) } in
          rw other
          (fold-up-to (by_direction land (least_within land n) p) directions None d m (direction-among d walk.3.direction) up)
    ]

cost-is : (a b : Option ℕ) (c : ℕ) → a ≡ Some c → b ≡ Some c → is_cost a b ≡ true
cost-is a b c first second = rw (first, second) (grind (arith, nat_tests))

cost-back : (a b : Option ℕ) → is_cost a b ≡ true → (c : ℕ) × (a ≡ Some c) × (b ≡ Some c)
cost-back None b test = absurd (cc)
cost-back (Some x) None test = absurd (cc)
cost-back (Some x) (Some y) test = let same : x ≡ y = grind (arith, nat_tests) in (x, refl, ap Some (sym same))

find-is : (t : ℕ → Bool) (ds : List ℕ) (e : ℕ) → find t ds ≡ Some e → (t e ≡ true) × Among e ds
find-is t [] e found = absurd (cc)
find-is t (x ∷ xs) e found =
    elim (true-or-false (t x)) [
      | inl met ↦
          let here : Some x ≡ Some e = rw met at found in
          let same : x ≡ e = (cc) in
          (subst (λ (d : ℕ). t d ≡ true) same met, inl (sym same))
      | inr fails ↦
          let later = find-is t xs e (rw fails at found) in
          (later.0, inr later.1)
    ]

find-none : (t : ℕ → Bool) (ds : List ℕ) (d : ℕ) → find t ds ≡ None → Among d ds → t d ≡ true → ⊥
find-none t [] d found among met = among
find-none t (x ∷ xs) d found (inl is) met =
    let here : t x ≡ true = subst (λ (e : ℕ). t e ≡ true) is met in
    let some : Some x ≡ None = rw here at found in
    absurd (cc)
find-none t (x ∷ xs) d found (inr later) met =
    elim (true-or-false (t x)) [
      | inl here ↦ let some : Some x ≡ None = rw here at found in absurd (cc)
      | inr fails ↦ find-none t xs d (rw fails at found) later met
    ]

find-least : (t : ℕ → Bool) (n : ℕ) (ds : List ℕ) (e d : ℕ) → From n ds → find t ds ≡ Some e → Among d ds → t d ≡ true → e ≤ d
find-least t n [] e d from found among met = absurd among
find-least t n (x ∷ xs) e d from found among met =
    elim (true-or-false (t x)) [
      | inl here ↦
          let first : Some x ≡ Some e = rw here at found in
          let same : x ≡ e = (cc) in
          let least : x ≤ d = from-least x (x ∷ xs) d (omega arith, from.1) among in
          omega arith
      | inr fails ↦
          elim among [
            | inl is ↦ absurd (not-both (t x) (subst (λ (c : ℕ). t c ≡ true) is met) fails)
            | inr later ↦ find-least t x xs e d from.1 (rw fails at found) later met
          ]
    ]

-- A walk has at most as many steps as it costs.
pub walk-short : (land : Land) (cells : List CPos) (p : CPos) (m : ℕ) → IsWalk land p cells m → length cells ≤ m
walk-short land [] p m walk = omega arith
walk-short land (q ∷ cells) p m walk =
    let rest = walk-short land cells q walk.2 walk.5 in
    let allowed = walk.3.allowed in
    let sum : m ≡ walk.1 + walk.2 = walk.4 in
    omega arith

-- A cell with a walk has a distance.
walk-distance :
    (land : Land) (cells : List CPos) (p : CPos) (m : ℕ) → IsWalk land p cells m → (n : ℕ) × IsDistance land p n
walk-distance land cells p m walk =
    let found = walk-within land cells m p m (walk-short land cells p m walk) walk in (
      found.cost,
      record {
        walk = within-walk land m p found.cost found.is;
        least = λ others k other.
            elim (cases_lt k found.cost) [
              | inl less ↦
                  let few = walk-short land others p k other in
                  let up = walk-within land others m p k (omega (arith, few, found.most)) other in
                  let same : Some up.cost ≡ Some found.cost = sym up.is ∙ found.is in
                  let one : up.cost ≡ found.cost = (cc) in
                  omega (arith, up.most)
              | inr more ↦ more
            ];
      },
    )

-- Where a cell that isn't the goal has a distance some direction leads on.
some-leads :
    (land : Land) (cells : List CPos) (p : CPos) (n : ℕ) → IsDistance land p n → IsWalk land p cells n →
    (p ≡ land.goal → ⊥) → (d : ℕ) × LeadsOn land p d
some-leads land [] p n is walk other = absurd (other walk.0)
some-leads land (q ∷ cells) p n is walk other = (
  walk.0,
  record {
    entered = q;
    cost = walk.1;
    left = walk.2;
    step = walk.3;
    here = subst (λ (m : ℕ). IsDistance land p m) walk.4 is;
    there = rest-least land p q cells n is walk;
  },
)

none-best : (land : Land) (p : CPos) (d : ℕ) → IsBest land p d → (p ≡ land.goal) ⊎ HasNoWalk land p → ⊥
none-best land p d best (inl there) =
    let none = best.leads.here.least [] 0 (there, refl) in
    let allowed = best.leads.step.allowed in
    omega (arith, none, allowed)
none-best land p d best (inr without) =
    let walk = best.leads.here.walk in without.none walk.0 (best.leads.cost + best.leads.left) walk.1

-- There is one best direction.
one-best :
    (land : Land) (p : CPos) (a b : Option ℕ) → IsBestDirection land p a → IsBestDirection land p b → a ≡ b
one-best land p (Some d) (Some e) first second =
    let here = first.least e second.leads in
    let there = second.least d first.leads in
    ap Some (omega (arith, here, there))
one-best land p None None first second = refl
one-best land p (Some d) None first second = absurd (none-best land p d first second)
one-best land p None (Some e) first second = absurd (none-best land p e second first)

module _ (map : Map) (land : Land) (fair : IsFair land.entry_cost map.width map.height) where
  distance-walk :
      (p : CPos) (n : ℕ) → distance_of map land p ≡ Some n → (cells : List CPos) × IsWalk land p cells n
  unfolding distance_of
  distance-walk p n is = within-walk land (enough_steps map) p n is

  -- The distance is that of the function,
  distance-same : (p : CPos) (n : ℕ) → IsDistance land p n → distance_of map land p ≡ Some n
  unfolding distance_of
  distance-same p n is =
      let most = distance-most land map.width map.height fair p n is in
      let short = walk-short land is.walk.0 p n is.walk.1 in
      let found = walk-within land is.walk.0 (enough_steps map) p n (omega (arith, short, most)) is.walk.1 in
      let walk = within-walk land (enough_steps map) p found.cost found.is in
      let least = is.least walk.0 found.cost walk.1 in
      found.is ∙ ap Some (omega (arith, least, found.most))

  -- and that of the function is the distance.
  distance-least : (p : CPos) (n : ℕ) → distance_of map land p ≡ Some n → IsDistance land p n
  distance-least p n found =
      let walk = distance-walk p n found in
      let some = walk-distance land walk.0 p n walk.1 in
      let same : Some some.0 ≡ Some n = sym (distance-same p some.0 some.1) ∙ found in
      let one : some.0 ≡ n = (cc) in
      subst (λ (m : ℕ). IsDistance land p m) one some.1

  none-of : (o : Option ℕ) (p : CPos) → HasNoWalk land p → distance_of map land p ≡ o → o ≡ None
  none-of None p without is = refl
  none-of (Some n) p without is =
      let walk = distance-walk p n is in absurd (without.none walk.0 n walk.1)

  none-walk : (p : CPos) → distance_of map land p ≡ None → HasNoWalk land p
  none-walk p found = record {
    none = λ cells m walk.
        let some = walk-distance land cells p m walk in
        let both : Some some.0 ≡ None = sym (distance-same p some.0 some.1) ∙ found in
        absurd (cc);
  }

  -- A direction leads on exactly where the test says so.
  leads-test : (p : CPos) (d : ℕ) → LeadsOn land p d → leads_on map land p d ≡ true
  leads-test p d leads =
      let there = distance-same leads.entered leads.left leads.there in
      let first = direction-is land (distance_of map land) p d leads.entered leads.cost leads.left leads.step there in
      cost-is _ _ (leads.cost + leads.left) first (distance-same p (leads.cost + leads.left) leads.here)

  test-leads : (p : CPos) (d : ℕ) → d < 8 → leads_on map land p d ≡ true → LeadsOn land p d
  test-leads p d low test =
      let both = cost-back (by_direction land (distance_of map land) p d) (distance_of map land p) test in
      let b = direction-back land (distance_of map land) p d both.0 both.1 in
      record {
        entered = b.entered;
        cost = step_cost_of land.entry_cost p d b.entered;
        left = b.left;
        step = begun-step land (distance_of map land) p d both.0 low b;
        here = subst (λ (m : ℕ). IsDistance land p m) b.sum (distance-least p both.0 both.2);
        there = distance-least b.entered b.left b.there;
      }

  best-of :
      (p : CPos) (o : Option ℕ) → find (leads_on map land p) directions ≡ o → (p ≡ land.goal → ⊥) →
      IsBestDirection land p o
  best-of p None found other = inr (record {
    none = λ cells m walk.
        let some = walk-distance land cells p m walk in
        let least = some.1 in
        let one = some-leads land least.walk.0 p some.0 least least.walk.1 other in
        let low = one.1.step.direction in
        find-none (leads_on map land p) directions one.0 found (direction-among one.0 low) (leads-test p one.0 one.1);
  })
  best-of p (Some d) found other =
      let one = find-is (leads_on map land p) directions d found in
      record {
        leads = test-leads p d (among-low d one.1) one.0;
        least = λ e leads.
            find-least (leads_on map land p) 0 directions d e directions-rise found
            (direction-among e leads.step.direction) (leads-test p e leads);
      }

  best-is-best : (p : CPos) → IsBestDirection land p (best_dir_of map land p)
  unfolding best_dir_of
  best-is-best p =
      elim (true-or-false (same_cell p land.goal)) [
        | inl same ↦ rw same (inl ((cell_decides p land.goal).0 same))
        | inr other ↦
            rw other
            (best-of p (find (leads_on map land p) directions) refl
            (λ (there : p ≡ land.goal). not-both _ ((cell_decides p land.goal).1 there) other))
      ]

  -- The best direction is that of the function.
  pub best-same :
      (p : CPos) (answer : Option ℕ) → IsBestDirection land p answer → answer ≡ best_dir_of map land p
  best-same p answer best = one-best land p answer (best_dir_of map land p) best (best-is-best p)

  pub all-least : AreLeast map land
  all-least = record {
    distance = λ p n. (distance-same p n, distance-least p n);
    none = λ p. (λ without. none-of (distance_of map land p) p without refl, none-walk p);
    best = λ p answer.
        (best-same p answer, λ is. subst (λ (o : Option ℕ). IsBestDirection land p o) (sym is) (best-is-best p));
  }

-- On a map the functions are right.
pub are_least :
    (map : Map) (built : Grid Bool) (costs : Costs) (goal : CPos) → HasSize map.width map.height map.terrain →
    IsCheap costs → AreLeast map (land_of map built costs goal)
are_least map built costs goal size cheap =
    all-least map (land_of map built costs goal) (fair-map map.terrain built costs goal map.width map.height size cheap)

pub best-value :
    (map : Map) (built : Grid Bool) (costs : Costs) (goal : CPos) → HasSize map.width map.height map.terrain →
    IsCheap costs → (p : CPos) (answer : Option ℕ) → IsBestDirection (land_of map built costs goal) p answer →
    answer ≡ best_dir_of map (land_of map built costs goal) p
best-value map built costs goal size cheap =
    best-same map (land_of map built costs goal) (fair-map map.terrain built costs goal map.width map.height size cheap)
