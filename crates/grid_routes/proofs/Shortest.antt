-- A walk of least cost enters no cell twice, so the size of the map bounds what it costs.
use Rattle.std.proofs.Common.{◌≡◌, ℕ, suc, ◌+◌, ◌*◌, ◌<◌, ◌≤◌, ◌⊎◌, inl, inr, eqb, Bool, true, false, length, List, [], ◌∷◌, map, refl, arith, subst}
use Rattle.std.specs.List.{AllByRecursion, IsDistinct, list_any}
use Rattle.std.proofs.lemmas.Bool.Decides.{eqb_tells, nat_tests}
use Rattle.std.proofs.lemmas.List.{length-map}
use Rattle.std.proofs.lemmas.Map.Steps.{length-le_from_distinct_below}
use Rattle.world_units.specs.declared.cell.CPos.{CPos}
use Rattle.game_model.specs.Grid.{IsOn, place_of}
use Rattle.game_model.specs.Walks.{Land, IsWalk, IsDistance}
use Rattle.grid_routes.specs.Steps.{IsFair}
use Rattle.grid_routes.proofs.Cells.{apart, placed}
use Rattle.grid_routes.proofs.StepCostLemmas.{step-on}

-- A cell of the map with a distance below n.
record IsNearer (land : Land) (w h n : ℕ) (c : CPos) : Type 0 where
  on : IsOn w h c
  left : ℕ
  is : IsDistance land c left
  less : left < n

one-distance : (land : Land) (p : CPos) (m n : ℕ) → IsDistance land p m → IsDistance land p n → m ≡ n
one-distance land p m n a b =
    let here = a.walk in
    let there = b.walk in
    let first = a.least there.0 n there.1 in
    let second = b.least here.0 m here.1 in
    omega (arith, first, second)

-- The rest of a walk of least cost is one too.
pub rest-least :
    (land : Land) (p q : CPos) (cells : List CPos) (n : ℕ) → IsDistance land p n → (walk : IsWalk land p (q ∷ cells) n) →
    IsDistance land q walk.2
rest-least land p q cells n is walk = record {
  walk = (cells, walk.5);
  least = λ other m rest.
      let more = is.least (q ∷ other) (walk.1 + m) (walk.0, walk.1, m, walk.3, refl, rest) in
      let sum : n ≡ walk.1 + walk.2 = walk.4 in
      omega (arith, more);
}

bool-or : (b : Bool) → (b ≡ true) ⊎ (b ≡ false)
bool-or true = inl refl
bool-or false = inr refl

equal-or-not : (a b : ℕ) → (eqb a b ≡ true) ⊎ (eqb a b ≡ false)
equal-or-not a b = bool-or (eqb a b)

module _ (land : Land) (w h : ℕ) (fair : IsFair land.entry_cost w h) where
  nearer :
      (cells : List CPos) (p : CPos) (n most : ℕ) → n ≤ most → IsDistance land p n → IsWalk land p cells n →
      AllByRecursion (IsNearer land w h most) cells
  nearer [] p n most low is walk = tt
  nearer (q ∷ cells) p n most low is walk =
      let rest = rest-least land p q cells n is walk in
      let allowed = walk.3.allowed in
      let sum : n ≡ walk.1 + walk.2 = walk.4 in (
        record { on = step-on land.entry_cost w h fair p q walk.0 walk.1 walk.3; left = walk.2; is = rest; less = omega arith },
        nearer cells q walk.2 most (omega arith) rest walk.5,
      )

  none-again :
      (q : CPos) (m : ℕ) → IsOn w h q → IsDistance land q m → (cells : List CPos) →
      AllByRecursion (IsNearer land w h m) cells →
      AllByRecursion (λ y. eqb (place_of w q) y ≡ false) (map (place_of w) cells)
  none-again q m on is [] all = tt
  none-again q m on is (c ∷ cells) all = (
    elim (equal-or-not (place_of w q) (place_of w c)) [
      | inl same ↦
          let places : place_of w q ≡ place_of w c = grind (arith, nat_tests, eqb_tells) in
          let one : q ≡ c = apart w q c on.column all.0.on.column places in
          let there = subst (λ (x : CPos). IsDistance land x m) one is in
          let equal = one-distance land c m all.0.left there all.0.is in
          absurd (omega (arith, equal, all.0.less))
      | inr other ↦ other
    ],
    none-again q m on is cells all.1,
  )

  distinct :
      (cells : List CPos) (p : CPos) (n : ℕ) → IsDistance land p n → IsWalk land p cells n →
      IsDistinct eqb (map (place_of w) cells)
  unfolding IsDistinct
  distinct [] p n is walk = tt
  distinct (q ∷ cells) p n is walk =
      let rest = rest-least land p q cells n is walk in
      let on = step-on land.entry_cost w h fair p q walk.0 walk.1 walk.3 in (
        none-again q walk.2 on rest cells (nearer cells q walk.2 walk.2 (omega arith) rest walk.5),
        distinct cells q walk.2 rest walk.5,
      )

  whole-distinct :
      (cells : List CPos) (p : CPos) (n : ℕ) → IsOn w h p → IsDistance land p n → IsWalk land p cells n →
      IsDistinct eqb (map (place_of w) (p ∷ cells))
  unfolding IsDistinct
  whole-distinct cells p n on is walk = (
    none-again p n on is cells (nearer cells p n n (omega arith) is walk),
    distinct cells p n is walk,
  )

  below :
      (cells : List CPos) (n : ℕ) → AllByRecursion (IsNearer land w h n) cells → (x : ℕ) →
      list_any (eqb x) (map (place_of w) cells) ≡ true → x < w * h
  below [] n all x any = absurd (cc)
  below (c ∷ cells) n all x any =
      elim (equal-or-not x (place_of w c)) [
        | inl same ↦
            let place : x ≡ place_of w c = grind (arith, nat_tests, eqb_tells) in
            let within = placed w h c (w * h) refl all.0.on in
            omega (arith, within)
        | inr other ↦ below cells n all.1 x (rw other at any)
      ]

  cost-most : (cells : List CPos) (p : CPos) (n : ℕ) → IsWalk land p cells n → n ≤ 70 * length cells
  cost-most [] p n walk = let none : n ≡ 0 = walk.1 in omega arith
  cost-most (q ∷ cells) p n walk =
      let rest = cost-most cells q walk.2 walk.5 in
      let cheap = fair.cheap p q walk.0 walk.1 walk.3 in
      let sum : n ≡ walk.1 + walk.2 = walk.4 in
      omega (arith, rest, cheap)

  -- A walk of least cost has at most as many cells as the map, its first one with it.
  pub walk-fits :
      (cells : List CPos) (p : CPos) (n : ℕ) → IsOn w h p → IsDistance land p n → IsWalk land p cells n →
      suc (length cells) ≤ w * h
  walk-fits cells p n on is walk =
      let apart : IsDistinct eqb (map (place_of w) (p ∷ cells)) = whole-distinct cells p n on is walk in
      let within : (x : ℕ) → list_any (eqb x) (map (place_of w) (p ∷ cells)) ≡ true → x < w * h =
      below (p ∷ cells) (suc n)
      (record { on = on; left = n; is = is; less = omega arith }, nearer cells p n (suc n) (omega arith) is walk) in
      let few = length-le_from_distinct_below (map (place_of w) (p ∷ cells)) (w * h) apart within in
      let short : length (map (place_of w) (p ∷ cells)) ≡ length (p ∷ cells) = length-map (p ∷ cells) (place_of w) in
      omega (arith, few, short)

  -- The distance of a cell is at most 70 for each cell of the map.
  pub distance-most : (p : CPos) (n : ℕ) → IsDistance land p n → n ≤ 70 * (w * h)
  distance-most p n is =
      let cells = is.walk.0 in
      let apart = distinct cells p n is is.walk.1 in
      let few = length-le_from_distinct_below (map (place_of w) cells) (w * h) apart
      (below cells n (nearer cells p n n (omega arith) is is.walk.1)) in
      let short : length (map (place_of w) cells) ≡ length cells = length-map cells (place_of w) in
      let most = cost-most cells p n is.walk.1 in
      omega (arith, few, most)
