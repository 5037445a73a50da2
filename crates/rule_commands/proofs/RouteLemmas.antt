-- A route that takes the best directions is the one that is printed.
use Rattle.std.proofs.Common.{◌≡◌, ◌≢◌, ◌<◌, ◌≤◌, ◌+◌, ◌*◌, ◌&&◌, ◌||◌, ℕ, zero, suc, Bool, true, false, cond, List, [], ◌∷◌, length, map, Option, None, Some, Result, Ok, Err, IfOk, inl, inr, refl, sym, ap, ap₂, subst, ◌∙◌, arith}
use Rattle.std.specs.Prelude.{find, option_map}
use Rattle.std.specs.List.{IsDistinct, AllByRecursion, list_any}
use Rattle.std.proofs.lemmas.Bool.{cases_eq}
use Rattle.std.proofs.lemmas.List.{length-map}
use Rattle.std.proofs.lemmas.Bool.Decides.{eqb_tells}
use Rattle.std.proofs.lemmas.Map.Steps.{length-le_from_distinct_below}
use Rattle.std.proofs.Math.Dec.{eqb}
use Rattle.world_units.specs.declared.cell.CPos.{CPos}
use Rattle.world_units.specs.Cells.{same_cell}
use Rattle.world_units.specs.CellEquality.{cell_decides}
use Rattle.world_units.specs.Directions.{step_of}
use Rattle.game_model.specs.declared.map.Map.{Map}
use Rattle.rule_traits.specs.declared.trait_fields.Costs.{Costs}
use Rattle.game_model.specs.Grid.{Grid, HasSize, IsOn, is_on, place_of}
use Rattle.game_model.specs.Walks.{Land, IsStep, IsWalk, IsDistance, HasNoWalk, LeadsOn, IsBest, FollowsBest, IsRouteOver, step_cost_of, entry_cost_of, land_of}
use Rattle.game_model.specs.BestDirection.{directions, by_direction, enough_steps, distance_of, is_cost, leads_on, best_dir_of}
use Rattle.grid_routes.specs.declared.route.Route.{Route}
use Rattle.grid_routes.specs.Steps.{IsRoute}
use Rattle.grid_routes.proofs.Cells.{apart, placed, is_on-on}
use Rattle.rule_commands.specs.Routes.{and_after, entered_from, route_of}
use Rattle.rule_commands.specs.Routes as routes
use Rattle.rule_commands.specs.FoundRoute.{found_route}
use Rattle.rule_commands.proofs.LeastLemmas.{IsWalked, IsWayOn, walked, way_on, direction_cost, distance_found, no_distance}

eqb_same : (a b : ℕ) → eqb a b ≡ true → a ≡ b
eqb_same a b is = elim (eqb_tells a b) [ inl same ↦ same.1 | inr other ↦ absurd cc ]

-- ---- the best direction

is_sum : (a b : ℕ) → a ≡ b → is_cost (Some a) (Some b) ≡ true
is_sum a b same = elim (eqb_tells a b) [ inl met ↦ met.0 | inr other ↦ absurd (other.1 same) ]

-- Both are this cost.
record IsCost (first second : Option ℕ) : Type 0 where
  cost : ℕ
  here : first ≡ Some cost
  there : second ≡ Some cost

cost_of : (first second : Option ℕ) → is_cost first second ≡ true → IsCost first second
cost_of None second is = absurd cc
cost_of (Some a) None is = absurd cc
cost_of (Some a) (Some b) is =
    elim (eqb_tells a b) [
      | inl same ↦ record { cost = b; here = ap Some same.1; there = refl }
      | inr other ↦ let e : eqb a b ≡ true = is in absurd cc
    ]

-- A direction that leads on by the test does.
leads : (m : Map) (land : Land) (p : CPos) (d n : ℕ) → IsDistance land p n → distance_of m land p ≡ Some n → d < 8 → leads_on m land p d ≡ true → LeadsOn land p d
unfolding distance_of
leads m land p d n distance found low test =
    let both : IsCost (by_direction land (distance_of m land) p d) (distance_of m land p) = cost_of (by_direction land (distance_of m land) p d) (distance_of m land p) test in
    let same : both.cost ≡ n = cc (both.there, found) in
    let way : IsWayOn land (distance_of m land) p d both.cost = way_on land (distance_of m land) p d both.cost low both.here in
    let rest : IsWalked land way.entered way.left = walked land (enough_steps m) way.entered way.left way.there in
    record {
      entered = way.entered;
      cost = way.cost;
      left = way.left;
      step = way.step;
      here = subst (IsDistance land p) (sym same ∙ way.sum) distance;
      there = record {
        walk = (rest.cells, rest.walk);
        least = λ cells k walk.
            let least : n ≤ way.cost + k = distance.least (way.entered ∷ cells) (way.cost + k) (d, way.cost, k, way.step, refl, walk) in
            omega (arith, least, same, way.sum);
      };
    }

-- The numbers from one on, so many of them.
abbrev counting : ℕ → ℕ → List ℕ
counting from zero = []
counting from (suc more) = from ∷ counting (from + 1) more

first_found :
    (test : ℕ → Bool) (from count d : ℕ) → from ≤ d → d < from + count → test d ≡ true → ((e : ℕ) → e < d → test e ≡ false) →
    find test (counting from count) ≡ Some d
first_found test from zero d least most is others = absurd (omega arith)
first_found test from (suc more) d least most is others =
    elim (cases_eq from d) [
      | inl same ↦
          let met : test from ≡ true = ap test same ∙ is in
          ap (λ b. cond b (Some from) (find test (counting (from + 1) more))) met ∙ ap Some same
      | inr other ↦
          let unmet : test from ≡ false = others from (omega arith) in
          ap (λ b. cond b (Some from) (find test (counting (from + 1) more))) unmet
          ∙ first_found test (from + 1) more d (omega arith) (omega arith) is others
    ]

fails : (b : Bool) → (b ≡ true → ⊥) → b ≡ false
fails true never = absurd (never refl)
fails false never = refl

best_found :
    (m : Map) (land : Land) (p : CPos) (d n : ℕ) → IsDistance land p n → distance_of m land p ≡ Some n → IsBest land p d →
    leads_on m land p d ≡ true → find (leads_on m land p) directions ≡ Some d
best_found m land p d n distance found best leads_here =
    first_found (leads_on m land p) 0 8 d (omega arith) (omega (arith, best.leads.step.direction)) leads_here
    (λ e less. fails (leads_on m land p e) (λ leads_there.
    let low : d ≤ e = best.least e (leads m land p e n distance found (omega (arith, best.leads.step.direction)) leads_there) in
    omega (arith, low, less)))

not_goal : (land : Land) (p : CPos) (d : ℕ) → LeadsOn land p d → p ≢ land.goal
not_goal land p d leads same =
    let least : leads.cost + leads.left ≤ 0 = leads.here.least [] 0 (same, refl) in
    omega (arith, least, leads.step.allowed)

-- ---- what follows the best directions is a walk of least cost

same_distance : (land : Land) (p : CPos) (a b : ℕ) → IsDistance land p a → IsDistance land p b → a ≡ b
same_distance land p a b first second =
    let up : a ≤ b = first.least second.walk.0 b second.walk.1 in
    let down : b ≤ a = second.least first.walk.0 a first.walk.1 in
    omega (arith, up, down)

-- What the best direction of a cell enters, and what is left then.
record Goes (land : Land) (p q : CPos) (d n : ℕ) : Type 0 where
  cost : ℕ
  left : ℕ
  step : IsStep land.entry_cost p d q cost
  sum : n ≡ cost + left
  there : IsDistance land q left

goes : (land : Land) (p q : CPos) (d n : ℕ) → IsDistance land p n → LeadsOn land p d → step_of p d ≡ Some q → Goes land p q d n
goes land p q d n distance leads enters =
    let e : Some q ≡ Some leads.entered = sym enters ∙ leads.step.enters in
    let one : leads.entered ≡ q = cc in
    record {
      cost = leads.cost;
      left = leads.left;
      step = subst (λ (x : CPos). IsStep land.entry_cost p d x leads.cost) one leads.step;
      sum = same_distance land p n (leads.cost + leads.left) distance leads.here;
      there = subst (λ (x : CPos). IsDistance land x leads.left) one leads.there;
    }

walk_of : (land : Land) (cells : List CPos) (p : CPos) (n : ℕ) → IsDistance land p n → FollowsBest land p cells → IsWalk land p cells n
walk_of land [] p n distance follows =
    let least : n ≤ 0 = distance.least [] 0 (follows, refl) in (follows, omega (arith, least))
walk_of land (q ∷ cells) p n distance follows =
    let way : Goes land p q follows.0 n = goes land p q follows.0 n distance follows.1.leads follows.2 in
    (follows.0, way.cost, way.left, way.step, way.sum, walk_of land cells q way.left way.there follows.3)

-- ---- the walk that is printed

stays : (m : Map) (land : Land) (p : CPos) (steps : ℕ) → p ≡ land.goal → entered_from m land steps p ≡ []
unfolding best_dir_of
stays m land p zero same = refl
stays m land p (suc more) same =
    ap (λ b. routes.by_direction (entered_from m land more) p (cond b None (find (leads_on m land p) directions))) ((cell_decides p land.goal).1 same)

best_dir : (m : Map) (land : Land) (p : CPos) (d : ℕ) → p ≢ land.goal → find (leads_on m land p) directions ≡ Some d → best_dir_of m land p ≡ Some d
unfolding best_dir_of
best_dir m land p d other found =
    ap (λ b. cond b None (find (leads_on m land p) directions)) (fails (same_cell p land.goal) (λ same. other ((cell_decides p land.goal).0 same))) ∙ found

distance_is :
    (m : Map) (land : Land) (cells : List CPos) (p : CPos) (n : ℕ) → IsDistance land p n → FollowsBest land p cells → length cells ≤ enough_steps m →
    distance_of m land p ≡ Some n
unfolding distance_of
distance_is m land cells p n distance follows short =
    distance_found land (enough_steps m) p n cells distance (walk_of land cells p n distance follows) short

entered_is :
    (m : Map) (land : Land) (cells : List CPos) (steps : ℕ) (p : CPos) (n : ℕ) → IsDistance land p n → FollowsBest land p cells →
    length cells ≤ steps → length cells ≤ enough_steps m → entered_from m land steps p ≡ cells
entered_is m land [] steps p n distance follows within short = stays m land p steps follows
entered_is m land (q ∷ cells) zero p n distance follows within short = absurd (omega arith)
entered_is m land (q ∷ cells) (suc more) p n distance follows within short =
    let d : ℕ = follows.0 in
    let best : IsBest land p d = follows.1 in
    let way : Goes land p q d n = goes land p q d n distance best.leads follows.2 in
    let here : distance_of m land p ≡ Some n = distance_is m land (q ∷ cells) p n distance follows short in
    let there : distance_of m land q ≡ Some way.left = distance_is m land cells q way.left way.there follows.3 (omega arith) in
    let cost : by_direction land (distance_of m land) p d ≡ Some (way.cost + way.left) = direction_cost land (distance_of m land) p q d way.cost way.left way.step there in
    let leads_here : leads_on m land p d ≡ true = ap₂ is_cost cost here ∙ is_sum (way.cost + way.left) n (sym way.sum) in
    let found : best_dir_of m land p ≡ Some d = best_dir m land p d (not_goal land p d best.leads) (best_found m land p d n distance here best leads_here) in
    ap (routes.by_direction (entered_from m land more) p) found
    ∙ ap (and_after (entered_from m land more)) follows.2
    ∙ ap (λ (rest : List CPos). q ∷ rest) (entered_is m land cells more q way.left way.there follows.3 (omega arith) (omega arith))

-- ---- it enters no cell twice, so it is short

-- Only cells of a map of this size can be entered.
pub record IsInside (land : Land) (width height : ℕ) : Type 0 where
  pub each : (q : CPos) → 0 < land.entry_cost q → IsOn width height q

zero_either : (b c : Bool) → ◌≡◌ {A = ℕ} (cond b (5 * 0) (cond c (7 * 0) 0)) 0
zero_either true c = refl
zero_either false true = refl
zero_either false false = refl

no_step_cost : (entry_cost : CPos → ℕ) (p : CPos) (d : ℕ) (q : CPos) → entry_cost q ≡ 0 → step_cost_of entry_cost p d q ≡ 0
unfolding step_cost_of
no_step_cost entry_cost p d q free = rw free (zero_either _ _)

on_map : (land : Land) (w h : ℕ) → IsInside land w h → (p q : CPos) (d k : ℕ) → IsStep land.entry_cost p d q k → IsOn w h q
on_map land w h inside p q d k step =
    elim (cases_eq (land.entry_cost q) 0) [
      | inl none ↦ let free = no_step_cost land.entry_cost p d q none in absurd (omega (arith, free, step.cost, step.allowed))
      | inr some ↦ inside.each q (omega arith)
    ]

-- A cell on the map with a distance below this one.
record IsNearer (land : Land) (w h n : ℕ) (q : CPos) : Type 0 where
  left : ℕ
  distance : IsDistance land q left
  nearer : left < n
  on : IsOn w h q

abbrev Each : (CPos → Type 0) → List CPos → Type 0
Each P [] = Unit {0}
Each P (q ∷ cells) = P q × Each P cells

each_nearer : (land : Land) (w h a b : ℕ) (cells : List CPos) → a ≤ b → Each (IsNearer land w h a) cells → Each (IsNearer land w h b) cells
each_nearer land w h a b [] less each = tt
each_nearer land w h a b (q ∷ cells) less each =
    (record { left = each.0.left; distance = each.0.distance; nearer = omega (arith, less, each.0.nearer); on = each.0.on }, each_nearer land w h a b cells less each.1)

nearer : (land : Land) (w h : ℕ) → IsInside land w h → (cells : List CPos) (p : CPos) (n : ℕ) → IsDistance land p n → FollowsBest land p cells → Each (IsNearer land w h n) cells
nearer land w h inside [] p n distance follows = tt
nearer land w h inside (q ∷ cells) p n distance follows =
    let way : Goes land p q follows.0 n = goes land p q follows.0 n distance follows.1.leads follows.2 in (
      record {
        left = way.left;
        distance = way.there;
        nearer = omega (arith, way.sum, way.step.allowed);
        on = on_map land w h inside p q follows.0 way.cost way.step;
      },
      each_nearer land w h way.left n cells (omega (arith, way.sum)) (nearer land w h inside cells q way.left way.there follows.3),
    )

-- A cell is apart from cells that are nearer to the goal.
apart_from :
    (land : Land) (w h n : ℕ) (q : CPos) → IsOn w h q → IsDistance land q n → (cells : List CPos) → Each (IsNearer land w h n) cells →
    AllByRecursion (λ (place : ℕ). eqb (place_of w q) place ≡ false) (map (place_of w) cells)
apart_from land w h n q on distance [] each = tt
apart_from land w h n q on distance (r ∷ cells) each = (
  fails (eqb (place_of w q) (place_of w r)) (λ same.
      let one : q ≡ r = apart w q r on.column each.0.on.column (eqb_same (place_of w q) (place_of w r) same) in
      let there : IsDistance land q each.0.left = subst (λ (x : CPos). IsDistance land x each.0.left) (sym one) each.0.distance in
      let sum : n ≡ each.0.left = same_distance land q n each.0.left distance there in
      omega (arith, sum, each.0.nearer)),
  apart_from land w h n q on distance cells each.1,
)

distinct :
    (land : Land) (w h : ℕ) → IsInside land w h → (cells : List CPos) (p : CPos) (n : ℕ) → IsDistance land p n → FollowsBest land p cells →
    IsDistinct eqb (map (place_of w) cells)
unfolding IsDistinct
distinct land w h inside [] p n distance follows = tt
distinct land w h inside (q ∷ cells) p n distance follows =
    let way : Goes land p q follows.0 n = goes land p q follows.0 n distance follows.1.leads follows.2 in (
      apart_from land w h way.left q (on_map land w h inside p q follows.0 way.cost way.step) way.there cells (nearer land w h inside cells q way.left way.there follows.3),
      distinct land w h inside cells q way.left way.there follows.3,
    )

places_low :
    (land : Land) (w h n : ℕ) (cells : List CPos) → Each (IsNearer land w h n) cells →
    (place : ℕ) → list_any (eqb place) (map (place_of w) cells) ≡ true → place < w * h
places_low land w h n [] each place is = absurd cc
places_low land w h n (q ∷ cells) each place is =
    elim (eqb_tells place (place_of w q)) [
      | inl same ↦ let low : place_of w q < w * h = placed w h q (w * h) refl each.0.on in omega (arith, low, same.1)
      | inr other ↦
          let later : list_any (eqb place) (map (place_of w) cells) ≡ true =
          sym (ap (λ b. b || list_any (eqb place) (map (place_of w) cells)) other.0) ∙ is in
          places_low land w h n cells each.1 place later
    ]

pub short_walk :
    (land : Land) (w h : ℕ) → IsInside land w h → (cells : List CPos) (p : CPos) (n : ℕ) → IsDistance land p n → FollowsBest land p cells →
    length cells ≤ w * h
short_walk land w h inside cells p n distance follows =
    let most : length (map (place_of w) cells) ≤ w * h =
    length-le_from_distinct_below (map (place_of w) cells) (w * h) (distinct land w h inside cells p n distance follows)
    (places_low land w h n cells (nearer land w h inside cells p n distance follows)) in
    let same : length (map (place_of w) cells) ≡ length cells = length-map cells (place_of w) in
    omega (arith, most, same)

-- ---- the route

route_there :
    (m : Map) (land : Land) (from : CPos) (cost : ℕ) (cells : List CPos) → IsInside land m.width m.height → from ≢ land.goal →
    IsRouteOver land from cost cells → Some (cost, cells) ≡ route_of m land from
unfolding route_of
route_there m land from cost cells inside other route =
    let distance : IsDistance land from cost = record { walk = (route.entered, route.walk); least = route.least } in
    let short : length route.entered ≤ m.width * m.height = short_walk land m.width m.height inside route.entered from cost distance route.best in
    let enough : length route.entered ≤ enough_steps m = omega (arith, short) in
    let found : distance_of m land from ≡ Some cost = distance_is m land route.entered from cost distance route.best enough in
    let entered : entered_from m land (enough_steps m) from ≡ route.entered = entered_is m land route.entered (enough_steps m) from cost distance route.best enough enough in
    let differs : same_cell from land.goal ≡ false = fails (same_cell from land.goal) (λ same. other ((cell_decides from land.goal).0 same)) in
    sym (ap (λ b. cond b None (option_map (λ cost. (cost, from ∷ entered_from m land (enough_steps m) from)) (distance_of m land from))) differs
    ∙ ap (option_map (λ cost. (cost, from ∷ entered_from m land (enough_steps m) from))) found
    ∙ ap (λ (rest : List CPos). Some (cost, from ∷ rest)) entered
    ∙ ap (λ (all : List CPos). Some (cost, all)) (sym route.all))

no_route : (m : Map) (land : Land) (from : CPos) → from ≢ land.goal → HasNoWalk land from → None ≡ route_of m land from
unfolding route_of distance_of
no_route m land from other none =
    let differs : same_cell from land.goal ≡ false = fails (same_cell from land.goal) (λ same. other ((cell_decides from land.goal).0 same)) in
    sym (ap (λ b. cond b None (option_map (λ cost. (cost, from ∷ entered_from m land (enough_steps m) from)) (distance_of m land from))) differs
    ∙ ap (option_map (λ cost. (cost, from ∷ entered_from m land (enough_steps m) from))) (no_distance land (enough_steps m) from none))

pub at_goal_none : (m : Map) (land : Land) (from : CPos) → from ≡ land.goal → None ≡ route_of m land from
unfolding route_of
at_goal_none m land from same =
    sym (ap (λ b. cond b None (option_map (λ cost. (cost, from ∷ entered_from m land (enough_steps m) from)) (distance_of m land from))) ((cell_decides from land.goal).1 same))

pub route_is :
    (m : Map) (land : Land) (from : CPos) (route : Option Route) → IsInside land m.width m.height → from ≢ land.goal → IsRoute land from route →
    found_route route ≡ route_of m land from
route_is m land from (Some route) inside other is = route_there m land from route.cost route.cells inside other is.1
route_is m land from None inside other (inl same) = absurd (other same)
route_is m land from None inside other (inr none) = no_route m land from other none

-- ---- over a map

chosen_some : (b : Bool) (x : ℕ) → 0 < cond b x 0 → b ≡ true
chosen_some true x some = refl
chosen_some false x some = absurd (omega arith)

and_first : (a b : Bool) → a && b ≡ true → a ≡ true
and_first true b is = refl
and_first false b is = is

pub inside_of :
    (m : Map) (built : Grid Bool) (costs : Costs) (goal : CPos) → HasSize m.width m.height m.terrain → IsInside (land_of m built costs goal) m.width m.height
unfolding entry_cost_of
inside_of m built costs goal size = record {
  each = λ q some.
      let all = chosen_some _ _ some in
      let on = is_on-on m.terrain.width m.terrain.height q (and_first (is_on m.terrain.width m.terrain.height q) _ all) in
      record { column = rw size.width at on.column; row = rw size.height at on.row };
}

pub walk_is :
    {E : Type 0} (m : Map) (built : Grid Bool) (costs : Costs) (goal from : CPos) (walk : Result (Option Route) E) →
    HasSize m.width m.height m.terrain → from ≢ goal → IfOk walk (IsRoute (land_of m built costs goal) from) →
    IfOk walk (λ route. found_route route ≡ route_of m (land_of m built costs goal) from)
walk_is m built costs goal from (Ok route) size other is =
    route_is m (land_of m built costs goal) from route (inside_of m built costs goal size) other is
walk_is m built costs goal from (Err error) size other is = tt
