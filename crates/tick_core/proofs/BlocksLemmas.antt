-- The cells on which buildings stand, building by building.
use Rattle.std.proofs.Common.{◌≡◌, ◌≢◌, ℕ, zero, suc, ◌+◌, ◌*◌, ◌/◌, ◌%◌, ◌<◌, ◌≤◌, Bool, true, false, List, [], ◌∷◌, ◌++◌, length, take, drop, map, replicate, Some, refl, sym, ap, ap₂, ◌∙◌, add-one, append_assoc, append-nil, arith}
use Rattle.std.specs.Prelude.{◌&&◌, ◌||◌, if◌then◌else◌, not, slice_get, slice_set}
use Rattle.std.specs.List.{All, AllPairs, filter, list_any, range_with_len}
use Rattle.std.proofs.Math.Nat.{div-add-mod}
use Rattle.std.proofs.lemmas.List.Elements.{All-filter, All-head, All-tail, filter-append}
use Rattle.std.proofs.lemmas.Nat.{div-mul-add, mod-mul-add, mul-add-lt}
use Rattle.std.proofs.lemmas.Option.{get_or_from_slice_get, slice_get_within}
use Rattle.std.proofs.Common.{get_or}
use Rattle.world_units.specs.declared.cell.CPos.{CPos}
use Rattle.world_units.specs.Cells.{same_cell}
use Rattle.world_units.specs.CellEquality.{cell_decides}
use Rattle.rule_traits.specs.declared.kind.Kind.{Kind}
use Rattle.game_model.specs.declared.actor.Actor.{Actor}
use Rattle.game_model.specs.Buildings.{has_building, is_building}
use Rattle.game_model.specs.Grid.{Grid, IsOn, place_of, with_cell}
use Rattle.game_model.specs.Setup.{Setup}
use Rattle.game_model.specs.World.{is_alive}
use Rattle.game_tick.specs.Nearest.{cell_of}
use Rattle.game_tick.specs.Turn.{blocks_of}
use Rattle.tick_core.proofs.BurialLemmas.{buried_up_to, earlier, later, take_at}
use Rattle.tick_core.proofs.OrderLemmas.{blocks_same}
use Rattle.tick_core.proofs.TickLemmas.{drop_at, drop_past}

map_above :
    (f g : ℕ → Bool) (a n : ℕ) → ((j : ℕ) → a ≤ j → g j ≡ f j) →
    map f (range_with_len a n) ≡ map g (range_with_len a n)
map_above f g a zero same = refl
map_above f g a (suc n) same =
    ap₂ (λ (b : Bool) (bs : List Bool). b ∷ bs) (sym (same a (omega arith))) (map_above f g (a + 1) n (λ j above. same j (omega (arith, above))))

put :
    (f g : ℕ → Bool) (a n k : ℕ) (v : Bool) → k < n → g (a + k) ≡ v → ((j : ℕ) → j ≢ a + k → g j ≡ f j) →
    slice_set (map f (range_with_len a n)) k v ≡ map g (range_with_len a n)
put f g a zero k v within is others = absurd (omega (arith, within))
put f g a (suc n) zero v within is others =
    ap₂ (λ (b : Bool) (bs : List Bool). b ∷ bs) (sym is ∙ ap g (let e : a + 0 ≡ a = omega arith in e))
    (map_above f g (a + 1) n (λ j above. others j (λ same. omega (arith, above, same))))
put f g a (suc n) (suc k) v within is others =
    let next : a + suc k ≡ a + 1 + k = omega arith in
    ap₂ (λ (b : Bool) (bs : List Bool). b ∷ bs) (sym (others a (λ same. omega (arith, same))))
    (put f g (a + 1) n k v (omega (arith, within)) (ap g (sym next) ∙ is) (λ j other. others j (λ same. other (same ∙ next))))

abbrev the_cell : ℕ → ℕ → CPos
the_cell x y = record { x = x; y = y }

cell_again : (width : ℕ) (p : CPos) → p.x < width → cell_of width (place_of width p) ≡ p
cell_again width p within = ap₂ the_cell (mod-mul-add p.y width p.x within) (div-mul-add p.y width p.x within)

place_again : (width k : ℕ) → 0 < width → place_of width (cell_of width k) ≡ k
place_again width k wide =
    let parts : width * (k / width) + k % width ≡ k = div-add-mod k width in
    let swap : k / width * width ≡ width * (k / width) = grind arith in
    omega (arith, parts, swap)

abbrev the_grid : Setup → List Bool → Grid Bool
the_grid setup cells = record { width = setup.map.width; height = setup.map.height; cells = cells }

-- Only the flag of one cell differs.
blocks_put :
    (setup : Setup) (old new : List Actor) (p : CPos) (v : Bool) → IsOn setup.map.width setup.map.height p →
    has_building setup.rules new p ≡ v →
    ((q : CPos) → q ≢ p → has_building setup.rules new q ≡ has_building setup.rules old q) →
    with_cell (blocks_of setup old) p v ≡ blocks_of setup new
blocks_put setup old new p v on is others =
    let width : ℕ = setup.map.width in
    ap (the_grid setup)
    (put (λ place. has_building setup.rules old (cell_of width place)) (λ place. has_building setup.rules new (cell_of width place)) 0 (width * setup.map.height) (place_of width p) v
    (mul-add-lt p.y width p.x setup.map.height on.row on.column)
    (ap (has_building setup.rules new) (ap (cell_of width) (let e : 0 + place_of width p ≡ place_of width p = omega arith in e) ∙ cell_again width p on.column) ∙ is)
    (λ j other. others (cell_of width j) (λ same. other (sym (place_again width j (omega (arith, on.column))) ∙ ap (place_of width) same ∙ (let e : place_of width p ≡ 0 + place_of width p = omega arith in e)))))

-- Lists of buildings.
any_joined :
    (test : Actor → Bool) (xs ys : List Actor) → list_any test (xs ++ ys) ≡ (list_any test xs || list_any test ys)
any_joined test [] ys = refl
any_joined test (x ∷ xs) ys = ap (λ b. test x || b) (any_joined test xs ys) ∙ grouped (test x) (list_any test xs) (list_any test ys) where
  grouped : (a b c : Bool) → (a || (b || c)) ≡ ((a || b) || c)
  grouped true b c = refl
  grouped false b c = refl

or_false : (b : Bool) → (b || false) ≡ b
or_false true = refl
or_false false = refl

or_true : (b : Bool) → (b || true) ≡ true
or_true true = refl
or_true false = refl

and_false : (b : Bool) → (b && false) ≡ false
and_false true = refl
and_false false = refl

apart_cells : (c q : CPos) → q ≢ c → same_cell c q ≡ false
apart_cells c q other = by_same (same_cell c q) refl where
  by_same : (same : Bool) → same_cell c q ≡ same → same_cell c q ≡ false
  by_same true is = absurd (other (sym ((cell_decides c q).0 is)))
  by_same false is = is

own_cell : (c : CPos) → same_cell c c ≡ true
own_cell c = by_same (same_cell c c) refl where
  by_same : (same : Bool) → same_cell c c ≡ same → same_cell c c ≡ true
  by_same true is = is
  by_same false is = (cell_decides c c).1 refl

abbrev stands_at : List Kind → CPos → Actor → Bool
stands_at rules p a = is_building rules a && same_cell a.cell p

has_joined :
    (rules : List Kind) (xs ys : List Actor) (p : CPos) →
    has_building rules (xs ++ ys) p ≡ (has_building rules xs p || has_building rules ys p)
has_joined rules xs ys p = any_joined (stands_at rules p) xs ys

has_none :
    (rules : List Kind) (actors : List Actor) (p : CPos) → All (λ (a : Actor). a.cell ≢ p) actors →
    has_building rules actors p ≡ false
has_none rules [] p differ = refl
has_none rules (a ∷ actors) p differ =
    let first : same_cell a.cell p ≡ false = apart_cells a.cell p (λ same. All-head (λ (x : Actor). x.cell ≢ p) a actors differ (sym same)) in
    ap₂ (λ (b c : Bool). b || c) (ap (λ b. is_building rules a && b) first ∙ and_false (is_building rules a))
    (has_none rules actors p (All-tail (λ (x : Actor). x.cell ≢ p) a actors differ))

-- No building yet.
blank : (a n : ℕ) → replicate n false ≡ map (λ (place : ℕ). false) (range_with_len a n)
blank a zero = refl
blank a (suc n) = ap (λ l. false ∷ l) (blank (a + 1) n)

pub none_yet :
    (setup : Setup) →
    the_grid setup (replicate (setup.map.width * setup.map.height) false) ≡ blocks_of setup []
none_yet setup = ap (the_grid setup) (blank 0 (setup.map.width * setup.map.height))

-- One more actor.
marked_by :
    (setup : Setup) (front : List Actor) (a : Actor) (building : Bool) → is_building setup.rules a ≡ building →
    IsOn setup.map.width setup.map.height a.cell →
    (if building then with_cell (blocks_of setup front) a.cell true else blocks_of setup front)
    ≡ blocks_of setup (front ++ a ∷ [])
marked_by setup front a true is on =
    blocks_put setup front (front ++ a ∷ []) a.cell true on
    (has_joined setup.rules front (a ∷ []) a.cell
    ∙ ap (λ b. has_building setup.rules front a.cell || (b || false)) (ap₂ (λ (b c : Bool). b && c) is (own_cell a.cell))
    ∙ or_true (has_building setup.rules front a.cell))
    (λ q other.
    has_joined setup.rules front (a ∷ []) q
    ∙ ap (λ b. has_building setup.rules front q || (b || false)) (ap₂ (λ (b c : Bool). b && c) is (apart_cells a.cell q other))
    ∙ or_false (has_building setup.rules front q))
marked_by setup front a false is on =
    sym (blocks_same setup front (front ++ a ∷ []) (λ q.
    has_joined setup.rules front (a ∷ []) q
    ∙ ap (λ b. has_building setup.rules front q || ((b && same_cell a.cell q) || false)) is
    ∙ or_false (has_building setup.rules front q)))

pub marked_next :
    (setup : Setup) (actors : List Actor) (i : ℕ) (a : Actor) (blocks new : Grid Bool) → slice_get actors i ≡ Some a →
    IsOn setup.map.width setup.map.height a.cell → blocks ≡ blocks_of setup (take i actors) →
    new ≡ (if is_building setup.rules a then with_cell blocks a.cell true else blocks) →
    new ≡ blocks_of setup (take (i + 1) actors)
marked_next setup actors i a blocks new at on is next =
    next
    ∙ ap (λ (g : Grid Bool). if is_building setup.rules a then with_cell g a.cell true else g) is
    ∙ marked_by setup (take i actors) a (is_building setup.rules a) refl on
    ∙ ap (blocks_of setup) (sym (ap (λ n. take n actors) (add-one i) ∙ take_at actors i a at))

-- One more dead actor is gone.
abbrev clears : List Kind → Actor → Bool
clears rules a = not (is_alive a) && is_building rules a

cleared_by :
    (setup : Setup) (front : List Actor) (a : Actor) (back : List Actor) (building : Bool) → is_building setup.rules a ≡ building →
    IsOn setup.map.width setup.map.height a.cell → All (λ (x : Actor). x.cell ≢ a.cell) front →
    All (λ (x : Actor). x.cell ≢ a.cell) back →
    (if building then with_cell (blocks_of setup (front ++ a ∷ back)) a.cell false else blocks_of setup (front ++ a ∷ back))
    ≡ blocks_of setup (front ++ back)
cleared_by setup front a back true is on before after =
    blocks_put setup (front ++ a ∷ back) (front ++ back) a.cell false on
    (has_joined setup.rules front back a.cell
    ∙ ap₂ (λ (b c : Bool). b || c) (has_none setup.rules front a.cell before) (has_none setup.rules back a.cell after))
    (λ q other.
    has_joined setup.rules front back q
    ∙ sym (has_joined setup.rules front (a ∷ back) q
    ∙ ap (λ b. has_building setup.rules front q || (b || has_building setup.rules back q)) (ap₂ (λ (b c : Bool). b && c) is (apart_cells a.cell q other))))
cleared_by setup front a back false is on before after =
    sym (blocks_same setup (front ++ a ∷ back) (front ++ back) (λ q.
    has_joined setup.rules front back q
    ∙ sym (has_joined setup.rules front (a ∷ back) q
    ∙ ap (λ b. has_building setup.rules front q || ((b && same_cell a.cell q) || has_building setup.rules back q)) is)))

cleared_life :
    (setup : Setup) (actors : List Actor) (i : ℕ) (a : Actor) (alive : Bool) → is_alive a ≡ alive → slice_get actors i ≡ Some a →
    IsOn setup.map.width setup.map.height a.cell → AllPairs (λ (x y : Actor). x.cell ≢ y.cell) actors →
    (if not alive && is_building setup.rules a then with_cell (blocks_of setup (buried_up_to actors i)) a.cell false else blocks_of setup (buried_up_to actors i))
    ≡ blocks_of setup (filter is_alive (take i actors ++ a ∷ []) ++ drop (suc i) actors)
cleared_life setup actors i a true life at on apart =
    let front : List Actor = filter is_alive (take i actors) in
    let back : List Actor = drop (suc i) actors in
    let one : filter is_alive (a ∷ []) ≡ a ∷ [] = rw life refl in
    ap (λ l. blocks_of setup (front ++ l)) (drop_at actors i a at)
    ∙ ap (blocks_of setup) (sym (ap (λ l. l ++ back) (filter-append is_alive (take i actors) (a ∷ []) ∙ ap (λ r. front ++ r) one) ∙ append_assoc front (a ∷ []) back))
cleared_life setup actors i a false life at on apart =
    let front : List Actor = filter is_alive (take i actors) in
    let back : List Actor = drop (suc i) actors in
    let one : filter is_alive (a ∷ []) ≡ [] = rw life refl in
    let R : Actor → Actor → Type 0 = λ x y. x.cell ≢ y.cell in
    let within : i < length actors = slice_get_within actors i a at in
    let here : a ≡ get_or actors i a = sym (get_or_from_slice_get actors i a a at) in
    ap (λ (l : List Actor). if is_building setup.rules a then with_cell (blocks_of setup (front ++ l)) a.cell false else blocks_of setup (front ++ l)) (drop_at actors i a at)
    ∙ cleared_by setup front a back (is_building setup.rules a) refl on
    (All-filter is_alive (λ (x : Actor). x.cell ≢ a.cell) (take i actors) (earlier R actors i a within here apart))
    (λ k d inside same. later R actors i a within here apart k d inside (sym same))
    ∙ ap (blocks_of setup) (sym (ap (λ l. l ++ back) (filter-append is_alive (take i actors) (a ∷ []) ∙ ap (λ r. front ++ r) one ∙ append-nil front)))

pub cleared_next :
    (setup : Setup) (actors : List Actor) (i : ℕ) (a : Actor) (blocks new : Grid Bool) → slice_get actors i ≡ Some a →
    IsOn setup.map.width setup.map.height a.cell → AllPairs (λ (x y : Actor). x.cell ≢ y.cell) actors →
    blocks ≡ blocks_of setup (buried_up_to actors i) →
    new ≡ (if not (is_alive a) && is_building setup.rules a then with_cell blocks a.cell false else blocks) →
    new ≡ blocks_of setup (buried_up_to actors (i + 1))
cleared_next setup actors i a blocks new at on apart is next =
    next
    ∙ ap (λ (g : Grid Bool). if not (is_alive a) && is_building setup.rules a then with_cell g a.cell false else g) is
    ∙ cleared_life setup actors i a (is_alive a) refl at on apart
    ∙ ap (λ l. blocks_of setup (filter is_alive l ++ drop (suc i) actors)) (sym (take_at actors i a at))
    ∙ ap (λ n. blocks_of setup (buried_up_to actors n)) (sym (add-one i))

taken : {A : Type 0} (xs : List A) (n : ℕ) → length xs ≤ n → take n xs ≡ xs
taken [] zero past = refl
taken [] (suc n) past = refl
taken (x ∷ xs) zero past = absurd (omega (arith, past))
taken (x ∷ xs) (suc n) past = ap (λ l. x ∷ l) (taken xs n (omega (arith, past)))

pub cleared_all :
    (setup : Setup) (actors : List Actor) (i : ℕ) (blocks : Grid Bool) → length actors ≤ i →
    blocks ≡ blocks_of setup (buried_up_to actors i) → blocks ≡ blocks_of setup (filter is_alive actors)
cleared_all setup actors i blocks past is =
    is ∙ ap₂ (λ (l r : List Actor). blocks_of setup (filter is_alive l ++ r)) (taken actors i past) (drop_past actors i past)
    ∙ ap (blocks_of setup) (append-nil (filter is_alive actors))
