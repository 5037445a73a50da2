-- Numbers of cells after one is set.
use Rattle.std.proofs.Common.{◌≡◌, ◌≢◌, ℕ, ◌*◌, ◌<◌, Bool, true, false, cond, length, refl, arith, get_or-set_other, get_or-set_same}
use Rattle.std.proofs.Common.{ap₂}
use Rattle.std.proofs.lemmas.Bool.Decides.{nat_tests}
use Rattle.std.proofs.lemmas.Nat.{mul-add-lt, same_from_place}
use Rattle.world_units.specs.declared.cell.CPos.{CPos}
use Rattle.game_model.specs.Grid.{Grid, IsOn, is_on, place_of, with_cell}
use Rattle.grid_routes.specs.Values.{value_in}

-- A cell's place is within the list.
pub placed : (w h : ℕ) (p : CPos) (n : ℕ) → n ≡ w * h → IsOn w h p → place_of w p < n
placed w h p n size on = omega (arith, mul-add-lt p.y w p.x h on.row on.column)

-- Two cells with one place are one.
pub apart : (w : ℕ) (p q : CPos) → p.x < w → q.x < w → place_of w p ≡ place_of w q → p ≡ q
apart w p q here there same =
    let parts = same_from_place p.y p.x q.y q.x w here there same in
    let made : ℕ → ℕ → CPos = λ x y. record { x = x; y = y } in
    ap₂ made parts.1 parts.0

pub is_on-true : (w h : ℕ) (p : CPos) → IsOn w h p → is_on w h p ≡ true
is_on-true w h p on = let a : p.x < w = on.column in let b : p.y < h = on.row in grind (arith, nat_tests)

pub is_on-on : (w h : ℕ) (p : CPos) → is_on w h p ≡ true → IsOn w h p
is_on-on w h p on = record { column = grind (arith, nat_tests); row = grind (arith, nat_tests) }

-- The number that was set.
pub set-here :
    (d : ℕ) (g : Grid ℕ) (p : CPos) (v : ℕ) → length g.cells ≡ g.width * g.height → IsOn g.width g.height p →
    value_in d (with_cell g p v) p ≡ v
unfolding value_in
set-here d g p v size on =
    let within : place_of g.width p < length g.cells = placed g.width g.height p (length g.cells) size on in
    rw (is_on-true g.width g.height p on) (get_or-set_same g.cells (place_of g.width p) v d within)

chosen : (b : Bool) (x y d : ℕ) → (b ≡ true → x ≡ y) → cond b x d ≡ cond b y d
chosen true x y d same = same refl
chosen false x y d same = refl

-- The others stay.
pub set-other :
    (d : ℕ) (g : Grid ℕ) (p : CPos) (v : ℕ) (q : CPos) → p.x < g.width → q ≢ p →
    value_in d (with_cell g p v) q ≡ value_in d g q
unfolding value_in
set-other d g p v q here other =
    chosen (is_on g.width g.height q) _ _ d (λ (on : is_on g.width g.height q ≡ true).
    let there : q.x < g.width = (is_on-on g.width g.height q on).column in
    get_or-set_other g.cells (place_of g.width p) (place_of g.width q) v d
    (λ (same : place_of g.width q ≡ place_of g.width p). other (apart g.width q p there here same)))

pub ruleset set_cells = (set-here, set-other)
