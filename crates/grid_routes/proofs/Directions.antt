-- A step back leads to where a step came from.
use Rattle.std.proofs.Common.{◌≡◌, ℕ, ◌+◌, ◌-◌, ◌<◌, ◌≤◌, ◌||◌, nat_lt, Bool, true, false, cond, Option, Some, None, refl, sym, ◌∙◌, ap, ap₂, arith}
use Rattle.std.proofs.lemmas.Bool.Decides.{nat_tests}
use Rattle.world_units.specs.declared.cell.CPos.{CPos}
use Rattle.world_units.specs.Directions.{opposite_of, east_of, west_of, north_of, south_of, shifted, cell_at, step_of}

stayed : (b : Bool) (x m : ℕ) → cond b None (Some x) ≡ Some m → (b ≡ false) × (x ≡ m)
stayed true x m some = absurd (cc)
stayed false x m some = (refl, cc)

shifted-back : (n up down m : ℕ) → n < 256 → shifted n up down ≡ Some m → shifted m down up ≡ Some n
shifted-back n up down m low there =
    let parts = stayed (nat_lt (n + up) down || nat_lt (255 + down) (n + up)) (n + up - down) m there in
    let inside : (nat_lt (n + up) down || nat_lt (255 + down) (n + up)) ≡ false = parts.0 in
    let sum : n + up - down ≡ m = parts.1 in
    let enough : down ≤ n + up = grind (arith, nat_tests) in
    let back : (nat_lt (m + down) up || nat_lt (255 + up) (m + down)) ≡ false = grind (arith, nat_tests) in
    let same : m + down - up ≡ n = omega arith in
    rw (back, same) refl

-- Where a shift leads.
pub moved : (n up down m : ℕ) → shifted n up down ≡ Some m → m + down ≡ n + up
moved n up down m there =
    let parts = stayed (nat_lt (n + up) down || nat_lt (255 + down) (n + up)) (n + up - down) m there in
    let inside : (nat_lt (n + up) down || nat_lt (255 + down) (n + up)) ≡ false = parts.0 in
    let sum : n + up - down ≡ m = parts.1 in
    let enough : down ≤ n + up = grind (arith, nat_tests) in
    omega arith

pub both : (a b : Option ℕ) (q : CPos) → cell_at a b ≡ Some q → (a ≡ Some q.x) × (b ≡ Some q.y)
both (Some x) (Some y) q some = (ap Some (cc), ap Some (cc))
both (Some x) None q some = absurd (cc)
both None b q some = absurd (cc)

east-back : (d : ℕ) → d < 8 → east_of (opposite_of d) ≡ west_of d
east-back d low = grind (arith, nat_tests)

west-back : (d : ℕ) → d < 8 → west_of (opposite_of d) ≡ east_of d
west-back d low = grind (arith, nat_tests)

south-back : (d : ℕ) → d < 8 → south_of (opposite_of d) ≡ north_of d
south-back d low = grind (arith, nat_tests)

north-back : (d : ℕ) → d < 8 → north_of (opposite_of d) ≡ south_of d
north-back d low = grind (arith, nat_tests)

pub step-back :
    (p q : CPos) (d : ℕ) → p.x < 256 → p.y < 256 → d < 8 → step_of p d ≡ Some q →
    step_of q (opposite_of d) ≡ Some p
step-back p q d wide high low there =
    let parts = both (shifted p.x (east_of d) (west_of d)) (shifted p.y (south_of d) (north_of d)) q there in
    let x : shifted q.x (west_of d) (east_of d) ≡ Some p.x = shifted-back p.x (east_of d) (west_of d) q.x wide parts.0 in
    let y : shifted q.y (north_of d) (south_of d) ≡ Some p.y = shifted-back p.y (south_of d) (north_of d) q.y high parts.1 in
    rw (east-back d low, west-back d low, south-back d low, north-back d low, x, y) refl

pub opposite-back : (d : ℕ) → d < 8 → opposite_of (opposite_of d) ≡ d
opposite-back d low = omega arith

pub opposite-low : (d : ℕ) → opposite_of d < 8
opposite-low d = omega arith

shifted-low : (n up down m : ℕ) → shifted n up down ≡ Some m → m < 256
shifted-low n up down m there =
    let parts = stayed (nat_lt (n + up) down || nat_lt (255 + down) (n + up)) (n + up - down) m there in
    let inside : (nat_lt (n + up) down || nat_lt (255 + down) (n + up)) ≡ false = parts.0 in
    let sum : n + up - down ≡ m = parts.1 in
    grind (arith, nat_tests)

unshifted : (n : ℕ) → n < 256 → shifted n 0 0 ≡ Some n
unshifted n low =
    let inside : (nat_lt (n + 0) 0 || nat_lt (255 + 0) (n + 0)) ≡ false = grind (arith, nat_tests) in
    let same : n + 0 - 0 ≡ n = omega arith in
    rw (inside, same) refl

-- The cells beside a step across a corner are the neighbours of both its cells that share a side.
module _ (q p : CPos) (wide : q.x < 256) (high : q.y < 256) where
  beside :
      (east west south north : ℕ) → shifted q.x east west ≡ Some p.x → shifted q.y south north ≡ Some p.y →
      (cell_at (shifted p.x west east) (shifted p.y 0 0) ≡ cell_at (shifted q.x 0 0) (shifted q.y south north))
      × (cell_at (shifted p.x 0 0) (shifted p.y north south) ≡ cell_at (shifted q.x east west) (shifted q.y 0 0))
  beside east west south north x y =
      let back_x = shifted-back q.x east west p.x wide x in
      let back_y = shifted-back q.y south north p.y high y in
      let stay_x = unshifted p.x (shifted-low q.x east west p.x x) in
      let stay_y = unshifted p.y (shifted-low q.y south north p.y y) in
      let here_x = unshifted q.x wide in
      let here_y = unshifted q.y high in
      (ap₂ cell_at back_x stay_y ∙ sym (ap₂ cell_at here_x y), ap₂ cell_at stay_x back_y ∙ sym (ap₂ cell_at x here_y))

  pub beside-north_east : step_of q 1 ≡ Some p → (step_of p 6 ≡ step_of q 0) × (step_of p 4 ≡ step_of q 2)
  beside-north_east there =
      let parts = both (shifted q.x 1 0) (shifted q.y 0 1) p there in
      beside 1 0 0 1 parts.0 parts.1

  pub beside-south_east : step_of q 3 ≡ Some p → (step_of p 6 ≡ step_of q 4) × (step_of p 0 ≡ step_of q 2)
  beside-south_east there =
      let parts = both (shifted q.x 1 0) (shifted q.y 1 0) p there in
      beside 1 0 1 0 parts.0 parts.1

  pub beside-south_west : step_of q 5 ≡ Some p → (step_of p 2 ≡ step_of q 4) × (step_of p 0 ≡ step_of q 6)
  beside-south_west there =
      let parts = both (shifted q.x 0 1) (shifted q.y 1 0) p there in
      beside 0 1 1 0 parts.0 parts.1

  pub beside-north_west : step_of q 7 ≡ Some p → (step_of p 2 ≡ step_of q 0) × (step_of p 4 ≡ step_of q 6)
  beside-north_west there =
      let parts = both (shifted q.x 0 1) (shifted q.y 0 1) p there in
      beside 0 1 0 1 parts.0 parts.1
