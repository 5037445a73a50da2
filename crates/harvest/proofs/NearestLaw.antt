-- The definition of the nearest ore is the least rank of the cells with ore.
use Rattle.std.proofs.Common.{◌≡◌, ℕ, zero, suc, ◌+◌, ◌*◌, ◌/◌, ◌%◌, ◌<◌, ◌≤◌, ◌⊎◌, nat_lt, Bool, true, false, map, Option, Some, None, inl, inr, refl, sym, subst, ap, ap₂, ◌∙◌, arith}
use Rattle.std.specs.List.{filter, fold, range_with_len}
use Rattle.std.proofs.Math.Nat.{div-add-mod, mod-lt, div-lt_iff_lt-mul}
use Rattle.std.proofs.lemmas.Bool.Decides.{eqb_tells, nat_tests}
use Rattle.std.proofs.lemmas.Nat.{mul-add-lt, div-mul-add, mod-mul-add}
use Rattle.world_units.specs.declared.cell.CPos.{CPos}
use Rattle.world_units.specs.Cells.{dist_sq_of}
use Rattle.game_model.specs.Grid.{Grid, IsOn, place_of}
use Rattle.game_model.specs.OreRows.{has_ore}
use Rattle.game_tick.specs.Nearest.{lesser_by, first_least, cell_of, ore_at, nearest_ore}
use Rattle.harvest.specs.Ranks.{rank_of, IsRich, IsLeast, IsNearestOre}
use Rattle.harvest.proofs.Ranking.{small_area}

-- a cell that passes a test, by its place
record IsPlaced (width : ℕ) (test : CPos → Bool) (a b : ℕ) (p : CPos) : Type 0 where
  at : ℕ
  least : a ≤ at
  most : at < b
  is : p ≡ cell_of width at
  some : test p ≡ true

place_is : (width k : ℕ) → 0 < width → place_of width (cell_of width k) ≡ k
place_is width k wide = let parts : width * (k / width) + k % width ≡ k = div-add-mod k width in let swap : k / width * width ≡ width * (k / width) = grind arith in omega (arith, parts, swap)

lt_tells : (a b : ℕ) → ((nat_lt a b ≡ true) × (a < b)) ⊎ ((nat_lt a b ≡ false) × (b ≤ a))
lt_tells a b = cases (nat_lt a b) refl
  where
    cases : (t : Bool) → nat_lt a b ≡ t → ((nat_lt a b ≡ true) × (a < b)) ⊎ ((nat_lt a b ≡ false) × (b ≤ a))
    cases true met = inl (met, grind (arith, nat_tests))
    cases false fails = inr (fails, grind (arith, nat_tests))

bool_tells : (b : Bool) → (b ≡ true) ⊎ (b ≡ false)
bool_tells true = inl refl
bool_tells false = inr refl

-- the least of one cell and of those placed after it
record IsFolded (width : ℕ) (from : CPos) (test : CPos → Bool) (a b : ℕ) (acc r : CPos) : Type 0 where
  below_first : rank_of width from r ≤ rank_of width from acc
  below : (q : CPos) → IsPlaced width test a b q → rank_of width from r ≤ rank_of width from q
  one : (r ≡ acc) ⊎ IsPlaced width test a b r

lower : (width : ℕ) (test : CPos → Bool) (a b : ℕ) (p : CPos) → IsPlaced width test (a + 1) b p → IsPlaced width test a b p
lower width test a b p placed = record { at = placed.at; least = (let l = placed.least in omega (arith, l)); most = placed.most; is = placed.is; some = placed.some }

here_or_later : (width : ℕ) (test : CPos → Bool) (a b : ℕ) (p : CPos) → IsPlaced width test a b p → ((p ≡ cell_of width a) × (test p ≡ true)) ⊎ IsPlaced width test (a + 1) b p
here_or_later width test a b p placed = elim (eqb_tells a placed.at) [
  | inl hit ↦ inl (subst (λ k. p ≡ cell_of width k) (sym hit.1) placed.is, placed.some)
  | inr miss ↦ inr (record { at = placed.at; least = (let l = placed.least in omega (arith, l, miss.1)); most = placed.most; is = placed.is; some = placed.some })
]

nearer : (near far a b : ℕ) → near < far → a < 65536 → near * 65536 + a ≤ far * 65536 + b
nearer near far a b lt low = omega arith

folded : (width : ℕ) (from : CPos) (test : CPos → Bool) (n a b : ℕ) (acc : CPos) → 0 < width → a + n ≡ b → b ≤ 65025 → place_of width acc < a → IsFolded width from test a b acc (fold (lesser_by (dist_sq_of from)) acc (filter test (map (cell_of width) (range_with_len a n))))
folded width from test zero a b acc wide sum low before =
    record {
      below_first = omega arith;
      below = λ q placed. absurd (let least = placed.least in let most = placed.most in omega (arith, least, most, sum));
      one = inl refl;
    }
folded width from test (suc n) a b acc wide sum low before = elim (bool_tells (test (cell_of width a))) [
  | inl met ↦ rw met (elim (lt_tells (dist_sq_of from (cell_of width a)) (dist_sq_of from acc)) [
    | inl less ↦ subst (λ (x : CPos). IsFolded width from test a b acc (fold (lesser_by (dist_sq_of from)) x (filter test (map (cell_of width) (range_with_len (a + 1) n))))) (sym (picks_later less.0)) (taken met less.1 (folded width from test n (a + 1) b (cell_of width a) wide (omega (arith, sum)) low (omega (arith, place_is width a wide))))
    | inr more ↦ subst (λ (x : CPos). IsFolded width from test a b acc (fold (lesser_by (dist_sq_of from)) x (filter test (map (cell_of width) (range_with_len (a + 1) n))))) (sym (picks_first more.0)) (kept more.1 (folded width from test n (a + 1) b acc wide (omega (arith, sum)) low (omega (arith, before))))
  ])
  | inr fails ↦ rw fails (passed fails (folded width from test n (a + 1) b acc wide (omega (arith, sum)) low (omega (arith, before))))
]
  where
    picks_later : nat_lt (dist_sq_of from (cell_of width a)) (dist_sq_of from acc) ≡ true → lesser_by (dist_sq_of from) acc (cell_of width a) ≡ cell_of width a
    picks_later less = rw less refl

    picks_first : nat_lt (dist_sq_of from (cell_of width a)) (dist_sq_of from acc) ≡ false → lesser_by (dist_sq_of from) acc (cell_of width a) ≡ acc
    picks_first more = rw more refl

    here_place : place_of width (cell_of width a) ≡ a
    here_place = place_is width a wide

    taken : {r : CPos} → test (cell_of width a) ≡ true → dist_sq_of from (cell_of width a) < dist_sq_of from acc → IsFolded width from test (a + 1) b (cell_of width a) r → IsFolded width from test a b acc r
    taken {r} met less rest =
        record {
          below_first = (let first = rest.below_first in let step = nearer (dist_sq_of from (cell_of width a)) (dist_sq_of from acc) (place_of width (cell_of width a)) (place_of width acc) less (omega (arith, here_place, sum, low)) in omega (arith, first, step));
          below = λ q placed. elim (here_or_later width test a b q placed) [
            | inl same ↦ subst (λ (x : CPos). rank_of width from r ≤ rank_of width from x) (sym same.0) rest.below_first
            | inr later ↦ rest.below q later
          ];
          one = elim rest.one [
            | inl same ↦ inr (record { at = a; least = omega arith; most = omega (arith, sum); is = same; some = ap test same ∙ met })
            | inr later ↦ inr (lower width test a b r later)
          ];
        }

    kept : {r : CPos} → dist_sq_of from acc ≤ dist_sq_of from (cell_of width a) → IsFolded width from test (a + 1) b acc r → IsFolded width from test a b acc r
    kept {r} more rest =
        record {
          below_first = rest.below_first;
          below = λ q placed. elim (here_or_later width test a b q placed) [
            | inl same ↦ subst (λ (x : CPos). rank_of width from r ≤ rank_of width from x) (sym same.0) (let first = rest.below_first in omega (arith, first, more, before, here_place))
            | inr later ↦ rest.below q later
          ];
          one = elim rest.one [
            | inl same ↦ inl same
            | inr later ↦ inr (lower width test a b r later)
          ];
        }

    passed : {r : CPos} → test (cell_of width a) ≡ false → IsFolded width from test (a + 1) b acc r → IsFolded width from test a b acc r
    passed {r} fails rest =
        record {
          below_first = rest.below_first;
          below = λ q placed. elim (here_or_later width test a b q placed) [
            | inl same ↦ absurd (let met : test (cell_of width a) ≡ true = ap test (sym same.0) ∙ same.1 in cc)
            | inr later ↦ rest.below q later
          ];
          one = elim rest.one [
            | inl same ↦ inl same
            | inr later ↦ inr (lower width test a b r later)
          ];
        }

first_placed : (width : ℕ) (from : CPos) (test : CPos → Bool) (n a b : ℕ) → 0 < width → a + n ≡ b → b ≤ 65025 → IsLeast width from (IsPlaced width test a b) (first_least (dist_sq_of from) (filter test (map (cell_of width) (range_with_len a n))))
first_placed width from test zero a b wide sum low = λ q placed. (let least = placed.least in let most = placed.most in omega (arith, least, most, sum))
first_placed width from test (suc n) a b wide sum low = elim (bool_tells (test (cell_of width a))) [
  | inl met ↦ rw met (found met (folded width from test n (a + 1) b (cell_of width a) wide (omega (arith, sum)) low (omega (arith, place_is width a wide))))
  | inr fails ↦ rw fails (later fails (first_least (dist_sq_of from) (filter test (map (cell_of width) (range_with_len (a + 1) n)))) (first_placed width from test n (a + 1) b wide (omega (arith, sum)) low))
]
  where
    found : {r : CPos} → test (cell_of width a) ≡ true → IsFolded width from test (a + 1) b (cell_of width a) r → IsPlaced width test a b r × ((q : CPos) → IsPlaced width test a b q → rank_of width from r ≤ rank_of width from q)
    found {r} met rest = (
      elim rest.one [
        | inl same ↦ record { at = a; least = omega arith; most = omega (arith, sum); is = same; some = ap test same ∙ met }
        | inr other ↦ lower width test a b r other
      ],
      λ q placed. elim (here_or_later width test a b q placed) [
        | inl same ↦ subst (λ (x : CPos). rank_of width from r ≤ rank_of width from x) (sym same.0) rest.below_first
        | inr other ↦ rest.below q other
      ],
    )

    not_here : test (cell_of width a) ≡ false → (q : CPos) → IsPlaced width test a b q → IsPlaced width test (a + 1) b q
    not_here fails q placed = elim (here_or_later width test a b q placed) [
      | inl same ↦ absurd (let met : test (cell_of width a) ≡ true = ap test (sym same.0) ∙ same.1 in cc)
      | inr other ↦ other
    ]

    later : test (cell_of width a) ≡ false → (o : Option CPos) → IsLeast width from (IsPlaced width test (a + 1) b) o → IsLeast width from (IsPlaced width test a b) o
    later fails None least = λ q placed. least q (not_here fails q placed)
    later fails (Some r) least = (lower width test a b r least.0, λ q placed. least.1 q (not_here fails q placed))

abbrev made_cell : (x y : ℕ) → CPos
made_cell x y = record { x = x; y = y }

to_rich : (ore : Grid ℕ) (p : CPos) → 0 < ore.width → IsPlaced ore.width (λ q. has_ore (ore_at ore q)) 0 (ore.width * ore.height) p → IsRich ore p
to_rich ore p wide placed =
    let most : placed.at < ore.height * ore.width = (let m = placed.most in let swap : ore.width * ore.height ≡ ore.height * ore.width = grind arith in omega (arith, m, swap)) in
    let on : IsOn ore.width ore.height (cell_of ore.width placed.at) = record { column = mod-lt placed.at wide; row = (div-lt_iff_lt-mul wide).1 most } in
    record { on_grid = subst (IsOn ore.width ore.height) (sym placed.is) on; some = placed.some }

to_placed : (ore : Grid ℕ) (p : CPos) → IsRich ore p → IsPlaced ore.width (λ q. has_ore (ore_at ore q)) 0 (ore.width * ore.height) p
to_placed ore p rich =
    record {
      at = place_of ore.width p;
      least = omega arith;
      most = mul-add-lt p.y ore.width p.x ore.height rich.on_grid.row rich.on_grid.column;
      is = ap₂ made_cell (sym (mod-mul-add p.y ore.width p.x rich.on_grid.column)) (sym (div-mul-add p.y ore.width p.x rich.on_grid.column));
      some = rich.some;
    }

-- the nearest ore by its definition is the nearest in a reader's words
pub nearest_is_least : (ore : Grid ℕ) (from : CPos) → 0 < ore.width → ore.width < 256 → ore.height < 256 → IsNearestOre ore from (nearest_ore ore from)
unfolding nearest_ore
nearest_is_least ore from wide narrow flat =
    same (first_least (dist_sq_of from) (filter (λ q. has_ore (ore_at ore q)) (map (cell_of ore.width) (range_with_len 0 (ore.width * ore.height)))))
    (first_placed ore.width from (λ q. has_ore (ore_at ore q)) (ore.width * ore.height) 0 (ore.width * ore.height) wide (omega arith) (small_area ore.width ore.height narrow flat))
  where
    same : (o : Option CPos) → IsLeast ore.width from (IsPlaced ore.width (λ q. has_ore (ore_at ore q)) 0 (ore.width * ore.height)) o → IsLeast ore.width from (IsRich ore) o
    same None least = λ q rich. least q (to_placed ore q rich)
    same (Some r) least = (to_rich ore r wide least.0, λ q rich. least.1 q (to_placed ore q rich))
