-- The search outwards from a cell: columns within a row, and rows.
use Rattle.std.proofs.Common.{◌≡◌, ◌≢◌, ℕ, ◌+◌, ◌*◌, ◌<◌, ◌≤◌, ◌⊎◌, eqb, true, false, is_some, nat_lt, Option, Some, None, inl, inr, sym, ap, ap₂, ◌∙◌, arith}
use Rattle.std.proofs.Math.Nat.{mul-le-mul}
use Rattle.std.proofs.lemmas.Bool.Decides.{eqb_tells, nat_tests}
use Rattle.world_units.specs.declared.cell.CPos.{CPos}
use Rattle.world_units.specs.Cells.{apart, square, dist_sq_of}
use Rattle.game_model.specs.Grid.{Grid, place_of}
use Rattle.harvest.specs.Ranks.{rank_of, IsRich, IsLeast, IsRichIn, IsAside, IsLeft, IsRight, IsAbove, IsBelow, IsBeyond, IsWithin, IsThis, nearer_by}
use Rattle.harvest.proofs.Ranking.{least_same, place_below}

-- to the left or right
pub aside_least : (ore : Grid ℕ) (from : CPos) (y dx : ℕ) (o : Option CPos) → IsLeast ore.width from (λ q. IsLeft ore from y dx q ⊎ IsRight ore from y dx q) o → IsLeast ore.width from (IsAside ore from y dx) o
aside_least ore from y dx o least = least_same ore.width from _ (IsAside ore from y dx) o (λ q in_one. to q in_one) (λ q in_row. back q in_row) least
  where
    to : (q : CPos) → IsLeft ore from y dx q ⊎ IsRight ore from y dx q → IsAside ore from y dx q
    to q (inl left) = record { rich = left.rich; row = left.row; columns = omega (arith, left.column) }
    to q (inr right) = record { rich = right.rich; row = right.row; columns = omega (arith, right.column) }

    sides : (x column : ℕ) → apart x column ≡ dx → (column + dx ≡ x) ⊎ (column ≡ x + dx)
    sides x column away = elim (eqb_tells (column + dx) x) [
      | inl hit ↦ inl hit.1
      | inr miss ↦ inr (omega (arith, away, miss.1))
    ]

    back : (q : CPos) → IsAside ore from y dx q → IsLeft ore from y dx q ⊎ IsRight ore from y dx q
    back q in_row = elim (sides from.x q.x in_row.columns) [
      | inl left ↦ inl (record { rich = in_row.rich; row = in_row.row; column = left })
      | inr right ↦ inr (record { rich = in_row.rich; row = in_row.row; column = right })
    ]

-- above or below
pub beyond_least : (ore : Grid ℕ) (from : CPos) (dy : ℕ) (o : Option CPos) → IsLeast ore.width from (λ q. IsAbove ore from dy q ⊎ IsBelow ore from dy q) o → IsLeast ore.width from (IsBeyond ore from dy) o
beyond_least ore from dy o least = least_same ore.width from _ (IsBeyond ore from dy) o (λ q in_one. to q in_one) (λ q in_row. back q in_row) least
  where
    to : (q : CPos) → IsAbove ore from dy q ⊎ IsBelow ore from dy q → IsBeyond ore from dy q
    to q (inl above) = record { rich = above.rich; rows = omega (arith, above.row) }
    to q (inr below) = record { rich = below.rich; rows = omega (arith, below.row) }

    sides : (y row : ℕ) → apart y row ≡ dy → (row + dy ≡ y) ⊎ (row ≡ y + dy)
    sides y row away = elim (eqb_tells (row + dy) y) [
      | inl hit ↦ inl hit.1
      | inr miss ↦ inr (omega (arith, away, miss.1))
    ]

    back : (q : CPos) → IsBeyond ore from dy q → IsAbove ore from dy q ⊎ IsBelow ore from dy q
    back q away = elim (sides from.y q.y away.rows) [
      | inl above ↦ inl (record { rich = away.rich; row = above })
      | inr below ↦ inr (record { rich = away.rich; row = below })
    ]

-- one row
pub above_least : (ore : Grid ℕ) (from : CPos) (y dy : ℕ) (o : Option CPos) → y + dy ≡ from.y → IsLeast ore.width from (IsRichIn ore y) o → IsLeast ore.width from (IsAbove ore from dy) o
above_least ore from y dy o is least = least_same ore.width from (IsRichIn ore y) (IsAbove ore from dy) o (λ q in_row. record { rich = in_row.rich; row = omega (arith, in_row.row, is) }) (λ q up. record { rich = up.rich; row = omega (arith, up.row, is) }) least

pub below_least : (ore : Grid ℕ) (from : CPos) (y dy : ℕ) (o : Option CPos) → y ≡ from.y + dy → IsLeast ore.width from (IsRichIn ore y) o → IsLeast ore.width from (IsBelow ore from dy) o
below_least ore from y dy o is least = least_same ore.width from (IsRichIn ore y) (IsBelow ore from dy) o (λ q in_row. record { rich = in_row.rich; row = omega (arith, in_row.row, is) }) (λ q down. record { rich = down.rich; row = omega (arith, down.row, is) }) least

-- one cell
cell_is : (p q : CPos) → p.x ≡ q.x → p.y ≡ q.y → p ≡ q
cell_is p q columns rows =
    let made : ℕ → ℕ → CPos = λ x y. record { x = x; y = y } in
    ap₂ made columns rows

pub left_least : (ore : Grid ℕ) (from p : CPos) (y dx : ℕ) (o : Option CPos) → p.x + dx ≡ from.x → p.y ≡ y → IsLeast ore.width from (IsThis ore p) o → IsLeast ore.width from (IsLeft ore from y dx) o
left_least ore from p y dx o column row least =
    least_same ore.width from (IsThis ore p) (IsLeft ore from y dx) o
    (λ q this. record { rich = this.rich; row = ap (λ (r : CPos). r.y) this.same ∙ row; column = ap (λ (r : CPos). r.x + dx) this.same ∙ column })
    (λ q left. record { rich = left.rich; same = cell_is q p (omega (arith, left.column, column)) (left.row ∙ sym row) }) least

pub right_least : (ore : Grid ℕ) (from p : CPos) (y dx : ℕ) (o : Option CPos) → p.x ≡ from.x + dx → p.y ≡ y → IsLeast ore.width from (IsThis ore p) o → IsLeast ore.width from (IsRight ore from y dx) o
right_least ore from p y dx o column row least =
    least_same ore.width from (IsThis ore p) (IsRight ore from y dx) o
    (λ q this. record { rich = this.rich; row = ap (λ (r : CPos). r.y) this.same ∙ row; column = ap (λ (r : CPos). r.x) this.same ∙ column })
    (λ q right. record { rich = right.rich; same = cell_is q p (omega (arith, right.column, column)) (right.row ∙ sym row) }) least

-- squares grow
far : (a b : ℕ) → a ≤ b → square (1024 * a) ≤ square (1024 * b)
far a b le = let scaled : 1024 * a ≤ 1024 * b = omega arith in mul-le-mul scaled scaled

further : (a b : ℕ) → a < b → square (1024 * a) < square (1024 * b)
further a b lt =
    let scaled : 1024 * a + 1 ≤ 1024 * b = omega arith in
    let squares : (1024 * a + 1) * (1024 * a + 1) ≤ square (1024 * b) = mul-le-mul scaled scaled in
    omega (arith, squares)

nearer_rank : (near far a b : ℕ) → near < far → a < 65536 → near * 65536 + a ≤ far * 65536 + b
nearer_rank near far a b lt low = omega arith

-- what was found in a row, where no nearer column has ore
pub row_found : (ore : Grid ℕ) (from : CPos) (y dx : ℕ) (p : CPos) → ore.width < 256 → ore.height < 256 → ((q : CPos) → IsRichIn ore y q → dx ≤ apart from.x q.x) → IsLeast ore.width from (IsAside ore from y dx) (Some p) → IsLeast ore.width from (IsRichIn ore y) (Some p)
row_found ore from y dx p wide high none least = (record { rich = least.0.rich; row = least.0.row }, λ q in_row. bound q in_row (eqb_tells (apart from.x q.x) dx))
  where
    bound : (q : CPos) → IsRichIn ore y q → ((eqb (apart from.x q.x) dx ≡ true) × (apart from.x q.x ≡ dx)) ⊎ ((eqb (apart from.x q.x) dx ≡ false) × (apart from.x q.x ≢ dx)) → rank_of ore.width from p ≤ rank_of ore.width from q
    bound q in_row (inl hit) = least.1 q (record { rich = in_row.rich; row = in_row.row; columns = hit.1 })
    bound q in_row (inr miss) =
        let at_least = none q in_row in
        let lt : dx < apart from.x q.x = omega (arith, at_least, miss.1) in
        let columns : square (1024 * dx) < square (1024 * apart from.x q.x) = further dx (apart from.x q.x) lt in
        let here : square (1024 * apart from.x p.x) ≡ square (1024 * dx) = ap (λ n. square (1024 * n)) least.0.columns in
        let rows : square (1024 * apart from.y p.y) ≡ square (1024 * apart from.y q.y) = ap (λ n. square (1024 * apart from.y n)) (least.0.row ∙ sym in_row.row) in
        let low = place_below ore.width ore.height p wide high least.0.rich.on_grid in
        nearer_rank (dist_sq_of from p) (dist_sq_of from q) (place_of ore.width p) (place_of ore.width q) (omega (arith, columns, here, rows)) (omega (arith, low))

-- what was found in the rows so far is the nearest, where it is nearer than any further row
pub rows_found : (ore : Grid ℕ) (from : CPos) (dy : ℕ) (p : CPos) → ore.width < 256 → ore.height < 256 → dist_sq_of from p < square (1024 * dy) → IsLeast ore.width from (IsWithin ore from dy) (Some p) → IsLeast ore.width from (IsRich ore) (Some p)
rows_found ore from dy p wide high nearer least = (least.0.rich, λ q rich. bound q rich (decide (apart from.y q.y) dy))
  where
    decide : (a b : ℕ) → (a < b) ⊎ (b ≤ a)
    decide a b = grind arith

    bound : (q : CPos) → IsRich ore q → (apart from.y q.y < dy) ⊎ (dy ≤ apart from.y q.y) → rank_of ore.width from p ≤ rank_of ore.width from q
    bound q rich (inl within) = least.1 q (record { rich = rich; rows = within })
    bound q rich (inr outside) =
        let rows : square (1024 * dy) ≤ square (1024 * apart from.y q.y) = far dy (apart from.y q.y) outside in
        let low = place_below ore.width ore.height p wide high least.0.rich.on_grid in
        nearer_rank (dist_sq_of from p) (dist_sq_of from q) (place_of ore.width p) (place_of ore.width q) (omega (arith, rows, nearer)) (omega (arith, low))

-- one more row on both sides
pub within_next : (ore : Grid ℕ) (from : CPos) (dy : ℕ) (o : Option CPos) → IsLeast ore.width from (λ q. IsWithin ore from dy q ⊎ IsBeyond ore from dy q) o → IsLeast ore.width from (IsWithin ore from (dy + 1)) o
within_next ore from dy o least = least_same ore.width from _ (IsWithin ore from (dy + 1)) o (λ q in_one. to q in_one) (λ q within. back q within (eqb_tells (apart from.y q.y) dy)) least
  where
    to : (q : CPos) → IsWithin ore from dy q ⊎ IsBeyond ore from dy q → IsWithin ore from (dy + 1) q
    to q (inl within) = record { rich = within.rich; rows = omega (arith, within.rows) }
    to q (inr away) = record { rich = away.rich; rows = omega (arith, away.rows) }

    back : (q : CPos) → IsWithin ore from (dy + 1) q → ((eqb (apart from.y q.y) dy ≡ true) × (apart from.y q.y ≡ dy)) ⊎ ((eqb (apart from.y q.y) dy ≡ false) × (apart from.y q.y ≢ dy)) → IsWithin ore from dy q ⊎ IsBeyond ore from dy q
    back q within (inl hit) = inr (record { rich = within.rich; rows = hit.1 })
    back q within (inr miss) = (let rows = within.rows in inl (record { rich = within.rich; rows = omega (arith, rows, miss.1) }))

-- all rows
pub within_all : (ore : Grid ℕ) (from : CPos) (dy : ℕ) (o : Option CPos) → from.y < ore.height → ore.height ≤ dy → IsLeast ore.width from (IsWithin ore from dy) o → IsLeast ore.width from (IsRich ore) o
within_all ore from dy o on all least =
    least_same ore.width from (IsWithin ore from dy) (IsRich ore) o (λ q within. within.rich)
    (λ q rich. record { rich = rich; rows = (let row = rich.on_grid.row in omega (arith, row, on, all)) }) least

-- the same of what a row or rows answer
pub row_found_some : (ore : Grid ℕ) (from : CPos) (y dx : ℕ) (o : Option CPos) → ore.width < 256 → ore.height < 256 → is_some o ≡ true → ((q : CPos) → IsRichIn ore y q → dx ≤ apart from.x q.x) → IsLeast ore.width from (IsAside ore from y dx) o → IsLeast ore.width from (IsRichIn ore y) o
row_found_some ore from y dx None wide high some none least = absurd (cc)
row_found_some ore from y dx (Some p) wide high some none least = row_found ore from y dx p wide high none least

pub rows_found_some : (ore : Grid ℕ) (from : CPos) (dy : ℕ) (o : Option CPos) → ore.width < 256 → ore.height < 256 → nearer_by from o dy ≡ true → IsLeast ore.width from (IsWithin ore from dy) o → IsLeast ore.width from (IsRich ore) o
rows_found_some ore from dy None wide high nearer least = absurd (cc)
rows_found_some ore from dy (Some p) wide high nearer least = rows_found ore from dy p wide high (lt (dist_sq_of from p) (square (1024 * dy)) nearer) least
  where
    lt : (a b : ℕ) → nat_lt a b ≡ true → a < b
    lt a b less = grind (arith, nat_tests)
