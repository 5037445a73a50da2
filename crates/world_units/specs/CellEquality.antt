-- The test for one cell is true exactly where the two are the same.
use Rattle.std.specs.Prelude.{◌≡◌, ℕ, ◌==◌, ◌&&◌}
use Rattle.std.specs.Bool.{Decides}
use Rattle.std.proofs.Common.{ap₂}
use Rattle.std.proofs.lemmas.Bool.Decides.{Decides-and, Decides-eqb}
use Rattle.world_units.specs.declared.cell.CPos.{CPos}
use Rattle.world_units.specs.Cells.{same_cell}

pub cell_decides : (a b : CPos) → Decides (same_cell a b) (a ≡ b)
cell_decides a b =
    let both : Decides ((a.x == b.x) && (a.y == b.y)) ((a.x ≡ b.x) × (a.y ≡ b.y)) =
    Decides-and (a.x == b.x) (a.y == b.y) (Decides-eqb a.x b.x) (Decides-eqb a.y b.y) in
    let made : ℕ → ℕ → CPos = λ x y. record { x = x; y = y } in
    ((λ same. ap₂ made (both.0 same).0 (both.0 same).1), (λ same. both.1 (cc, cc)))
