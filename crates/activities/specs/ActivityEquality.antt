-- The tests for one activity and for one queue are true exactly where the two are the same.
use Rattle.std.specs.Prelude.{◌≡◌, ℕ, ◌==◌, ◌&&◌, List}
use Rattle.std.specs.Bool.{Decides}
use Rattle.std.proofs.Common.{refl}
use Rattle.std.proofs.lemmas.Bool.Decides.{Decides-and, Decides-eqb}
use Rattle.std.proofs.lemmas.Slice.Eq.{slice_eq-Decides}
use Rattle.world_units.specs.declared.cell.CPos.{CPos}
use Rattle.world_units.specs.Cells.{same_cell}
use Rattle.world_units.specs.CellEquality.{cell_decides}
use Rattle.activities.specs.declared.activity.Activity.{Activity}
use Rattle.activities.specs.declared.activity.Activity.TheVariants.{Move, Attack, Harvest, Deliver}
use Rattle.activities.specs.Activity.{same_activity, same_queue}

-- A cell, a timer and a count of waits together.
cell_timer_waits :
    (a b : CPos) (t u w x : ℕ) →
    Decides (same_cell a b && (t == u) && (w == x)) (((a ≡ b) × (t ≡ u)) × (w ≡ x))
cell_timer_waits a b t u w x =
    Decides-and (same_cell a b && (t == u)) (w == x)
    (Decides-and (same_cell a b) (t == u) (cell_decides a b) (Decides-eqb t u)) (Decides-eqb w x)

pub activity_decides : (a b : Activity) → Decides (same_activity a b) (a ≡ b)
activity_decides (Move goal waits) (Move other_goal other_waits) =
    let both =
    Decides-and (same_cell goal other_goal) (waits == other_waits) (cell_decides goal other_goal)
    (Decides-eqb waits other_waits) in
    ((λ same. let parts = both.0 same in cc), (λ same. both.1 (cc, cc)))
activity_decides (Move goal waits) (Attack other_target other_waits) =
    ((λ never. cc), (λ same. cc))
activity_decides (Move goal waits) (Harvest other_cell other_timer other_waits) =
    ((λ never. cc), (λ same. cc))
activity_decides (Move goal waits) (Deliver other_home other_timer other_waits) =
    ((λ never. cc), (λ same. cc))
activity_decides (Attack target waits) (Move other_goal other_waits) =
    ((λ never. cc), (λ same. cc))
activity_decides (Attack target waits) (Attack other_target other_waits) =
    let both =
    Decides-and (target == other_target) (waits == other_waits) (Decides-eqb target other_target)
    (Decides-eqb waits other_waits) in
    ((λ same. let parts = both.0 same in cc), (λ same. both.1 (cc, cc)))
activity_decides (Attack target waits) (Harvest other_cell other_timer other_waits) =
    ((λ never. cc), (λ same. cc))
activity_decides (Attack target waits) (Deliver other_home other_timer other_waits) =
    ((λ never. cc), (λ same. cc))
activity_decides (Harvest cell timer waits) (Move other_goal other_waits) =
    ((λ never. cc), (λ same. cc))
activity_decides (Harvest cell timer waits) (Attack other_target other_waits) =
    ((λ never. cc), (λ same. cc))
activity_decides (Harvest cell timer waits) (Harvest other_cell other_timer other_waits) =
    let all = cell_timer_waits cell other_cell timer other_timer waits other_waits in
    ((λ same. let parts = all.0 same in let first = parts.0 in cc), (λ same. all.1 ((cc, cc), cc)))
activity_decides (Harvest cell timer waits) (Deliver other_home other_timer other_waits) =
    ((λ never. cc), (λ same. cc))
activity_decides (Deliver home timer waits) (Move other_goal other_waits) =
    ((λ never. cc), (λ same. cc))
activity_decides (Deliver home timer waits) (Attack other_target other_waits) =
    ((λ never. cc), (λ same. cc))
activity_decides (Deliver home timer waits) (Harvest other_cell other_timer other_waits) =
    ((λ never. cc), (λ same. cc))
activity_decides (Deliver home timer waits) (Deliver other_home other_timer other_waits) =
    let all = cell_timer_waits home other_home timer other_timer waits other_waits in
    ((λ same. let parts = all.0 same in let first = parts.0 in cc), (λ same. all.1 ((cc, cc), cc)))

pub queue_decides : (xs ys : List Activity) → Decides (same_queue xs ys) (xs ≡ ys)
queue_decides xs ys = slice_eq-Decides activity_decides xs ys (same_queue xs ys) refl
