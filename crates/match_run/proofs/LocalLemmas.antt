-- The columns of a run, once its table is closed.
use Rattle.std.specs.Prelude.{◌≡◌, ℕ, suc, ◌<◌, List, [], ◌∷◌, length}
use Rattle.std.proofs.Common.{refl, ap, ap₂, ◌∙◌, arith}
use Rattle.frame_core.specs.Column.{Column, column_of}
use Rattle.frame_table.specs.declared.pass.Pass.{Pass}
use Rattle.frame_table.specs.declared.table.FrameTable.{FrameTable}
use Rattle.frame_table.specs.Steps.{IsFound}
use Rattle.frame_table.specs.Calls.{plan_of, standing}
use Rattle.match_run.specs.Local.{IsFilled}

columns_are :
    (filled columns : List Column) → length columns ≡ length filled →
    ((c : ℕ) → c < length filled → column_of columns c ≡ column_of filled c) → columns ≡ filled
columns_are [] [] long each = refl
columns_are [] (column ∷ columns) long each = absurd (omega arith)
columns_are (own ∷ filled) [] long each = absurd (omega arith)
columns_are (own ∷ filled) (column ∷ columns) long each =
    ap₂ (λ (k : Column) (others : List Column). k ∷ others) (each 0 (omega arith))
    (columns_are filled columns (omega arith) (λ c below. each (suc c) (omega arith)))

-- They are those with which it was filled.
pub closed_are :
    (filled : List Column) (table : FrameTable) (pass : Pass) (columns : List Column) →
    IsFilled filled table pass → length columns ≡ length (plan_of table) →
    ((c : ℕ) → c < length (plan_of table) →
    IsFound (standing pass c) (column_of columns c)) →
    columns ≡ filled
closed_are filled table pass columns is long found =
    let clients = is.clients in
    columns_are filled columns (long ∙ clients)
    (λ c below.
    let known = (is.columns c below).known in
    (found c (omega arith)).known.closed (ap (λ (k : Column). k.left) known ∙ is.left c below)
    ∙ known)
