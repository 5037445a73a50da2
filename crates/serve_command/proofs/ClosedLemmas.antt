-- The columns of a match that is over, once its table is closed.
use Rattle.std.proofs.Common.{◌≡◌, ◌<◌, ◌∙◌, ℕ, suc, List, [], ◌∷◌, length, refl, sym, ap, ap₂, arith}
use Rattle.frame_core.specs.Column.{Column, column_of}
use Rattle.frame_table.specs.declared.pass.Pass.{Pass}
use Rattle.frame_table.specs.declared.table.FrameTable.{FrameTable}
use Rattle.frame_table.specs.Calls.{plan_of, standing}
use Rattle.frame_table.specs.Steps.{IsFound}
use Rattle.match_serve.specs.Passes.{columns_of}
use Rattle.match_serve.specs.Serve.{IsOver}

columns_are :
    (xs ys : List Column) → length xs ≡ length ys → ((c : ℕ) → c < length ys → column_of xs c ≡ column_of ys c) → xs ≡ ys
columns_are [] [] long each = refl
columns_are [] (y ∷ ys) long each = absurd (omega arith)
columns_are (x ∷ xs) [] long each = absurd (omega arith)
columns_are (x ∷ xs) (y ∷ ys) long each =
    ap₂ (λ own others. own ∷ others) (each 0 (omega arith)) (columns_are xs ys (omega arith) (λ c below. each (suc c) (omega arith)))

-- They are those that the pass knows.
pub closed_are :
    (clients : ℕ) (table : FrameTable) (pass : Pass) (columns : List Column) → IsOver clients table pass →
    length columns ≡ length (plan_of table) →
    ((c : ℕ) → c < length (plan_of table) → IsFound (standing pass c) (column_of columns c)) →
    columns ≡ columns_of pass
closed_are clients table pass columns over long found =
    let count = over.count in
    let known = over.columns in
    columns_are columns (columns_of pass) (long ∙ count ∙ sym known)
    (λ c below.
    let all = over.known c (omega arith) in
    (found c (omega arith)).known.closed (ap (λ (k : Column). k.left) all ∙ over.left c (omega arith)) ∙ all)
