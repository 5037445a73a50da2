-- What the answer on a frame says of the columns.
use Rattle.std.proofs.Common.{◌≡◌, ℕ, zero, suc, ◌<◌, ◌≤◌, Bool, true, false, List, [], ◌∷◌, length}
use Rattle.std.proofs.Common.{refl, sym, ap, subst, arith}
use Rattle.std.specs.Prelude.{Option, Some, None, slice_get}
use Rattle.std.proofs.lemmas.Option.{slice_get_within}
use Rattle.game_orders.specs.declared.order.Order.{Order}
use Rattle.frame_core.specs.Column.{Column, entry_from, has_at, column_of}
use Rattle.frame_core.specs.declared.input.Input.{Input}
use Rattle.frame_core.specs.declared.ready.Ready.{Ready}
use Rattle.frame_core.specs.Input.{input_of, MeansInput}
use Rattle.frame_core.proofs.InputLemmas.{ready_means}
use Rattle.frame_core.specs.Ready.{inputs_at, ready_at, HasPlayed, HasLeftBy, HasNothing}
use Rattle.frame_core.specs.Ready.{MeansReadyAt}

-- Where nothing stands, the list has ended.
pub none_past : {X : Type 0} (xs : List X) (n : ℕ) → slice_get xs n ≡ None → length xs ≤ n
none_past [] n at = omega arith
none_past (x ∷ xs) zero at = absurd cc
none_past (x ∷ xs) (suc n) at = let more : length xs ≤ n = none_past xs n at in omega arith

-- What client c has, by its plays and whether it has left.
input_means :
    (columns : List Column) (n c : ℕ) (found : Option (List Order)) (left : Bool) →
    slice_get (column_of columns c).plays n ≡ found → (column_of columns c).left ≡ left →
    MeansInput (HasPlayed columns n) (HasLeftBy columns n) (HasNothing columns n) c (input_of (entry_from found left))
input_means columns n c (Some orders) left at is = slice_get_within (column_of columns c).plays n orders at
input_means columns n c None true at is = (is, none_past (column_of columns c).plays n at)
input_means columns n c None false at is = (is, none_past (column_of columns c).plays n at)

-- The input of client c is that of its column.
input_found :
    (columns : List Column) (n c : ℕ) (input : Input) → slice_get (inputs_at columns n) c ≡ Some input →
    Some (input_of (has_at (column_of columns c) n)) ≡ Some input
input_found [] n c input at = absurd cc
input_found (column ∷ columns) n zero input at = at
input_found (column ∷ columns) n (suc c) input at = input_found columns n c input at

some_same : {X : Type 0} (x y : X) → Some x ≡ Some y → x ≡ y
some_same x y same = cc

each_means :
    (columns : List Column) (n c : ℕ) (input : Input) → slice_get (inputs_at columns n) c ≡ Some input →
    MeansInput (HasPlayed columns n) (HasLeftBy columns n) (HasNothing columns n) c input
each_means columns n c input at =
    let column : Column = column_of columns c in
    let same : input_of (has_at column n) ≡ input = some_same _ _ (input_found columns n c input at) in
    subst (MeansInput (HasPlayed columns n) (HasLeftBy columns n) (HasNothing columns n) c) same
    (input_means columns n c (slice_get column.plays n) column.left refl refl)

inputs_count : (columns : List Column) (n : ℕ) → length columns ≡ length (inputs_at columns n)
inputs_count [] n = refl
inputs_count (column ∷ columns) n = ap suc (inputs_count columns n)

-- The answer on a frame says which client is missing, or that one has played it, or that all have
-- left.
pub answer_tells : (columns : List Column) (n : ℕ) (answer : Ready) → answer ≡ ready_at columns n → MeansReadyAt columns n answer
answer_tells columns n answer is =
    subst (MeansReadyAt columns n) (sym is)
    (ready_means (HasPlayed columns n) (HasLeftBy columns n) (HasNothing columns n) (inputs_at columns n) (length columns)
    (inputs_count columns n) (each_means columns n))

-- There is an input for each client.
pub inputs_length : (columns : List Column) (n : ℕ) → length (inputs_at columns n) ≡ length columns
inputs_length columns n = sym (inputs_count columns n)

-- The input of a client that is there.
pub input_there :
    (columns : List Column) (n c : ℕ) → c < length columns →
    slice_get (inputs_at columns n) c ≡ Some (input_of (has_at (column_of columns c) n))
input_there [] n c below = absurd (omega arith)
input_there (column ∷ columns) n zero below = refl
input_there (column ∷ columns) n (suc c) below = input_there columns n c (omega arith)
