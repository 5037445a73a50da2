-- What the answer to a put says, case by case.
use Rattle.std.proofs.Common.{◌≡◌, ℕ, zero, suc, ◌<◌, ◌≤◌, ◌==◌, Bool, true, false, ◌&&◌, List, []}
use Rattle.std.proofs.Common.{◌∷◌, ◌++◌, length, refl, sym, ap, ap₂, subst, ◌∙◌, arith, eq-eqb}
use Rattle.std.proofs.Common.{get_or-set_same}
use Rattle.std.specs.Prelude.{Option, Some, None, Result, Ok, Err, IfOk, OnOk, OnErr, slice_get}
use Rattle.std.specs.Prelude.{slice_set, nat_lt, if◌then◌else◌}
use Rattle.std.proofs.lemmas.Bool.{eqb-true, ltb-true, ltb-false}
use Rattle.game_orders.specs.declared.order.Order.{Order}
use Rattle.game_orders.specs.declared.entry.Entry.{Entry}
use Rattle.game_orders.specs.declared.entry.Entry.TheVariants.{Play, Leave}
use Rattle.game_orders.specs.declared.limits.TheConstants.{MAX_FRAMES}
use Rattle.game_orders.specs.Entry.{is_play, same_entry}
use Rattle.game_orders.specs.EntryEquality.{entry_decides}
use Rattle.frame_core.specs.Column.{Column, length_of, entry_from, entry_at, put_by, put_answer}
use Rattle.frame_core.specs.Column.{with_entry, after_answer, put_column, no_column, column_of}
use Rattle.frame_core.specs.Column.{left_column}
use Rattle.frame_core.specs.declared.put.Put.{Put}
use Rattle.frame_core.specs.declared.put.Put.TheVariants.{Fixed, Repeat, Conflict, Left, Ahead}
use Rattle.frame_core.specs.declared.put.Put.TheVariants.{Full}
use Rattle.frame_core.specs.Put.{PutMeans}
use Rattle.frame_core.proofs.ReadyLemmas.{none_past}
use Rattle.frame_core.specs.Grows.{Grows}
use Rattle.frame_core.proofs.GrowsLemmas.{past_departure, Grows-refl, Grows-set, put_grows}
use Rattle.frame_core.proofs.GrowsLemmas.{left_grows}

-- What stands in no column at n is no play.
open_past : (found : Option (List Order)) (left : Bool) → entry_from found left ≡ None → found ≡ None
open_past (Some orders) left at = absurd cc
open_past None left at = refl

get_last : {X : Type 0} (xs : List X) (x : X) (n : ℕ) → length xs ≡ n → slice_get (xs ++ x ∷ []) n ≡ Some x
get_last [] x zero end = refl
get_last [] x (suc n) end = absurd (omega arith)
get_last (y ∷ xs) x zero end = absurd (omega arith)
get_last (y ∷ xs) x (suc n) end = get_last xs x n (omega arith)

-- What was added after the plays stands there.
added_stands :
    (column : Column) (n : ℕ) (e : Entry) → slice_get column.plays n ≡ None → length_of column ≡ n → entry_at (with_entry column e) n ≡ Some e
added_stands column n (Play orders) none end =
    let more : List (List Order) = column.plays ++ orders ∷ [] in
    ap (λ found. entry_from found (column.left && (n == length more))) (get_last column.plays orders n end)
added_stands column n Leave none end = ap₂ entry_from none (eq-eqb n (length_of column) (sym end))

-- The answer where another entry, or the same one, stands at the frame.
kept_tells :
    (column : Column) (n : ℕ) (e kept : Entry) (same : Bool) → entry_at column n ≡ Some kept → same_entry e kept ≡ same →
    PutMeans (after_answer (if same then Repeat else Conflict kept) column e) n e (if same then Repeat else Conflict kept)
kept_tells column n e kept true at is = at ∙ ap Some (sym ((entry_decides e kept).0 is))
kept_tells column n e kept false at is = (at, λ same. let yes : same_entry e kept ≡ true = (entry_decides e kept).1 (sym same) in cc)

-- The answer where nothing stands there: whether the client has left, the frame is beyond the
-- plays, and the column is full.
abbrev choice : Bool → Bool → Bool → ℕ → Put
choice left beyond full at = if left && beyond then Left at else (if beyond then Ahead at else (if full then Full else Fixed))

full_by : (play top : Bool) → (play && top) ≡ true → (play ≡ true) × (top ≡ true)
full_by true true both = (refl, refl)
full_by true false both = absurd cc
full_by false top both = absurd cc

free_tells :
    (column : Column) (n : ℕ) (e : Entry) (left beyond full : Bool) → entry_at column n ≡ None → column.left ≡ left →
    nat_lt (length_of column) n ≡ beyond → (is_play e && (n == MAX_FRAMES)) ≡ full →
    PutMeans (after_answer (choice left beyond full (length_of column)) column e) n e (choice left beyond full (length_of column))
free_tells column n e true true full none is further top = (is, refl, ltb-true (length_of column) n further)
free_tells column n e false true full none is further top = (is, refl, ltb-true (length_of column) n further)
free_tells column n e true false full none is further top =
    let past : length_of column < n = past_departure column n is none in
    let within : n ≤ length_of column = ltb-false (length_of column) n further in
    absurd (omega arith)
free_tells column n e false false true none is further top =
    let within : n ≤ length_of column = ltb-false (length_of column) n further in
    let past : length_of column ≤ n = none_past column.plays n (open_past (slice_get column.plays n) _ none) in
    let both : (is_play e ≡ true) × ((n == MAX_FRAMES) ≡ true) = full_by (is_play e) (n == MAX_FRAMES) top in
    (is, omega arith, eqb-true n MAX_FRAMES both.1, both.0)
free_tells column n e false false false none is further top =
    let within : n ≤ length_of column = ltb-false (length_of column) n further in
    let absent : slice_get column.plays n ≡ None = open_past (slice_get column.plays n) _ none in
    let past : length_of column ≤ n = none_past column.plays n absent in
    added_stands column n e absent (omega arith)

put_tells_by :
    (column : Column) (n : ℕ) (e : Entry) (found : Option Entry) → entry_at column n ≡ found →
    PutMeans (after_answer (put_by found column n e) column e) n e (put_by found column n e)
put_tells_by column n e (Some kept) at = kept_tells column n e kept (same_entry e kept) at refl
put_tells_by column n e None at =
    free_tells column n e column.left (nat_lt (length_of column) n) (is_play e && (n == MAX_FRAMES)) at refl refl refl

-- The answer to a put says what stands there afterwards, or why nothing was added.
pub put_tells : (column : Column) (n : ℕ) (e : Entry) → PutMeans (put_column column n e) n e (put_answer column n e)
put_tells column n e = put_tells_by column n e (entry_at column n) refl

-- The columns after a put of client c, by its outcome.
pub columns_tell :
    {E : Type 0} (result : Result Put E) (columns new : List Column) (c n : ℕ) (e : Entry) → c < length columns →
    IfOk result (λ put. put ≡ put_answer (column_of columns c) n e) →
    OnOk result (new ≡ slice_set columns c (put_column (column_of columns c) n e)) →
    IfOk result (λ put. PutMeans (column_of new c) n e put)
columns_tell (Ok put) columns new c n e there is after =
    let column : Column = column_of columns c in
    let here : column_of new c ≡ put_column column n e =
    ap (λ each. column_of each c) after ∙ get_or-set_same columns c (put_column column n e) no_column there in
    let P : Put → Type 0 = λ put. PutMeans (column_of new c) n e put in
    let Q : Column → Type 0 = λ at. PutMeans at n e (put_answer column n e) in
    subst P (sym is) (subst Q (sym here) (put_tells column n e))
columns_tell (Err fault) columns new c n e there is after = tt

pub columns_grow :
    {E : Type 0} (result : Result Put E) (columns new : List Column) (c n : ℕ) (e : Entry) →
    OnOk result (new ≡ slice_set columns c (put_column (column_of columns c) n e)) → OnErr result (new ≡ columns) →
    Grows columns new
columns_grow (Ok put) columns new c n e after stays =
    let P : List Column → Type 0 = Grows columns in
    subst P (sym after) (Grows-set columns c (put_column (column_of columns c) n e) (put_grows (column_of columns c) n e))
columns_grow (Err fault) columns new c n e after stays =
    let P : List Column → Type 0 = Grows columns in
    subst P (sym stays) (Grows-refl columns)

-- The columns after a departure of client c.
pub left_columns_grow :
    (columns new : List Column) (c : ℕ) → new ≡ slice_set columns c (left_column (column_of columns c)) → Grows columns new
left_columns_grow columns new c after =
    let P : List Column → Type 0 = Grows columns in
    subst P (sym after) (Grows-set columns c (left_column (column_of columns c)) (left_grows (column_of columns c)))
