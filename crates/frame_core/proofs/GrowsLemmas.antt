-- Columns that grow keep what stands in them. So a frame that each client has is the same frame
-- ever after, and so is the agreed world.
use Rattle.std.specs.Prelude.{◌≡◌, ◌≢◌, ℕ, zero, suc, ◌<◌, ◌≤◌, ◌==◌, nat_lt, Bool, true, false}
use Rattle.std.specs.Prelude.{◌&&◌, ◌⊎◌, if◌then◌else◌, List, [], ◌∷◌, ◌++◌, map, Option, Some}
use Rattle.std.specs.Prelude.{None, is_some, slice_get, slice_set}
use Rattle.std.specs.List.{AllByRecursion}
use Rattle.std.proofs.Common.{refl, sym, ap, ap₂, subst, ◌∙◌, inl, inr, arith, append-nil, lt-ltb}
use Rattle.std.proofs.Common.{get_or}
use Rattle.std.proofs.lemmas.Bool.Decides.{eqb_tells}
use Rattle.std.proofs.lemmas.Option.{slice_get_cases}
use Rattle.game_orders.specs.declared.order.Order.{Order}
use Rattle.game_orders.specs.declared.entry.Entry.{Entry}
use Rattle.game_orders.specs.declared.entry.Entry.TheVariants.{Play, Leave}
use Rattle.game_orders.specs.Entry.{same_entry}
use Rattle.frame_core.specs.declared.put.Put.{Put}
use Rattle.frame_core.specs.declared.put.Put.TheVariants.{Fixed, Repeat, Conflict, Left, Ahead}
use Rattle.frame_core.specs.declared.put.Put.TheVariants.{Full}
use Rattle.frame_core.specs.Column.{Column, no_column, length_of, entry_from, entry_at, has_at}
use Rattle.frame_core.specs.Column.{put_by, put_answer, with_entry, after_answer, put_column}
use Rattle.frame_core.specs.Column.{left_column, column_of}
use Rattle.frame_core.specs.Ready.{or_leave, each_at, frame_at}
use Rattle.frame_core.proofs.FoldLemmas.{folded_same}
use Rattle.frame_core.specs.World.{world_at}
use Rattle.frame_core.specs.Grows.{GrowsTo, Grows, AllHave}

-- What stands in an open column is a play.
from_play :
    (found : Option (List Order)) (e : Entry) → entry_from found false ≡ Some e →
    (orders : List Order) × ((found ≡ Some orders) × (Some (Play orders) ≡ Some e))
from_play (Some orders) e at = (orders, (refl, at))
from_play None e at = absurd cc

get_append :
    {X : Type 0} (xs ys : List X) (n : ℕ) (x : X) → slice_get xs n ≡ Some x →
    slice_get (xs ++ ys) n ≡ Some x
get_append [] ys n x at = absurd cc
get_append (y ∷ xs) ys zero x at = at
get_append (y ∷ xs) ys (suc n) x at = get_append xs ys n x at

open_grows :
    (old new : Column) (n : ℕ) (e : Entry) (left later : Bool) → GrowsTo old new → left ≡ false →
    entry_from (slice_get old.plays n) left ≡ Some e →
    entry_from (slice_get new.plays n) later ≡ Some e
open_grows old new n e left later grows is_open at =
    let play : (orders : List Order)
    × ((slice_get old.plays n ≡ Some orders) × (Some (Play orders) ≡ Some e)) =
    from_play (slice_get old.plays n) e (ap (entry_from (slice_get old.plays n)) (sym is_open) ∙ at) in
    ap (λ plays. entry_from (slice_get plays n) later) grows.plays
    ∙ ap (λ found. entry_from found later) (get_append old.plays grows.more n play.0 play.1.0)
    ∙ play.1.1

-- What stands in a column stands in it when it has grown.
pub stands_grows :
    (old new : Column) (n : ℕ) (e : Entry) → GrowsTo old new → entry_at old n ≡ Some e →
    entry_at new n ≡ Some e
stands_grows old new n e grows at = by_left old.left refl where
  by_left : (left : Bool) → old.left ≡ left → entry_at new n ≡ Some e
  by_left true is = ap (λ column. entry_at column n) (grows.closed is) ∙ at
  by_left false is =
      open_grows old new n e (old.left && (n == length_of old)) (new.left && (n == length_of new)) grows
      (ap (λ left. left && (n == length_of old)) is) at

-- What a client had for a frame it has when its column has grown.
pub has_grows :
    (old new : Column) (n : ℕ) (e : Entry) → GrowsTo old new → has_at old n ≡ Some e →
    has_at new n ≡ Some e
has_grows old new n e grows at = by_left old.left refl where
  by_left : (left : Bool) → old.left ≡ left → has_at new n ≡ Some e
  by_left true is = ap (λ column. has_at column n) (grows.closed is) ∙ at
  by_left false is = open_grows old new n e old.left new.left grows is at

pub GrowsTo-refl : (column : Column) → GrowsTo column column
GrowsTo-refl column =
    record { more = []; plays = sym (append-nil column.plays); closed = λ _. refl }

pub Grows-refl : (columns : List Column) → Grows columns columns
Grows-refl [] = tt
Grows-refl (column ∷ columns) = (GrowsTo-refl column, Grows-refl columns)

-- One column that grows, in its place.
pub Grows-set :
    (columns : List Column) (c : ℕ) (new : Column) → GrowsTo (column_of columns c) new →
    Grows columns (slice_set columns c new)
Grows-set [] c new grows = tt
Grows-set (column ∷ columns) zero new grows = (grows, Grows-refl columns)
Grows-set (column ∷ columns) (suc c) new grows =
    (GrowsTo-refl column, Grows-set columns c new grows)

-- Each column of columns that grow grows.
pub Grows-column :
    (olds news : List Column) (c : ℕ) → Grows olds news →
    GrowsTo (column_of olds c) (column_of news c)
Grows-column [] [] c grows = GrowsTo-refl no_column
Grows-column [] (new ∷ news) c grows = absurd grows
Grows-column (old ∷ olds) [] c grows = absurd grows
Grows-column (old ∷ olds) (new ∷ news) zero grows = grows.0
Grows-column (old ∷ olds) (new ∷ news) (suc c) grows = Grows-column olds news c grows.1

-- A departure grows the column.
pub left_grows : (column : Column) → GrowsTo column (left_column column)
left_grows column =
    record { more = []; plays = sym (append-nil column.plays); closed = λ left. ap (λ b. record column { left = b }) (sym left) }

none_or_some : (e : Entry) → Some e ≡ None → ⊥
none_or_some e same = cc

-- After a departure nothing can be added.
pub past_departure :
    (column : Column) (n : ℕ) → column.left ≡ true → entry_at column n ≡ None → length_of column < n
past_departure column n left none = by_play (slice_get_cases column.plays n).1 where
  by_end :
      length_of column ≤ n → slice_get column.plays n ≡ None →
      ((n == length_of column) ≡ true) × (n ≡ length_of column)
      ⊎ ((n == length_of column) ≡ false) × (n ≢ length_of column) →
      length_of column < n
  by_end reached absent (inl (at, same)) =
      let here : entry_at column n ≡ Some Leave =
      ap₂ entry_from absent (ap₂ (λ a b. a && b) left at) in
      absurd (none_or_some Leave (sym here ∙ none))
  by_end reached absent (inr (at, differs)) = omega arith

  by_play :
      ((x : List Order) × (n < length_of column) × (slice_get column.plays n ≡ Some x)
      × (get_or column.plays n x ≡ x))
      ⊎ ((length_of column ≤ n) × (slice_get column.plays n ≡ None)) → length_of column < n
  by_play (inl (x, below, found, is)) =
      absurd (none_or_some (Play x) (sym (ap (λ f. entry_from f (column.left && (n == length_of column))) found) ∙ none))
  by_play (inr (reached, absent)) = by_end reached absent (eqb_tells n (length_of column))

refused_some : (same : Bool) (kept : Entry) → (if same then Repeat else Conflict kept) ≡ Fixed → ⊥
refused_some true kept fixed = cc
refused_some false kept fixed = cc

refused_left :
    (past : Bool) (at : ℕ) (other : Put) → past ≡ true → (if past then Left at else other) ≡ Fixed →
    ⊥
refused_left true at other is fixed = cc
refused_left false at other is fixed = cc

closed_column :
    (found : Option Entry) (column : Column) (n : ℕ) (e : Entry) →
    (found ≡ None → length_of column < n) →
    column.left ≡ true → put_by found column n e ≡ Fixed → ⊥
closed_column (Some kept) column n e past left fixed = refused_some (same_entry e kept) kept fixed
closed_column None column n e past left fixed =
    refused_left (column.left && nat_lt (length_of column) n) (length_of column) _
    (ap₂ (λ a b. a && b) left (lt-ltb (length_of column) n (past refl))) fixed

-- Only a column whose client has not left takes an entry.
pub fixed_open :
    (column : Column) (n : ℕ) (e : Entry) → put_answer column n e ≡ Fixed → column.left ≡ false
fixed_open column n e fixed = by_left column.left refl where
  by_left : (left : Bool) → column.left ≡ left → column.left ≡ false
  by_left true is =
      absurd
      (closed_column (entry_at column n) column n e (past_departure column n is) is fixed)
  by_left false is = is

with_entry_grows :
    (column : Column) (e : Entry) → column.left ≡ false → GrowsTo column (with_entry column e)
with_entry_grows column (Play orders) is_open =
    record { more = orders ∷ []; plays = refl; closed = λ left. absurd cc }
with_entry_grows column Leave is_open = left_grows column

after_grows :
    (answer : Put) (column : Column) (e : Entry) → (answer ≡ Fixed → column.left ≡ false) →
    GrowsTo column (after_answer answer column e)
after_grows Fixed column e is_open = with_entry_grows column e (is_open refl)
after_grows Repeat column e is_open = GrowsTo-refl column
after_grows (Conflict kept) column e is_open = GrowsTo-refl column
after_grows (Left at) column e is_open = GrowsTo-refl column
after_grows (Ahead plays) column e is_open = GrowsTo-refl column
after_grows Full column e is_open = GrowsTo-refl column

-- A put grows the column.
pub put_grows : (column : Column) (n : ℕ) (e : Entry) → GrowsTo column (put_column column n e)
put_grows column n e = after_grows (put_answer column n e) column e (fixed_open column n e)

-- A frame that each client has stays as it is.
pub each_grows :
    (olds news : List Column) (n : ℕ) → Grows olds news → AllHave olds n →
    each_at news n ≡ each_at olds n
each_grows [] [] n grows have = refl
each_grows [] (new ∷ news) n grows have = absurd grows
each_grows (old ∷ olds) [] n grows have = absurd grows
each_grows (old ∷ olds) (new ∷ news) n grows have =
    ap₂ (λ x xs. x ∷ xs) (same (has_at old n) refl have.0) (each_grows olds news n grows.1 have.1)
  where
    same :
        (had : Option Entry) → has_at old n ≡ had → is_some had ≡ true →
        has_at new n ≡ has_at old n
    same (Some e) is some = has_grows old new n e grows.0 is ∙ sym is
    same None is some = absurd cc

pub have_grows :
    (olds news : List Column) (n : ℕ) → Grows olds news → AllHave olds n → AllHave news n
have_grows olds news n grows have =
    let P : List (Option Entry) → Type 0 = AllByRecursion (λ each. is_some each ≡ true) in
    subst P (sym (each_grows olds news n grows have)) have

-- The agreed frame is the same as long as columns grow, where each client has something for it.
pub frame_stays :
    (olds news : List Column) (n : ℕ) → Grows olds news → AllHave olds n →
    frame_at news n ≡ frame_at olds n
frame_stays olds news n grows have = ap (map or_leave) (each_grows olds news n grows have)

-- The agreed world of frames that each client has stays as it is.
pub world_grows :
    {W : Type 0} (after : W → List Entry → W) (start : W) (olds news : List Column) (n : ℕ) →
    Grows olds news →
    ((k : ℕ) → k < n → AllHave olds k) → world_at after start news n ≡ world_at after start olds n
world_grows after start olds news n grows have =
    folded_same after start (frame_at news) (frame_at olds) n
    (λ k below. frame_stays olds news k grows (have k below))
