-- Columns that follow a script: what is found of them, and what a put and a departure make of them.
use Rattle.std.proofs.Common.{◌≡◌, ℕ, zero, suc, ◌<◌, ◌≤◌, ◌==◌, ◌&&◌, nat_lt, Bool, true, false, true≢false, if◌then◌else◌, List, [], ◌∷◌, ◌++◌, length, take, refl, sym, ap, ◌∙◌, subst, inl, inr, arith, Some, None, append-nil, append_assoc, length-append}
use Rattle.std.specs.Prelude.{slice_get, Option as Maybe}
use Rattle.std.proofs.lemmas.Bool.{ne_eqb}
use Rattle.std.proofs.lemmas.Bool.Decides.{nat_tests}
use Rattle.game_orders.specs.declared.order.Order.{Order}
use Rattle.game_orders.specs.declared.entry.Entry.{Entry}
use Rattle.game_orders.specs.declared.entry.Entry.TheVariants.{Play}
use Rattle.game_orders.specs.declared.limits.TheConstants.{MAX_FRAMES}
use Rattle.game_orders.specs.Entry.{same_entry}
use Rattle.frame_core.specs.declared.put.Put.TheVariants.{Fixed, Repeat, Conflict, Ahead, Full}
use Rattle.frame_core.specs.Column.{Column, length_of, entry_from, has_at, put_by, put_column, after_answer, left_column}
use Rattle.frame_table.specs.declared.seen.Seen.{Seen}
use Rattle.frame_table.specs.declared.planned.Planned.TheVariants.{Plays}
use Rattle.frame_table.specs.Part.{Part}
use Rattle.frame_table.specs.Word.{whole_of}
use Rattle.frame_table.specs.Rule.{IsReach, Follows}
use Rattle.frame_table.specs.Steps.{published}
use Rattle.frame_table.specs.Calls.{HasSeen}
use Rattle.match_run.specs.Local.{script_column, IsAll}
use Rattle.match_run.specs.Passes.{FollowsScript, KnowsSeen}

get_prefix : (xs ys : List (List Order)) (n : ℕ) → n < length xs → slice_get (xs ++ ys) n ≡ slice_get xs n
get_prefix [] ys n below = absurd (omega arith)
get_prefix (x ∷ xs) ys zero below = refl
get_prefix (x ∷ xs) ys (suc n) below = get_prefix xs ys n (omega arith)

got_none : (xs : List (List Order)) (n : ℕ) → slice_get xs n ≡ None → length xs ≤ n
got_none [] n is = omega arith
got_none (x ∷ xs) zero is = absurd cc
got_none (x ∷ xs) (suc n) is = let rest = got_none xs n is in omega arith

got_some : (xs : List (List Order)) (n : ℕ) (x : List Order) → slice_get xs n ≡ Some x → n < length xs
got_some [] n x is = absurd cc
got_some (y ∷ xs) zero x is = omega arith
got_some (y ∷ xs) (suc n) x is = let rest = got_some xs n x is in omega arith

none_past : (xs : List (List Order)) (n : ℕ) → length xs ≤ n → slice_get xs n ≡ None
none_past [] n past = refl
none_past (x ∷ xs) zero past = absurd (omega arith)
none_past (x ∷ xs) (suc n) past = none_past xs n (omega arith)

take_front : (xs ys : List (List Order)) → take (length xs) (xs ++ ys) ≡ xs
take_front [] [] = refl
take_front [] (y ∷ ys) = refl
take_front (x ∷ xs) ys = ap (λ l. x ∷ l) (take_front xs ys)

no_more : (done later plays : List (List Order)) → plays ≡ done ++ later → length plays ≤ length done → done ≡ plays
no_more done [] plays is short = sym (is ∙ append-nil done)
no_more done (x ∷ later) plays is short =
    let l = ap length is in
    let m = length-append done (x ∷ later) in
    absurd (omega arith)

-- The plan goes on as the column does.
next_planned : (later done plays : List (List Order)) (orders : List Order) → plays ≡ done ++ later → slice_get plays (length done) ≡ Some orders → (rest : List (List Order)) × (later ≡ orders ∷ rest)
next_planned later [] [] orders is at = absurd cc
next_planned [] [] (p ∷ plays) orders is at = absurd cc
next_planned (l ∷ later) [] (p ∷ plays) orders is at = (later, cc)
next_planned later (d ∷ done) [] orders is at = absurd cc
next_planned later (d ∷ done) (p ∷ plays) orders is at = next_planned later done plays orders (cc) at

-- A column that follows a script and has all its plays, and one that was left.
pub all_played : (plays : List (List Order)) (K : Column) → Follows (Plays plays) K → length plays ≤ length_of K → K.plays ≡ plays
all_played plays K follows long = no_more K.plays follows.0.0 plays follows.0.1 long

pub left_whole : (plays : List (List Order)) (K : Column) → Follows (Plays plays) K → K.left ≡ true → K ≡ script_column plays
left_whole plays K follows left =
    let end = follows.1 left in
    let same : K.plays ≡ plays = all_played plays K follows (omega arith) in
    λ i. record { plays = same i; left = left i }

pub departed : (plays : List (List Order)) (K : Column) → Follows (Plays plays) K → length plays ≤ length_of K → left_column K ≡ script_column plays
departed plays K follows long = λ i. record { plays = all_played plays K follows long i; left = true }

pub whole_follows : (plays : List (List Order)) → Follows (Plays plays) (script_column plays)
whole_follows plays = (([], sym (append-nil plays)), λ left. refl)

-- What was seen of a client's frame is what its script has.
any_left : (xs : List (List Order)) (n : ℕ) (a b : Bool) → n < length xs → entry_from (slice_get xs n) a ≡ entry_from (slice_get xs n) b
any_left xs n a b below = by (slice_get xs n) refl
  where
    by : (at : Maybe (List Order)) → slice_get xs n ≡ at → entry_from at a ≡ entry_from at b
    by (Some orders) is = refl
    by None is = let past = got_none xs n is in absurd (omega arith)

pub has_script : (plays : List (List Order)) (K : Column) (reach : Seen) (n : ℕ) → Follows (Plays plays) K → IsReach K reach → HasSeen reach n → has_at K n ≡ has_at (script_column plays) n
has_script plays K reach n follows found (inl before) =
    let there = found.plays in
    let below : n < length_of K = omega arith in
    any_left K.plays n K.left true below
    ∙ ap (λ at. entry_from at true) (sym (ap (λ l. slice_get l n) follows.0.1 ∙ get_prefix K.plays follows.0.0 n below))
has_script plays K reach n follows found (inr past) =
    ap (λ (k : Column). has_at k n) (left_whole plays K follows (found.left past.0).0)

-- A column that was published follows the script, and all of it is seen and known.
pub published_so : (plays : List (List Order)) (part next : Part) (K L : Column) → part.planned ≡ Plays plays → Follows (Plays plays) L → next ≡ published part K L → FollowsScript plays next × KnowsSeen plays next
published_so plays part next K L planned follows is =
    subst (λ (q : Part). FollowsScript plays q × KnowsSeen plays q) (sym is) (
      record {
        planned = planned;
        within =
            let l = ap length follows.0.1 in
            let m = length-append L.plays follows.0.0 in
            (omega arith, follows.1);
      },
      (λ i. record { plays = (sym (take_front L.plays follows.0.0) ∙ ap (take (length_of L)) (sym follows.0.1)) i; left = L.left }),
    )

pub published_all : (column : Column) (part next : Part) (K L : Column) → L ≡ column → next ≡ published part K L → IsAll next column
published_all column part next K L whole is =
    subst (λ (q : Part). IsAll q column) (sym is) (record { reach = ap whole_of whole; known = whole })

-- A put of the script's play.
kept_same : (b : Bool) (K : Column) (kept e : Entry) → after_answer (if b then Repeat else Conflict kept) K e ≡ K
kept_same true K kept e = refl
kept_same false K kept e = refl

put_there : (K : Column) (n : ℕ) (orders : List Order) → n < length_of K → put_column K n (Play orders) ≡ K
put_there K n orders below = by (slice_get K.plays n) refl
  where
    by : (at : Maybe (List Order)) → slice_get K.plays n ≡ at → put_column K n (Play orders) ≡ K
    by (Some kept) is =
        ap (λ at. after_answer (put_by (entry_from at (K.left && (n == length_of K))) K n (Play orders)) K (Play orders)) is
        ∙ kept_same (same_entry (Play orders) (Play kept)) K (Play kept) (Play orders)
    by None is = let past = got_none K.plays n is in absurd (omega arith)

not_past : (a b : ℕ) → b ≤ a → nat_lt a b ≡ false
not_past a b past = grind (arith, nat_tests, past)

unfoldable pub open_column : List (List Order) → Column
open_column plays = record { plays = plays; left = false }

pub put_last : (done : List (List Order)) (n : ℕ) (orders : List Order) → n ≡ length done → n < MAX_FRAMES → put_column (open_column done) n (Play orders) ≡ open_column (done ++ orders ∷ [])
unfolding open_column
put_last done n orders here room =
    ap (λ at. after_answer (put_by (entry_from at false) (record { plays = done; left = false }) n (Play orders)) (record { plays = done; left = false }) (Play orders)) (none_past done n (omega arith))
    ∙ ap (λ b. after_answer (if b then Ahead (length done) else (if n == MAX_FRAMES then Full else Fixed)) (record { plays = done; left = false }) (Play orders)) (not_past (length done) n (omega arith))
    ∙ ap (λ b. after_answer (if b then Full else Fixed) (record { plays = done; left = false }) (Play orders)) (ne_eqb n MAX_FRAMES (λ full. omega arith))

abbrev IsPut : List (List Order) → ℕ → Column → Type 0
IsPut plays n L = Follows (Plays plays) L × (n < length_of L)

pub put_script : (plays : List (List Order)) (K : Column) (n : ℕ) (orders : List Order) → Follows (Plays plays) K → n ≤ length_of K → slice_get plays n ≡ Some orders → length plays ≤ MAX_FRAMES →
    Follows (Plays plays) (put_column K n (Play orders)) × (n < length_of (put_column K n (Play orders)))
unfolding open_column
put_script plays K n orders follows near at few = by (nat_lt n (length_of K)) refl
  where
    next : K.left ≡ false → n ≡ length_of K → IsPut plays n (put_column K n (Play orders))
    next playing here =
        let below = got_some plays n orders at in
        let more = next_planned follows.0.0 K.plays plays orders follows.0.1 (subst (λ k. slice_get plays k ≡ Some orders) here at) in
        let same : K ≡ open_column K.plays = λ i. record { plays = K.plays; left = playing i } in
        subst (IsPut plays n) (sym (ap (λ (k : Column). put_column k n (Play orders)) same ∙ put_last K.plays n orders here (omega arith))) (
          ((more.0, follows.0.1 ∙ ap (λ l. K.plays ++ l) more.1 ∙ sym (append_assoc K.plays (orders ∷ []) more.0)), λ left. absurd (true≢false (sym left))),
          (let l = length-append K.plays (orders ∷ []) in omega arith),
        )

    by_left : (left : Bool) → K.left ≡ left → n ≡ length_of K → IsPut plays n (put_column K n (Play orders))
    by_left true is here = let end = follows.1 is in let below = got_some plays n orders at in absurd (omega arith)
    by_left false is here = next is here

    by : (b : Bool) → nat_lt n (length_of K) ≡ b → IsPut plays n (put_column K n (Play orders))
    by true is =
        let below : n < length_of K = grind (arith, nat_tests, is) in
        subst (IsPut plays n) (sym (put_there K n orders below)) (follows, below)
    by false is =
        let past : length_of K ≤ n = grind (arith, nat_tests, is) in
        by_left K.left refl (omega arith)
