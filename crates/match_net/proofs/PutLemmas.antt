-- What a column answers to a client's own plays, also where another has let the client leave.
use Rattle.std.proofs.Common.{◌≡◌, ℕ, zero, suc, ◌<◌, ◌≤◌, ◌==◌, Bool, true, false, List, [], ◌∷◌, length, Option, Some, None, refl, sym, ◌∙◌, arith, inl, inr, lt-ltb}
use Rattle.std.specs.Prelude.{slice_get, nat_lt, if◌then◌else◌}
use Rattle.std.proofs.Common.{true≢false}
use Rattle.std.proofs.lemmas.Bool.{cases_lt, eqb-true}
use Rattle.std.proofs.lemmas.Bool.Decides.{eqb_tells}
use Rattle.game_orders.specs.declared.order.Order.{Order}
use Rattle.game_orders.specs.declared.entry.Entry.{Entry}
use Rattle.game_orders.specs.declared.entry.Entry.TheVariants.{Play, Leave}
use Rattle.game_orders.specs.declared.limits.TheConstants.{MAX_FRAMES}
use Rattle.game_orders.specs.Entry.{same_entry}
use Rattle.frame_core.specs.Column.{Column, entry_from, put_by, put_answer, put_column}
use Rattle.frame_core.specs.declared.put.Put.{Put}
use Rattle.frame_core.specs.declared.put.Put.TheVariants.{Fixed, Repeat, Conflict, Left, Ahead, Full}
use Rattle.order_packets.specs.declared.up.Up.TheVariants.{Orders}
use Rattle.match_net.specs.Session.{Session, own_column}
use Rattle.match_net.specs.Handling.{end_by_put, IsLeftIf, HandlingMeans}

-- A column of these plays.
abbrev pub with_plays : List (List Order) → Bool → Column
with_plays plays left = record { plays = plays; left = left }

-- What a put says of a session, where the column has its plays.
pub record PutSays (client : ℕ) (session : Session) (left : Bool) (n : ℕ) (orders : List Order) : Type 0 where
  pub means : HandlingMeans client session (Orders n orders)
      (record session { plays = (put_column (with_plays session.plays left) n (Play orders)).plays })
      (end_by_put (put_answer (with_plays session.plays left) n (Play orders)) n)
  pub knows : IsLeftIf left (end_by_put (put_answer (with_plays session.plays left) n (Play orders)) n)
  pub stays : (put_column (with_plays session.plays left) n (Play orders)).left ≡ left

-- An answer that the client's own column gives as well.
abbrev IsOwn : Put → Type 0
IsOwn Fixed = Unit {0}
IsOwn Repeat = Unit {0}
IsOwn (Conflict (Play kept)) = Unit {0}
IsOwn (Conflict Leave) = ⊥
IsOwn (Left at) = ⊥
IsOwn (Ahead plays) = Unit {0}
IsOwn Full = Unit {0}

says_own :
    (client : ℕ) (session : Session) (left : Bool) (n : ℕ) (orders : List Order) (answer : Put) → IsOwn answer →
    put_answer (own_column session) n (Play orders) ≡ answer →
    put_answer (with_plays session.plays left) n (Play orders) ≡ answer →
    PutSays client session left n orders
says_own client session left n orders Fixed own is also = record { means = rw also (rw is refl); knows = rw also tt; stays = rw also refl }
says_own client session left n orders Repeat own is also = record { means = rw also (rw is refl); knows = rw also tt; stays = rw also refl }
says_own client session left n orders (Conflict (Play kept)) own is also = record { means = rw also (refl, rw is refl); knows = rw also tt; stays = rw also refl }
says_own client session left n orders (Conflict Leave) own is also = absurd own
says_own client session left n orders (Left at) own is also = absurd own
says_own client session left n orders (Ahead plays) own is also = record { means = rw also (refl, rw is refl); knows = rw also tt; stays = rw also refl }
says_own client session left n orders Full own is also = record { means = rw also (refl, rw is refl); knows = rw also tt; stays = rw also refl }

kept_is_own : (e : Entry) (kept : List Order) (same : Bool) → IsOwn (if same then Repeat else Conflict (Play kept))
kept_is_own e kept true = tt
kept_is_own e kept false = tt

choice_is_own : (beyond full : Bool) (at : ℕ) → IsOwn (if beyond then Ahead at else (if full then Full else Fixed))
choice_is_own true full at = tt
choice_is_own false true at = tt
choice_is_own false false at = tt

own_by : (plays : List (List Order)) (n : ℕ) (orders : List Order) (found : Option (List Order)) →
    IsOwn (put_by (entry_from found false) (with_plays plays false) n (Play orders))
own_by plays n orders (Some kept) = kept_is_own (Play orders) kept (same_entry (Play orders) (Play kept))
own_by plays n orders None = choice_is_own (nat_lt (length plays) n) (n == MAX_FRAMES) (length plays)

get_below : {X : Type 0} (xs : List X) (n : ℕ) → n < length xs → (x : X) × (slice_get xs n ≡ Some x)
get_below [] n below = absurd (omega arith)
get_below (x ∷ xs) zero below = (x, refl)
get_below (x ∷ xs) (suc n) below = get_below xs n (omega arith)

get_past : {X : Type 0} (xs : List X) (n : ℕ) → length xs ≤ n → slice_get xs n ≡ None
get_past [] n past = refl
get_past (x ∷ xs) zero past = absurd (omega arith)
get_past (x ∷ xs) (suc n) past = get_past xs n (omega arith)

says_late :
    (client : ℕ) (session : Session) (n : ℕ) (orders : List Order) → length session.plays ≤ n →
    (at_end : Bool) → (n == length session.plays) ≡ at_end → PutSays client session true n orders
says_late client session n orders past true is =
    let none : slice_get session.plays n ≡ None = get_past session.plays n past in
    record {
      means = rw (none, is) (refl, record { frame = n; orders = orders; is = refl; after_all = eqb-true n (length session.plays) is; late = omega arith });
      knows = rw (none, is) refl;
      stays = rw (none, is) refl;
    }
says_late client session n orders past false is =
    let none : slice_get session.plays n ≡ None = get_past session.plays n past in
    let below : length session.plays < n = below_by n (length session.plays) past is in
    let beyond : nat_lt (length session.plays) n ≡ true = lt-ltb (length session.plays) n below in
    record {
      means = rw (none, is, beyond) (refl, record { frame = n; orders = orders; is = refl; after_all = refl; late = omega arith });
      knows = rw (none, is, beyond) refl;
      stays = rw (none, is, beyond) refl;
    }
  where
    lt_by : (n size : ℕ) → size ≤ n → (n ≡ size → ⊥) → size < n
    lt_by n size past differ = elim (cases_lt size n) [ inl below ↦ below | inr above ↦ absurd (differ (omega arith)) ]

    below_by : (n size : ℕ) → size ≤ n → (n == size) ≡ false → size < n
    below_by n size past other =
        elim (eqb_tells n size) [
          | inl same ↦ absurd (true≢false (sym same.0 ∙ other))
          | inr differ ↦ lt_by n size past differ.1
        ]

-- Whether or not another has let the client leave.
pub put_says : (client : ℕ) (session : Session) (left : Bool) (n : ℕ) (orders : List Order) → PutSays client session left n orders
put_says client session false n orders =
    says_own client session false n orders (put_answer (own_column session) n (Play orders))
    (own_by session.plays n orders (slice_get session.plays n)) refl refl
put_says client session true n orders =
    elim (cases_lt n (length session.plays)) [
      | inl below ↦
          let kept = get_below session.plays n below in
          says_own client session true n orders (if same_entry (Play orders) (Play kept.0) then Repeat else Conflict (Play kept.0))
          (kept_is_own (Play orders) kept.0 (same_entry (Play orders) (Play kept.0))) (rw kept.1 refl) (rw kept.1 refl)
      | inr past ↦ says_late client session n orders past (n == length session.plays) refl
    ]
