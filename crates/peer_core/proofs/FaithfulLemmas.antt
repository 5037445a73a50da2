-- What keeps a peer faithful to the columns: seals, deliveries of what stands in them, ticks, and
-- columns that grow.
use Rattle.std.specs.Prelude.{◌≡◌, ℕ, suc, ◌+◌, ◌<◌, ◌≤◌, ◌==◌, ◌&&◌, nat_lt, not, Bool, true}
use Rattle.std.specs.Prelude.{false, cond, List, [], ◌∷◌, length, Option, Some, None, is_some}
use Rattle.std.specs.Prelude.{slice_get}
use Rattle.std.specs.List.{AllByRecursion, find}
use Rattle.std.specs.Option.{option_map}
use Rattle.std.proofs.Common.{refl, sym, ap, ap₂, subst, ◌∙◌, inl, inr, arith}
use Rattle.std.proofs.lemmas.Bool.{and_parts, eqb-true, ltb-true}
use Rattle.std.proofs.lemmas.Option.{slice_get_cases}
use Rattle.game_orders.specs.declared.order.Order.{Order}
use Rattle.game_orders.specs.declared.entry.Entry.{Entry}
use Rattle.game_orders.specs.declared.entry.Entry.TheVariants.{Play, Leave}
use Rattle.game_orders.specs.Entry.{is_play}
use Rattle.frame_core.specs.Column.{Column, length_of, entry_from, entry_at, has_at, column_of}
use Rattle.frame_core.specs.Ready.{each_at}
use Rattle.frame_core.specs.Grows.{Grows}
use Rattle.frame_core.proofs.GrowsLemmas.{stands_grows, Grows-column}
use Rattle.peer_core.specs.declared.arrived.Arrived.{Arrived}
use Rattle.peer_core.specs.Arrived.{is_of, is_left, kept_at, left_before, or_left, has_of, each_of}
use Rattle.peer_core.specs.Arrived.{ready_by}
use Rattle.peer_core.specs.Delivery.{delivery_of}
use Rattle.frame_core.proofs.AgreedLemmas.{opening_is_at, tick_is_at, grow_is_at}
use Rattle.peer_core.proofs.ArrivedLemmas.{all_after_delivery}
use Rattle.peer_core.specs.Peer.{PeerState, fresh_peer, delivered_peer, sealed_peer, ticked_peer}
use Rattle.peer_core.specs.Faithful.{Stands, IsFaithful}

-- What stands in a column at a frame is what its client has for the frame.
stands_has : (found : Option (List Order)) (left here : Bool) (entry : Entry) →
    entry_from found (left && here) ≡ Some entry → entry_from found left ≡ Some entry
stands_has (Some orders) left here entry at = at
stands_has None true true entry at = at
stands_has None true false entry at = absurd cc
stands_has None false here entry at = absurd cc

-- A departure stands after all plays.
departure_stands :
    (found : Option (List Order)) (left here : Bool) →
    entry_from found (left && here) ≡ Some Leave → (left ≡ true) × (here ≡ true)
departure_stands (Some orders) left here at = absurd cc
departure_stands None true true at = (refl, refl)
departure_stands None true false at = absurd cc
departure_stands None false here at = absurd cc

no_play_after : (plays : List (List Order)) (n : ℕ) → length plays ≤ n → slice_get plays n ≡ None
no_play_after plays n following =
    elim (slice_get_cases plays n).1 [
      | inl found ↦ absurd
          (omega (arith, found.1))
      | inr absent ↦ absent.1
    ]

-- After a departure its client has the departure.
has_departure :
    (column : Column) (at n : ℕ) → entry_at column at ≡ Some Leave → at < n →
    has_at column n ≡ Some Leave
has_departure column at n stands before =
    let both = departure_stands (slice_get column.plays at) column.left
    (at == length_of column) stands in
    let same : at ≡ length_of column = eqb-true at (length_of column) both.1 in
    ap₂ entry_from (no_play_after column.plays n (omega arith)) both.0

kept_stands :
    (columns : List Column) (a : Arrived) (xs : List Arrived) (c n : ℕ) (entry : Entry)
    (here : Bool) → is_of c n a ≡ here →
    Stands columns a →
    (option_map (λ u. u.entry) (find (is_of c n) xs) ≡ Some entry →
    entry_at (column_of columns c) n ≡ Some entry) →
    option_map (λ u. u.entry) (cond here (Some a) (find (is_of c n) xs)) ≡ Some entry →
    entry_at (column_of columns c) n ≡ Some entry
kept_stands columns a xs c n entry true is stands rest found =
    let parts = and_parts (a.client == c) (a.frame == n) is in
    ap₂ (λ d k. entry_at (column_of columns d) k) (sym (eqb-true a.client c parts.0))
    (sym (eqb-true a.frame n parts.1))
    ∙ stands ∙ found
kept_stands columns a xs c n entry false is stands rest found = rest found

-- What is kept at a frame stands there in the columns.
pub kept_agrees :
    (columns : List Column) (xs : List Arrived) (c n : ℕ) (entry : Entry) →
    AllByRecursion (Stands columns) xs →
    kept_at xs c n ≡ Some entry → entry_at (column_of columns c) n ≡ Some entry
kept_agrees columns [] c n entry all kept = absurd cc
kept_agrees columns (a ∷ xs) c n entry all kept =
    kept_stands columns a xs c n entry (is_of c n a) refl all.0
    (kept_agrees columns xs c n entry all.1) kept

-- What is no play is a departure.
pub leave_of : (entry : Entry) → not (is_play entry) ≡ true → entry ≡ Leave
leave_of (Play orders) leaves = absurd cc
leave_of Leave leaves = refl

left_stands :
    (columns : List Column) (a : Arrived) (xs : List Arrived) (c n at : ℕ) (here : Bool) →
    is_left c n a ≡ here →
    Stands columns a →
    (option_map (λ u. u.frame) (find (is_left c n) xs) ≡ Some at →
    (entry_at (column_of columns c) at ≡ Some Leave) × (at < n)) →
    option_map (λ u. u.frame) (cond here (Some a) (find (is_left c n) xs)) ≡ Some at →
    (entry_at (column_of columns c) at ≡ Some Leave) × (at < n)
left_stands columns a xs c n at true is stands rest found =
    let parts = and_parts (a.client == c) (nat_lt a.frame n && not (is_play a.entry)) is in
    let more = and_parts (nat_lt a.frame n) (not (is_play a.entry)) parts.1 in
    let frame : a.frame ≡ at = cc in (
      ap₂ (λ d k. entry_at (column_of columns d) k) (sym (eqb-true a.client c parts.0)) (sym frame)
          ∙ stands ∙ ap Some (leave_of a.entry more.1),
      subst (λ k. k < n) frame (ltb-true a.frame n more.0),
    )
left_stands columns a xs c n at false is stands rest found = rest found

-- A departure that is kept stands in the columns.
pub left_agrees :
    (columns : List Column) (xs : List Arrived) (c n at : ℕ) → AllByRecursion (Stands columns) xs →
    left_before xs c n ≡ Some at → (entry_at (column_of columns c) at ≡ Some Leave) × (at < n)
left_agrees columns [] c n at all left = absurd cc
left_agrees columns (a ∷ xs) c n at all left =
    left_stands columns a xs c n at (is_left c n a) refl all.0
    (left_agrees columns xs c n at all.1) left

by_kept :
    (columns : List Column) (xs : List Arrived) (c n : ℕ) (entry : Entry) (kept : Option Entry)
    (left : Option ℕ) →
    kept_at xs c n ≡ kept → left_before xs c n ≡ left → AllByRecursion (Stands columns) xs →
    or_left kept left ≡ Some entry → has_at (column_of columns c) n ≡ Some entry
by_kept columns xs c n entry (Some held) left kept_is left_is all has =
    let column = column_of columns c in
    stands_has (slice_get column.plays n) column.left (n == length_of column) entry
    (kept_agrees columns xs c n entry all (kept_is ∙ has))
by_kept columns xs c n entry None (Some at) kept_is left_is all has =
    let stands = left_agrees columns xs c n at all left_is in
    has_departure (column_of columns c) at n stands.0 stands.1 ∙ has
by_kept columns xs c n entry None None kept_is left_is all has = absurd cc

-- What a client has by what has arrived it has by the columns.
pub has_agrees :
    (columns : List Column) (xs : List Arrived) (c n : ℕ) (entry : Entry) →
    AllByRecursion (Stands columns) xs →
    has_of xs c n ≡ Some entry → has_at (column_of columns c) n ≡ Some entry
has_agrees columns xs c n entry all has =
    by_kept columns xs c n entry (kept_at xs c n) (left_before xs c n) refl refl all has

one_agrees :
    (columns : List Column) (xs : List Arrived) (c n : ℕ) (has : Option Entry) →
    AllByRecursion (Stands columns) xs →
    has_of xs c n ≡ has → is_some has ≡ true → has_of xs c n ≡ has_at (column_of columns c) n
one_agrees columns xs c n (Some entry) all is some =
    is ∙ sym (has_agrees columns xs c n entry all is)
one_agrees columns xs c n None all is some = absurd cc

-- Where each client has something by what has arrived, each has the same by the columns.
each_agrees :
    (columns rest : List Column) (xs : List Arrived) (c n : ℕ) →
    AllByRecursion (Stands columns) xs →
    ((k : ℕ) → column_of columns (c + k) ≡ column_of rest k) →
    AllByRecursion (λ has. is_some has ≡ true) (each_of xs c (length rest) n) →
    each_of xs c (length rest) n ≡ each_at rest n
each_agrees columns [] xs c n all same some = refl
each_agrees columns (column ∷ rest) xs c n all same some =
    ap₂ (λ x xs. x ∷ xs)
    (one_agrees columns xs c n (has_of xs c n) all refl some.0
    ∙ ap (λ held. has_at held n) (let here : c + 0 ≡ c = omega arith in ap (column_of columns)
    (sym here) ∙ same 0))
    (each_agrees columns rest xs (c + 1) n all
    (λ k. let next : (c + 1) + k ≡ c + suc k =
    omega arith in ap (column_of columns) next ∙ same (suc k)) some.1)

pub ready_agrees :
    (columns : List Column) (xs : List Arrived) (clients n : ℕ) → length columns ≡ clients →
    AllByRecursion (Stands columns) xs →
    AllByRecursion (λ has. is_some has ≡ true) (each_of xs 0 clients n) →
    each_of xs 0 clients n ≡ each_at columns n
ready_agrees columns xs clients n whole all some =
    let P : ℕ → Type 0 = λ k. AllByRecursion (λ has. is_some has ≡ true) (each_of xs 0 k n) →
    each_of xs 0 k n ≡ each_at columns n in
    subst P whole
    (each_agrees columns columns xs 0 n all (λ k. let same : 0 + k ≡ k = omega arith in ap
    (column_of columns) same)) some

-- A peer that nothing has reached yet, in the opening world.
pub fresh_faithful :
    {W : Type 0} (after : W → List Entry → W) (start : W) (columns : List Column)
    (me clients lag : ℕ) →
    IsFaithful after start columns (fresh_peer me clients lag start)
fresh_faithful after start columns me clients lag =
    record { stand = tt; at = opening_is_at after start columns }

-- A delivery of an entry that stands in the columns.
pub deliver_faithful :
    {W : Type 0} (after : W → List Entry → W) (start : W) (columns : List Column)
    (peer : PeerState W) (c n : ℕ) (entry : Entry) →
    entry_at (column_of columns c) n ≡ Some entry → IsFaithful after start columns peer →
    IsFaithful after start columns (delivered_peer peer c n entry)
deliver_faithful after start columns peer c n entry stands faithful =
    record {
      stand =
          all_after_delivery (Stands columns) (delivery_of peer.arrived c n entry)
          (record { client = c; frame = n; entry = entry }) peer.arrived
          (λ kept. stands) faithful.stand;
      at = faithful.at;
    }

-- A seal.
pub seal_faithful :
    {W : Type 0} (after : W → List Entry → W) (start : W) (columns : List Column)
    (peer : PeerState W) →
    IsFaithful after start columns peer → IsFaithful after start columns (sealed_peer peer)
seal_faithful after start columns peer faithful =
    record { stand = faithful.stand; at = faithful.at }

-- A tick.
pub tick_faithful :
    {W : Type 0} (after : W → List Entry → W) (start : W) (columns : List Column)
    (peer : PeerState W) →
    length columns ≡ peer.clients → IsFaithful after start columns peer →
    IsFaithful after start columns (ticked_peer after peer)
tick_faithful after start columns peer whole faithful =
    record {
      stand = faithful.stand;
      at =
          tick_is_at after start columns peer.ticked peer.world
          (each_of peer.arrived 0 peer.clients peer.ticked)
          (ready_by peer.arrived peer.clients peer.ticked) refl
          (λ some.
          ready_agrees columns peer.arrived peer.clients peer.ticked whole
          faithful.stand some) faithful.at;
    }

all_grow : (olds news : List Column) (xs : List Arrived) → Grows olds news →
    AllByRecursion (Stands olds) xs → AllByRecursion (Stands news) xs
all_grow olds news [] grows all = tt
all_grow olds news (a ∷ xs) grows all = (
  stands_grows (column_of olds a.client) (column_of news a.client) a.frame a.entry
      (Grows-column olds news a.client grows) all.0,
  all_grow olds news xs grows all.1,
)

-- Columns that grow.
pub grow_faithful :
    {W : Type 0} (after : W → List Entry → W) (start : W) (olds news : List Column)
    (peer : PeerState W) →
    Grows olds news → IsFaithful after start olds peer → IsFaithful after start news peer
grow_faithful after start olds news peer grows faithful =
    record {
      stand = all_grow olds news peer.arrived grows faithful.stand;
      at = grow_is_at after start olds news peer.ticked peer.world grows faithful.at;
    }
