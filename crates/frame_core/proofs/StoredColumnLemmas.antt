-- What a list of plays shows as a column.
use Rattle.std.proofs.Common.{◌≡◌, ℕ, ◌≢◌, eq-eqb, Bool, true, false, List, [], ◌∷◌, ◌++◌, length}
use Rattle.std.proofs.Common.{refl, ap, ap₂, sym, ◌∙◌}
use Rattle.std.proofs.Math.Bool.{and-false}
use Rattle.std.proofs.lemmas.Bool.{eqb-true, false_from_ne_true}
use Rattle.std.specs.Prelude.{Option as Maybe, Some, None, slice_get, ◌&&◌, ◌==◌}
use Rattle.std.specs.Option.{option_map}
use Rattle.game_orders.specs.declared.order.Order.{Order}
use Rattle.game_orders.specs.declared.entry.Entry.{Entry}
use Rattle.game_orders.specs.declared.entry.Entry.TheVariants.{Play, Leave}
use Rattle.game_orders.specs.Entry.{is_play}
use Rattle.frame_core.specs.StoredPlays.{orders_of}
use Rattle.frame_core.specs.Column.{Column, entry_from, entry_at, has_at, with_entry}

-- Where a play is lent, it is what the client has.
from_play :
    (at : Maybe (List Order)) (e : Entry) (left : Bool) → Some e ≡ option_map Play at →
    Some e ≡ entry_from at left
from_play (Some orders) e left is = is
from_play None e left is = absurd cc

-- Where none is, only a departure can stand there.
from_past :
    (at : Maybe (List Order)) (left : Bool) → None ≡ option_map Play at →
    entry_from at left ≡ entry_from None left
from_past (Some orders) left is = absurd cc
from_past None left is = refl

module _ (plays : List (List Order)) (left : Bool) (n : ℕ) (column : Column)
    (shown : record { plays = plays; left = left } ≡ column) where
  pub stands_play : (e : Entry) → Some e ≡ option_map Play (slice_get plays n) → Some e ≡ entry_at column n
  stands_play e at =
      from_play (slice_get plays n) e (left && (n == length plays)) at ∙ ap (λ c. entry_at c n) shown

  stands_past : None ≡ option_map Play (slice_get plays n) → entry_at column n ≡ entry_from None (left && (n == length plays))
  stands_past at =
      sym (ap (λ c. entry_at c n) shown) ∙ from_past (slice_get plays n) (left && (n == length plays)) at

  pub stands_leave :
      (kept : Entry) → None ≡ option_map Play (slice_get plays n) → left ≡ true → n ≡ length plays →
      kept ≡ Leave → Some kept ≡ entry_at column n
  stands_leave kept at has_left here is_leave =
      ap Some is_leave
      ∙ sym (stands_past at
      ∙ ap (entry_from None) (ap₂ (λ a b. a && b) has_left (eq-eqb n (length plays) here)))

  pub stands_none : None ≡ option_map Play (slice_get plays n) → left ≡ false → None ≡ entry_at column n
  stands_none at stays =
      sym (stands_past at ∙ ap (λ a. entry_from None (a && (n == length plays))) stays)

  pub stands_elsewhere : None ≡ option_map Play (slice_get plays n) → n ≢ length plays → None ≡ entry_at column n
  stands_elsewhere at elsewhere =
      let differs : (n == length plays) ≡ false =
      false_from_ne_true (n == length plays) (λ same. elsewhere (eqb-true n (length plays) same)) in
      sym (stands_past at
      ∙ ap (λ b. entry_from None (left && b)) differs ∙ ap (entry_from None) (and-false left))

  pub has_play : (e : Entry) → Some e ≡ option_map Play (slice_get plays n) → Some e ≡ has_at column n
  has_play e at = from_play (slice_get plays n) e left at ∙ ap (λ c. has_at c n) shown

  has_past : None ≡ option_map Play (slice_get plays n) → has_at column n ≡ entry_from None left
  has_past at = sym (ap (λ c. has_at c n) shown) ∙ from_past (slice_get plays n) left at

  pub has_none : None ≡ option_map Play (slice_get plays n) → left ≡ false → None ≡ has_at column n
  has_none at stays = sym (has_past at ∙ ap (entry_from None) stays)

  pub has_leave :
      (kept : Entry) → None ≡ option_map Play (slice_get plays n) → left ≡ true → kept ≡ Leave →
      Some kept ≡ has_at column n
  has_leave kept at has_left is_leave = ap Some is_leave ∙ sym (has_past at ∙ ap (entry_from None) has_left)

-- One more play is the column with that play.
pub added :
    (plays : List (List Order)) (left : Bool) (e : Entry) → is_play e ≡ true →
    let old : Column = record { plays = plays; left = left } in
    let new : Column = record { plays = plays ++ orders_of e ∷ []; left = left } in
    new ≡ with_entry old e
added plays left (Play orders) play = refl
added plays left Leave play = absurd cc
