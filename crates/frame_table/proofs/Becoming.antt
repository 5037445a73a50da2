-- What a put, a departure and a look make of a column.
use Rattle.std.proofs.Common.{◌≡◌, ℕ, zero, suc, ◌≤◌, ◌==◌, ◌&&◌, nat_lt, Bool, true, false, true≢false, if◌then◌else◌, List, [], ◌∷◌, ◌++◌, length, refl, sym, ap, ◌∙◌, subst, inl, inr, arith, Some, None, length-append}
use Rattle.std.specs.Prelude.{slice_get, Option as Maybe}
use Rattle.std.proofs.lemmas.Bool.Decides.{leb_tells, eqb_tells}
use Rattle.game_orders.specs.declared.order.Order.{Order}
use Rattle.game_orders.specs.declared.entry.Entry.{Entry}
use Rattle.game_orders.specs.declared.entry.Entry.TheVariants.{Play, Leave}
use Rattle.game_orders.specs.declared.limits.TheConstants.{MAX_FRAMES}
use Rattle.game_orders.specs.Entry.{is_play, same_entry}
use Rattle.frame_core.specs.Column.{Column, length_of, entry_from, entry_at, has_at, put_by, put_column, after_answer, with_entry, left_column}
use Rattle.frame_core.specs.Ready.{or_leave}
use Rattle.frame_core.specs.declared.put.Put.TheVariants.{Fixed, Repeat, Conflict, Left, Ahead, Full}
use Rattle.frame_table.specs.declared.planned.Planned.{Planned}
use Rattle.frame_table.specs.declared.planned.Planned.TheVariants.{Free, Plays}
use Rattle.frame_table.specs.Part.{Part}
use Rattle.frame_table.specs.Rule.{Follows}
use Rattle.frame_table.specs.Steps.{IsFound, MayBecome, MayAdd, MayEnd}
use Rattle.frame_table.specs.Calls.{HasSeen, MayPut, MayPutPlay, MayLeaveBy}

got_none : (xs : List (List Order)) (n : ℕ) → slice_get xs n ≡ None → length xs ≤ n
got_none [] n is = omega arith
got_none (x ∷ xs) zero is = absurd (cc)
got_none (x ∷ xs) (suc n) is = let rest = got_none xs n is in omega arith

nothing_from : (found : Maybe (List Order)) (left : Bool) → entry_from found left ≡ None → (found ≡ None) × (left ≡ false)
nothing_from (Some orders) left is = absurd (cc)
nothing_from None true is = absurd (cc)
nothing_from None false is = (refl, refl)

and_false : (a b : Bool) → (a && b) ≡ false → b ≡ true → a ≡ false
and_false true b is is_true = absurd (true≢false (sym is_true ∙ is))
and_false false b is is_true = refl

-- nothing stands at n, and nothing is missing before it
at_end : (K : Column) (n : ℕ) → entry_at K n ≡ None → nat_lt (length_of K) n ≡ false → (n ≡ length_of K) × (K.left ≡ false)
at_end K n nothing near =
    let none = nothing_from (slice_get K.plays n) (K.left && (n == length_of K)) nothing in
    let past : length_of K ≤ n = got_none K.plays n none.0 in
    let here : n ≡ length_of K = grind (arith, leb_tells (suc (length_of K)) n, near, past) in
    (here, and_false K.left (n == length_of K) none.1 (grind (arith, eqb_tells n (length_of K), here)))

module _ (p : Part) (K : Column) (found : IsFound p K) where
  right_for : (planned : Planned) (n : ℕ) (orders : List Order) → n ≡ length_of K → K.left ≡ false → MayPutPlay planned p n orders → MayAdd planned p.feeds (length_of K) orders
  right_for Free n orders here playing (inl feeds) = feeds
  right_for Free n orders here playing (inr (inl before)) = let r = found.reach.plays in absurd (omega arith)
  right_for Free n orders here playing (inr (inr past)) = absurd (true≢false (sym (found.reach.left past.0).0 ∙ playing))
  right_for (Plays plays) n orders here playing planned = subst (λ k. slice_get plays k ≡ Some orders) here planned

  added : (n : ℕ) (e : Entry) → MayPut p n e → n ≡ length_of K → K.left ≡ false → (is_play e && (n == MAX_FRAMES)) ≡ false → MayBecome p K (with_entry K e)
  added n (Play orders) may here playing room =
      inr (inl (record {
        orders = orders;
        is = λ i. record { plays = K.plays ++ orders ∷ []; left = playing i };
        playing = playing;
        room = (let f = found.frames in grind (arith, eqb_tells n MAX_FRAMES, here, room, f));
        right = right_for p.planned n orders here playing may;
      }))
  added n Leave may here playing room =
      inr (inr (record { is = refl; playing = playing; right = subst (MayEnd p.planned) here may }))

  -- a put makes nothing else of the column
  pub put_becomes : (n : ℕ) (e : Entry) → MayPut p n e → MayBecome p K (put_column K n e)
  put_becomes n e may = by_entry (entry_at K n) refl
    where
      same : (b : Bool) (kept : Entry) → MayBecome p K (after_answer (if b then Repeat else Conflict kept) K e)
      same true kept = inl refl
      same false kept = inl refl

      last : (b : Bool) → (is_play e && (n == MAX_FRAMES)) ≡ b → n ≡ length_of K → K.left ≡ false → MayBecome p K (after_answer (if b then Full else Fixed) K e)
      last true is here playing = inl refl
      last false is here playing = added n e may here playing is

      ahead : (b : Bool) → nat_lt (length_of K) n ≡ b → entry_at K n ≡ None → MayBecome p K (after_answer (if b then Ahead (length_of K) else (if is_play e && (n == MAX_FRAMES) then Full else Fixed)) K e)
      ahead true is nothing = inl refl
      ahead false is nothing = let end = at_end K n nothing is in last (is_play e && (n == MAX_FRAMES)) refl end.0 end.1

      gone : (b : Bool) → entry_at K n ≡ None → MayBecome p K (after_answer (if b then Left (length_of K) else (if nat_lt (length_of K) n then Ahead (length_of K) else (if is_play e && (n == MAX_FRAMES) then Full else Fixed))) K e)
      gone true nothing = inl refl
      gone false nothing = ahead (nat_lt (length_of K) n) refl nothing

      by_entry : (at : Maybe Entry) → entry_at K n ≡ at → MayBecome p K (after_answer (put_by at K n e) K e)
      by_entry (Some kept) is = same (same_entry e kept) kept
      by_entry None is = gone (K.left && nat_lt (length_of K) n) is

  end_for : (planned : Planned) → Follows planned K → MayLeaveBy planned p.reach → MayEnd planned (length_of K)
  end_for Free follows may = tt
  end_for (Plays plays) follows may =
      let r = found.reach.plays in
      let l = ap length follows.0.1 in
      let m = length-append K.plays follows.0.0 in
      omega arith

  -- a departure makes nothing else of the column
  pub leave_becomes : MayLeaveBy p.planned p.reach → MayBecome p K (left_column K)
  leave_becomes may = by K.left refl
    where
      by : (left : Bool) → K.left ≡ left → MayBecome p K (left_column K)
      by true is = inl (λ i. record { plays = K.plays; left = sym is i })
      by false is = inr (inr (record { is = refl; playing = is; right = end_for p.planned found.follows may }))

  -- what was seen stands there
  pub seen_entry : (n : ℕ) → HasSeen p.reach n → has_at K n ≡ Some (or_leave (entry_at K n))
  seen_entry n seen = by_play (slice_get K.plays n) refl seen
    where
      leave_there : (b : Bool) → Some Leave ≡ Some (or_leave (entry_from None b))
      leave_there true = refl
      leave_there false = refl

      by_play : (at : Maybe (List Order)) → slice_get K.plays n ≡ at → HasSeen p.reach n → entry_from at K.left ≡ Some (or_leave (entry_from at (K.left && (n == length_of K))))
      by_play (Some orders) is has = refl
      by_play None is (inl before) = let r = found.reach.plays in let past = got_none K.plays n is in absurd (omega arith)
      by_play None is (inr past) = ap (entry_from None) (found.reach.left past.0).0 ∙ leave_there (K.left && (n == length_of K))
