-- Splitting a pass and joining two keep what holds of each column.
use Rattle.std.proofs.Common.{◌≡◌, ◌≢◌, ◌⊎◌, ℕ, suc, ◌+◌, ◌^◌, ◌<◌, ◌≤◌, ◌||◌, nat_lt, Bool, true, false, true≢false, List, [], ◌∷◌, ◌++◌, length, set, refl, sym, ap, ap₂, ◌∙◌, subst, inl, inr, ⊎_elim, arith, append-nil, length-append}
use Rattle.std.proofs.lemmas.Bool.Decides.{leb_tells}
use mathlib.Core.Option.{Option, some}
use lib.ListN.{get_elem?}
use Rattle.atomic_table.proofs.Lists.{at_set, at_snoc}
use Rattle.game_orders.specs.declared.order.Order.{Order}
use Rattle.frame_core.specs.Column.{Column, length_of}
use Rattle.frame_core.specs.Grows.{GrowsTo}
use Rattle.frame_core.proofs.GrowsLemmas.{GrowsTo-refl}
use Rattle.frame_table.specs.declared.seen.Seen.{Seen}
use Rattle.frame_table.specs.declared.planned.Planned.{Planned}
use Rattle.frame_table.specs.declared.planned.Planned.TheVariants.{Free}
use Rattle.frame_table.specs.declared.view.Mark.{Mark}
use Rattle.frame_table.specs.Part.{Part, part_in, no_mark}
use Rattle.frame_table.specs.Word.{one_if}
use Rattle.frame_table.specs.Rule.{IsReach, IsWithinReach, Fits, total, Keeps}
use Rattle.frame_table.specs.Steps.{Slot}
use Rattle.frame_table.specs.Passes.{kept_mark, given_mark, size_of, longer, shorter, further, known_in, joined_mark}
use Rattle.frame_table.proofs.Lists.{total_set, total_snoc, all_set}
use Rattle.frame_table.proofs.Growth.{grows_length}
use Rattle.frame_table.proofs.OneColumn.{share_in, made_in, feeds_in}

module _ (planned : Planned) (word : Option ℕ) (home : Option (Option Slot)) (parts : List Part) (id : ℕ) (share : ℕ) (m : Mark) where
  -- a pass is split in two
  pub kept_split :
      (kept : Keeps planned word home parts) → get_elem? parts id ≡ some (part_in share m) →
      (a b : ℕ) → a + b ≡ share → 0 < a → 0 < b → (handing : Bool) → (handing ≡ true → m.feeds ≡ true) →
      Keeps planned word home (set parts id (part_in a (kept_mark handing m)) ++ part_in b (given_mark handing m) ∷ [])
  kept_split kept at a b cut left right handing right_there =
      record {
        column = kept.column;
        locked = kept.locked;
        holder = kept.holder;
        word_is = kept.word_is;
        home_is = kept.home_is;
        frames = kept.frames;
        follows = kept.follows;
        fits = λ j q there. ⊎_elim
            (λ old. all_set (Fits planned kept.column kept.locked kept.holder) parts id (part_in a (kept_mark handing m)) (mine handing right_there) (λ i r apart at'. kept.fits i r at') j q old)
            (λ (new : part_in b (given_mark handing m) ≡ q). subst (Fits planned kept.column kept.locked kept.holder j) new (given handing right_there j))
            (at_snoc (set parts id (part_in a (kept_mark handing m))) (part_in b (given_mark handing m)) q j there);
        shares = shares_of handing;
        made = made_of handing;
        feeding = feeding_of handing right_there;
      }
    where
      K : Column
      K = kept.column

      was : Fits planned K kept.locked kept.holder id (part_in share m)
      was = kept.fits id (part_in share m) at

      plan_is : m.planned ≡ planned
      plan_is = was.plan (omega arith)

      mine : (h : Bool) → (h ≡ true → m.feeds ≡ true) → Fits planned K kept.locked kept.holder id (part_in a (kept_mark h m))
      mine true may = record { reach = was.reach; known = was.known; within = was.within; plan = λ _. plan_is; feeds = λ no. absurd (true≢false (sym no)); held = was.held; met = was.met; poor = λ none. absurd (omega arith) }
      mine false may = record { reach = was.reach; known = was.known; within = was.within; plan = λ _. plan_is; feeds = was.feeds; held = was.held; met = was.met; poor = λ none. absurd (omega arith) }

      given : (h : Bool) → (h ≡ true → m.feeds ≡ true) → (j : ℕ) → Fits planned K kept.locked kept.holder j (part_in b (given_mark h m))
      given h may j = record { reach = was.reach; known = was.known; within = was.within; plan = λ _. plan_is; feeds = λ yes. was.feeds (may yes); held = inl refl; met = was.met; poor = λ none. absurd (omega arith) }

      shares_of : (h : Bool) → total share_in (set parts id (part_in a (kept_mark h m)) ++ part_in b (given_mark h m) ∷ []) ≡ 2 ^ 62
      shares_of true = let s = total_set share_in parts id (part_in share m) (part_in a (kept_mark true m)) at in let w = kept.shares in let t = total_snoc share_in (set parts id (part_in a (kept_mark true m))) (part_in b (given_mark true m)) in omega arith
      shares_of false = let s = total_set share_in parts id (part_in share m) (part_in a (kept_mark false m)) at in let w = kept.shares in let t = total_snoc share_in (set parts id (part_in a (kept_mark false m))) (part_in b (given_mark false m)) in omega arith

      made_of : (h : Bool) → total made_in (set parts id (part_in a (kept_mark h m)) ++ part_in b (given_mark h m) ∷ []) ≡ one_if K.left
      made_of true = let s = total_set made_in parts id (part_in share m) (part_in a (kept_mark true m)) at in let w = kept.made in let t = total_snoc made_in (set parts id (part_in a (kept_mark true m))) (part_in b (given_mark true m)) in omega arith
      made_of false = let s = total_set made_in parts id (part_in share m) (part_in a (kept_mark false m)) at in let w = kept.made in let t = total_snoc made_in (set parts id (part_in a (kept_mark false m))) (part_in b (given_mark false m)) in omega arith

      feeding_of : (h : Bool) → (h ≡ true → m.feeds ≡ true) → total feeds_in (set parts id (part_in a (kept_mark h m)) ++ part_in b (given_mark h m) ∷ []) ≤ 1
      feeding_of true may = let s = total_set feeds_in parts id (part_in share m) (part_in a (kept_mark true m)) at in let w = kept.feeding in let f : one_if m.feeds ≡ 1 = ap one_if (may refl) in let t = total_snoc feeds_in (set parts id (part_in a (kept_mark true m))) (part_in b (given_mark true m)) in omega arith
      feeding_of false may = let s = total_set feeds_in parts id (part_in share m) (part_in a (kept_mark false m)) at in let w = kept.feeding in let t = total_snoc feeds_in (set parts id (part_in a (kept_mark false m))) (part_in b (given_mark false m)) in omega arith

-- the shorter of two beginnings of one column begins the longer
prefix_of : (xs ys more less : List (List Order)) → xs ++ more ≡ ys ++ less → length xs ≤ length ys → (rest : List (List Order)) × (ys ≡ xs ++ rest)
prefix_of [] ys more less same short = (ys, refl)
prefix_of (x ∷ xs) [] more less same short = absurd (omega arith)
prefix_of (x ∷ xs) (y ∷ ys) more less same short =
    let rest = prefix_of xs ys more less (cc) (omega arith) in
    (rest.0, let head : y ≡ x = cc in ap₂ (λ h t. h ∷ t) head rest.1)

same_length : (xs rest : List (List Order)) → length (xs ++ rest) ≤ length xs → xs ++ rest ≡ xs
same_length xs [] short = append-nil xs
same_length xs (r ∷ rest) short = let l = length-append xs (r ∷ rest) in absurd (omega arith)

pub agree : (a b K : Column) → GrowsTo a K → GrowsTo b K → size_of a ≤ size_of b → GrowsTo a b
agree a b K ga gb short = by a.left refl
  where
    la : length_of a ≤ length_of K
    la = grows_length a K ga

    lb : length_of b ≤ length_of K
    lb = grows_length b K gb

    by : (left : Bool) → a.left ≡ left → GrowsTo a b
    by true is =
        let same : K ≡ a = ga.closed is in
        let whole : length_of K ≡ length_of a = ap length_of same in
        let one : one_if a.left ≡ 1 = ap one_if is in
        let p = prefix_of a.plays b.plays ga.more gb.more (sym ga.plays ∙ gb.plays) (by_left b.left refl whole one) in
        let end : b.plays ≡ a.plays = p.1 ∙ same_length a.plays p.0 (let l = ap length p.1 in let k = grows_length b K gb in omega arith) in
        subst (λ (k : Column). GrowsTo k b) same (by_whole b.left refl whole one)
      where
        by_left : (left : Bool) → b.left ≡ left → length_of K ≡ length_of a → one_if a.left ≡ 1 → length_of a ≤ length_of b
        by_left true other whole one = let l : length_of K ≡ length_of b = ap length_of (gb.closed other) in omega arith
        by_left false other whole one = let o : one_if b.left ≡ 0 = ap one_if other in let k = grows_length b K gb in omega arith

        by_whole : (left : Bool) → b.left ≡ left → length_of K ≡ length_of a → one_if a.left ≡ 1 → GrowsTo K b
        by_whole true other whole one = subst (λ (k : Column). GrowsTo K k) (gb.closed other) (GrowsTo-refl K)
        by_whole false other whole one = let o : one_if b.left ≡ 0 = ap one_if other in let k = grows_length b K gb in absurd (omega arith)
    by false is =
        let zero_a : one_if a.left ≡ 0 = ap one_if is in
        let p = prefix_of a.plays b.plays ga.more gb.more (sym ga.plays ∙ gb.plays) (by_left b.left refl zero_a) in
        record { more = p.0; plays = p.1; closed = λ left. absurd (true≢false (sym left ∙ is)) }
      where
        by_left : (left : Bool) → b.left ≡ left → one_if a.left ≡ 0 → length_of a ≤ length_of b
        by_left true other zero_is = let l : length_of K ≡ length_of b = ap length_of (gb.closed other) in let k = grows_length a K ga in omega arith
        by_left false other zero_is = let o : one_if b.left ≡ 0 = ap one_if other in omega arith

pub lt_true : (a b : ℕ) → nat_lt a b ≡ true → a ≤ b
lt_true a b is = grind (arith, leb_tells (suc a) b, is)

pub lt_false : (a b : ℕ) → nat_lt a b ≡ false → b ≤ a
lt_false a b is = grind (arith, leb_tells (suc a) b, is)

module _ (K : Column) where
  longer_fits : (a b : Column) → GrowsTo a K → GrowsTo b K → GrowsTo (longer a b) K
  longer_fits a b ga gb = by (nat_lt (size_of a) (size_of b)) refl
    where
      by : (t : Bool) → nat_lt (size_of a) (size_of b) ≡ t → GrowsTo (longer a b) K
      by true is = rw is gb
      by false is = rw is ga

  shorter_fits : (a b : Column) → GrowsTo a K → GrowsTo b K → GrowsTo (shorter a b) K
  shorter_fits a b ga gb = by (nat_lt (size_of a) (size_of b)) refl
    where
      by : (t : Bool) → nat_lt (size_of a) (size_of b) ≡ t → GrowsTo (shorter a b) K
      by true is = rw is ga
      by false is = rw is gb

  further_fits : (a b : Seen) → IsReach K a → IsReach K b → IsReach K (further a b)
  further_fits a b ra rb = by a.left b.left refl refl
    where
      by : (l m : Bool) → a.left ≡ l → b.left ≡ m → IsReach K (further a b)
      by true m is also = let w = ra.left is in let x = rb.plays in record { plays = (let y = ra.plays in omega arith); left = λ _. (w.0, omega arith) }
      by false true is also = let w = rb.left also in let x = ra.plays in record { plays = (let y = rb.plays in omega arith); left = λ _. (w.0, omega arith) }
      by false false is also = record { plays = (let x = ra.plays in let y = rb.plays in omega arith); left = λ yes. absurd (true≢false (sym yes ∙ (rw (is, also) refl))) }

  within_both : (k : Column) (a b : Seen) → (IsWithinReach k a ⊎ IsWithinReach k b) → IsWithinReach k (further a b)
  within_both k a b (inl w) = record { plays = (let x = w.plays in omega arith); left = λ yes. rw (w.left yes) refl }
  within_both k a b (inr w) = record { plays = (let x = w.plays in omega arith); left = λ yes. by a.left (w.left yes) }
    where
      by : (l : Bool) → b.left ≡ true → (l || b.left) ≡ true
      by true is = refl
      by false is = is

  longer_within : (x y : Column) (a b : Seen) → IsWithinReach x a → IsWithinReach y b → IsWithinReach (longer x y) (further a b)
  longer_within x y a b wx wy = by (nat_lt (size_of x) (size_of y)) refl
    where
      by : (t : Bool) → nat_lt (size_of x) (size_of y) ≡ t → IsWithinReach (longer x y) (further a b)
      by true is = rw is (within_both y a b (inr wy))
      by false is = rw is (within_both x a b (inl wx))

  -- who knows all plays knows them afterwards
  longer_feeds : (a b : Column) → GrowsTo a K → GrowsTo b K → ((a.plays ≡ K.plays) ⊎ (b.plays ≡ K.plays)) → (longer a b).plays ≡ K.plays
  longer_feeds a b ga gb (inl whole) = by (nat_lt (size_of a) (size_of b)) refl
    where
      by : (t : Bool) → nat_lt (size_of a) (size_of b) ≡ t → (longer a b).plays ≡ K.plays
      by true is =
          let g = agree a b K ga gb (lt_true (size_of a) (size_of b) is) in
          let l = grows_length b K gb in
          let m : length_of a ≡ length_of K = ap length whole in
          rw is (g.plays ∙ same_length a.plays g.more (let n = ap length g.plays in omega arith) ∙ whole)
      by false is = rw is whole
  longer_feeds a b ga gb (inr whole) = by (nat_lt (size_of a) (size_of b)) refl
    where
      by : (t : Bool) → nat_lt (size_of a) (size_of b) ≡ t → (longer a b).plays ≡ K.plays
      by true is = rw is whole
      by false is =
          let g = agree b a K gb ga (lt_false (size_of a) (size_of b) is) in
          let l = grows_length a K ga in
          let m : length_of b ≡ length_of K = ap length whole in
          rw is (g.plays ∙ same_length b.plays g.more (let n = ap length g.plays in omega arith) ∙ whole)

module _ (planned : Planned) (word : Option ℕ) (home : Option (Option Slot)) (parts : List Part) (id other : ℕ) (share_a share_b : ℕ) (a b : Mark) where
  was_other : other ≢ id → (both : Part) → get_elem? (set parts id both) other ≡ some (part_in share_b b) → get_elem? parts other ≡ some (part_in share_b b)
  was_other apart both there = ⊎_elim (λ t. absurd (apart t.0)) (λ t. t.1) (at_set parts id other both (part_in share_b b) there)

  -- one pass is joined into another
  pub kept_joined :
      (kept : Keeps planned word home parts) → get_elem? parts id ≡ some (part_in share_a a) → other ≢ id →
      get_elem? (set parts id (part_in (share_a + share_b) (joined_mark a b))) other ≡ some (part_in share_b b) → 0 < share_a →
      Keeps planned word home (set (set parts id (part_in (share_a + share_b) (joined_mark a b))) other (part_in 0 no_mark))
  kept_joined kept at apart there some_share =
      record {
        column = kept.column;
        locked = kept.locked;
        holder = kept.holder;
        word_is = kept.word_is;
        home_is = kept.home_is;
        frames = kept.frames;
        follows = kept.follows;
        fits = all_set (Fits planned K kept.locked kept.holder) (set parts id both) other (part_in 0 no_mark) (gone other)
            (λ j r _ at'. all_set (Fits planned K kept.locked kept.holder) parts id both mine (λ i q _ at''. kept.fits i q at'') j r at');
        shares = (let s = total_set share_in parts id (part_in share_a a) both at in let t = total_set share_in (set parts id both) other (part_in share_b b) (part_in 0 no_mark) there in let w = kept.shares in omega arith);
        made = (let s = total_set made_in parts id (part_in share_a a) both at in let t = total_set made_in (set parts id both) other (part_in share_b b) (part_in 0 no_mark) there in let w = kept.made in omega arith);
        feeding = (let s = total_set feeds_in parts id (part_in share_a a) both at in let t = total_set feeds_in (set parts id both) other (part_in share_b b) (part_in 0 no_mark) there in let w = kept.feeding in let f = fewer a.feeds b.feeds in omega arith);
      }
    where
      K : Column
      K = kept.column

      both : Part
      both = part_in (share_a + share_b) (joined_mark a b)

      fewer : (x y : Bool) → one_if (x || y) ≤ one_if x + one_if y
      fewer true y = omega arith
      fewer false y = omega arith

      gone : (j : ℕ) → Fits planned K kept.locked kept.holder j (part_in 0 no_mark)
      gone j =
          record {
            reach = record { plays = omega arith; left = λ no. absurd (true≢false (sym no)) };
            known = record { more = K.plays; plays = refl; closed = λ no. absurd (true≢false (sym no)) };
            within = record { plays = omega arith; left = λ no. absurd (true≢false (sym no)) };
            plan = λ none_of_it. absurd (omega arith);
            feeds = λ no. absurd (true≢false (sym no));
            held = inl refl;
            met = record { more = K.plays; plays = refl; closed = λ no. absurd (true≢false (sym no)) };
            poor = λ _. (refl, refl);
          }

      was : Fits planned K kept.locked kept.holder id (part_in share_a a)
      was = kept.fits id (part_in share_a a) at

      theirs : Fits planned K kept.locked kept.holder other (part_in share_b b)
      theirs = kept.fits other (part_in share_b b) (was_other apart both there)

      fed : (x : Bool) → a.feeds ≡ x → (x || b.feeds) ≡ true → (planned ≡ Free) × ((longer (known_in a) (known_in b)).plays ≡ K.plays)
      fed true is feeds = let f = was.feeds is in (f.0, longer_feeds K (known_in a) (known_in b) was.known theirs.known (inl f.1))
      fed false is feeds = let f = theirs.feeds feeds in (f.0, longer_feeds K (known_in a) (known_in b) was.known theirs.known (inr f.1))

      mine : Fits planned K kept.locked kept.holder id both
      mine =
          record {
            reach = further_fits K a.reach b.reach was.reach theirs.reach;
            known = longer_fits K (known_in a) (known_in b) was.known theirs.known;
            within = longer_within K (known_in a) (known_in b) a.reach b.reach was.within theirs.within;
            plan = λ _. was.plan some_share;
            feeds = λ feeds. fed a.feeds refl feeds;
            held = was.held;
            met = shorter_fits K (known_in a) (known_in b) was.known theirs.known;
            poor = λ none_of_it. absurd (omega arith);
          }
