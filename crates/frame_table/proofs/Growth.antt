-- What grows, and what was seen of it.
use Rattle.std.proofs.Common.{◌≡◌, ℕ, ◌+◌, ◌/◌, ◌%◌, ◌≤◌, ◌==◌, Bool, true, false, true≢false, List, [], ◌∷◌, ◌++◌, length, take, refl, sym, ap, ◌∙◌, subst, inl, inr, arith, append_assoc, append-nil, length-append, Some}
use Rattle.std.specs.Prelude.{slice_get}
use Rattle.std.proofs.lemmas.Bool.Decides.{nat_tests}
use Rattle.game_orders.specs.declared.order.Order.{Order}
use Rattle.frame_core.specs.Column.{Column, length_of}
use Rattle.frame_core.specs.Grows.{GrowsTo}
use Rattle.frame_core.proofs.GrowsLemmas.{GrowsTo-refl}
use Rattle.frame_table.specs.declared.seen.Seen.{Seen}
use Rattle.frame_table.specs.declared.planned.Planned.{Planned}
use Rattle.frame_table.specs.declared.planned.Planned.TheVariants.{Free, Plays}
use Rattle.frame_table.specs.Part.{Part}
use Rattle.frame_table.specs.Word.{word_for, word_of, seen_of, whole_of}
use Rattle.frame_table.specs.Rule.{IsReach, Follows}
use Rattle.frame_table.specs.Steps.{IsFurther, MayAdd, MayEnd, MayBecome, known_after, IsWithinPlan}

-- the two parts of a column
columns_same : (K L : Column) → K.plays ≡ L.plays → K.left ≡ L.left → K ≡ L
columns_same K L plays left = λ i. record { plays = plays i; left = left i }

pub grows_trans : (a b c : Column) → GrowsTo a b → GrowsTo b c → GrowsTo a c
grows_trans a b c ab bc =
    record {
      more = ab.more ++ bc.more;
      plays = bc.plays ∙ ap (λ l. l ++ bc.more) ab.plays ∙ append_assoc a.plays ab.more bc.more;
      closed = λ left.
          let same : b ≡ a = ab.closed left in
          bc.closed (ap (λ (k : Column). k.left) same ∙ left) ∙ same;
    }

pub grows_length : (a b : Column) → GrowsTo a b → length_of a ≤ length_of b
grows_length a b grows = let l = ap length grows.plays in let m = length-append a.plays grows.more in omega arith

-- what a pass may make of a column is the column, grown
pub becomes_grown : (p : Part) (K L : Column) → MayBecome p K L → GrowsTo K L
becomes_grown p K L (inl same) = subst (GrowsTo K) (sym same) (GrowsTo-refl K)
becomes_grown p K L (inr (inl play)) =
    record {
      more = play.orders ∷ [];
      plays = ap (λ (k : Column). k.plays) play.is;
      closed = λ left. absurd (true≢false (sym left ∙ play.playing));
    }
becomes_grown p K L (inr (inr leave)) =
    record {
      more = [];
      plays = ap (λ (k : Column). k.plays) leave.is ∙ sym (append-nil K.plays);
      closed = λ left. absurd (true≢false (sym left ∙ leave.playing));
    }

-- what was seen of a column was seen of it when it has grown
pub reach_grows : (K L : Column) (r : Seen) → GrowsTo K L → IsReach K r → IsReach L r
reach_grows K L r grows reach =
    let longer = grows_length K L grows in
    let reached = reach.plays in
    record {
      plays = omega arith;
      left = λ left.
          let whole = reach.left left in
          let same : L ≡ K = grows.closed whole.0 in
          (ap (λ (k : Column). k.left) same ∙ whole.0, whole.1 ∙ sym (ap length_of same));
    }

pub reach_whole : (K : Column) → IsReach K (whole_of K)
reach_whole K = record { plays = omega arith; left = λ left. (left, refl) }

-- what was seen before is no more than the whole column
pub further_whole : (K : Column) (r : Seen) → IsReach K r → IsFurther r (whole_of K)
further_whole K r reach =
    record {
      plays = reach.plays;
      left = λ left. let whole = reach.left left in λ i. record { plays = sym whole.1 i; left = (whole.0 ∙ sym left) i };
    }

-- what the word of a column shows
halves : (n : ℕ) (left locked : Bool) → (word_for n left locked / 4 ≡ n) × ((word_for n left locked / 2 % 2 == 1) ≡ left)
halves n true true = (omega arith, grind (arith, nat_tests))
halves n true false = (omega arith, grind (arith, nat_tests))
halves n false true = (omega arith, grind (arith, nat_tests))
halves n false false = (omega arith, grind (arith, nat_tests))

pub seen_whole : (K : Column) (locked : Bool) → seen_of (word_of K locked) ≡ whole_of K
seen_whole K locked = let h = halves (length_of K) K.left locked in λ i. record { plays = h.0 i; left = h.1 i }

pub plays_of_word : (K : Column) (locked : Bool) → word_of K locked / 4 ≡ length_of K
plays_of_word K locked = (halves (length_of K) K.left locked).0

even : (n : ℕ) (left locked : Bool) → word_for n left locked % 2 ≡ 0 → locked ≡ false
even n true true e = absurd (omega arith)
even n false true e = absurd (omega arith)
even n left false e = refl

pub unlocked : (K : Column) (locked : Bool) → word_of K locked % 2 ≡ 0 → locked ≡ false
unlocked K locked e = even (length_of K) K.left locked e

pub locked_word : (K : Column) → word_of K false + 1 ≡ word_of K true
locked_word K = omega arith

-- the plan goes on as the column does
next_planned : (later done plays : List (List Order)) (orders : List Order) → plays ≡ done ++ later → slice_get plays (length done) ≡ Some orders → (rest : List (List Order)) × (later ≡ orders ∷ rest)
next_planned later [] [] orders is at = absurd cc
next_planned [] [] (p ∷ plays) orders is at = absurd cc
next_planned (l ∷ later) [] (p ∷ plays) orders is at = (later, cc)
next_planned later (d ∷ done) [] orders is at = absurd cc
next_planned later (d ∷ done) (p ∷ plays) orders is at = next_planned later done plays orders (cc) at

pub follows_on : (planned : Planned) (p : Part) (K L : Column) → p.planned ≡ planned → Follows planned K → MayBecome p K L → Follows planned L
follows_on Free p K L same follows becomes = tt
follows_on (Plays plays) p K L same follows (inl is) = subst (Follows (Plays plays)) (sym is) follows
follows_on (Plays plays) p K L same follows (inr (inl play)) =
    let right : slice_get plays (length_of K) ≡ Some play.orders = subst (λ q. MayAdd q p.feeds (length_of K) play.orders) same play.right in
    let next = next_planned follows.0.0 K.plays plays play.orders follows.0.1 right in
    subst (Follows (Plays plays)) (sym play.is)
    ((next.0, follows.0.1 ∙ ap (λ l. K.plays ++ l) next.1 ∙ sym (append_assoc K.plays (play.orders ∷ []) next.0)), λ left. absurd (true≢false (sym left)))
follows_on (Plays plays) p K L same follows (inr (inr leave)) =
    let right : length_of K ≡ length plays = subst (λ q. MayEnd q (length_of K)) same leave.right in
    subst (Follows (Plays plays)) (sym leave.is) (follows.0, λ left. right)

take_front : (xs ys : List (List Order)) → take (length xs) (xs ++ ys) ≡ xs
take_front [] [] = refl
take_front [] (y ∷ ys) = refl
take_front (x ∷ xs) ys = ap (λ l. x ∷ l) (take_front xs ys)

-- what is known once all of a column was seen
pub after_known : (q : Planned) (k K : Column) → Follows q K → GrowsTo k K → GrowsTo k (known_after q (whole_of K) k) × GrowsTo (known_after q (whole_of K) k) K
after_known Free k K follows grows = (GrowsTo-refl k, grows)
after_known (Plays plays) k K follows grows =
    let same : known_after (Plays plays) (whole_of K) k ≡ K = λ i. record { plays = (ap (take (length_of K)) follows.0.1 ∙ take_front K.plays follows.0.0) i; left = K.left } in
    (subst (GrowsTo k) (sym same) grows, subst (λ (l : Column). GrowsTo l K) (sym same) (GrowsTo-refl K))

pub after_free : (q : Planned) (seen : Seen) (k : Column) → q ≡ Free → known_after q seen k ≡ k
after_free q seen k free = ap (λ p. known_after p seen k) free

-- all of a column is of its plan
pub whole_within : (q : Planned) (K : Column) → Follows q K → IsWithinPlan q (whole_of K)
whole_within Free K follows = tt
whole_within (Plays plays) K follows =
    let l = ap length follows.0.1 in
    let m = length-append K.plays follows.0.0 in
    (omega arith, follows.1)
