-- Each step of an end and of the receiver keeps the rule of the queue.
use Rattle.std.proofs.Common.{◌≡◌, ◌≢◌, ◌⊎◌, ℕ, zero, suc, ◌+◌, ◌<◌, ◌≤◌, true, true≢false, List, [], ◌∷◌, ◌++◌, length, map, set, drop, get_or, refl, sym, ap, ◌∙◌, subst, inl, inr, ⊎_elim, arith, append_assoc, append-nil, length-append}
use Rattle.std.specs.Prelude.{slice_index_or}
use Rattle.std.proofs.lemmas.List.{map-append, length-set, get_or_append_left}
use Rattle.std.proofs.Math.Seq.{get_or-append_seam}
use mathlib.Core.Option.{some, some-injective, some-ne-none}
use lib.ListN.{get_elem?}
use Rattle.crossbeam_queue.specs.Fifo.{Pushes, Pops, Forks, Merges, Learns}
use Rattle.crossbeam_queue.proofs.Lists.{at_set}
use Rattle.report_line.specs.declared.heard.Heard.{Heard}
use Rattle.report_line.specs.declared.known.Known.{Known}
use Rattle.report_line.specs.Order.{Numbered, report_of, of_end}
use Rattle.report_line.specs.Rule.{new_receiver, with_end, new_end, after_push, after_pop, after_join, spent, AgreesAsEnd, AgreesAsReceiver, Agrees, IsReportQueue, HasHeardAll}
use Rattle.report_line.proofs.OrderLemmas.{of_end_append, of_end_own, of_end_other}

-- What holds of each pass.
abbrev All : (ℕ → Known → Type 0) → List Known → Type 0
All F views = (n : ℕ) (known : Known) → get_elem? views n ≡ some known → F n known

all_set :
    (F : ℕ → Known → Type 0) (views : List Known) (id : ℕ) (new : Known) → F id new →
    ((n : ℕ) (known : Known) → n ≢ id → get_elem? views n ≡ some known → F n known) →
    All F (set views id new)
all_set F views id new mine others n known at =
    ⊎_elim (λ (x : (n ≡ id) × (new ≡ known)). subst (λ (y : ℕ × Known). F y.0 y.1) (λ i. (sym x.0 i, x.1 i)) mine)
    (λ (x : (n ≢ id) × (get_elem? views n ≡ some known)). others n known x.0 x.1)
    (at_set views id n new known at)

at_below : (views : List Known) (n : ℕ) (known : Known) → get_elem? views n ≡ some known → n < length views
at_below [] n known at = absurd (some-ne-none known (sym at))
at_below (first ∷ views) zero known at = omega arith
at_below (first ∷ views) (suc n) known at = let less = at_below views n known at in omega arith

at_end :
    (views : List Known) (new known : Known) (n : ℕ) → get_elem? (views ++ new ∷ []) n ≡ some known →
    (get_elem? views n ≡ some known) ⊎ ((n ≡ length views) × (new ≡ known))
at_end [] new known zero at = inr (refl, some-injective new known at)
at_end [] new known (suc n) at = absurd (some-ne-none known (sym at))
at_end (first ∷ views) new known zero at = inl at
at_end (first ∷ views) new known (suc n) at =
    ⊎_elim (λ old. inl old) (λ (x : (n ≡ length views) × (new ≡ known)). inr (ap suc x.0, x.1))
    (at_end views new known n at)

beyond : (lists : List (List Heard)) (k : ℕ) → length lists ≤ k → get_or lists k [] ≡ []
beyond [] k past = refl
beyond (first ∷ lists) zero past = absurd (omega arith)
beyond (first ∷ lists) (suc k) past = beyond lists k (omega arith)

-- Neither an end nor a receiver.
idle : (ends : ℕ) (joined : List (List Heard)) (out all : List Numbered) (n : ℕ) →
    Agrees ends joined out all n spent
idle ends joined out all n =
    record { as_end = λ no. absurd (true≢false (sym no)); as_receiver = λ no. absurd (true≢false (sym no)) }

pub begins : IsReportQueue [] (new_receiver ∷ [])
begins =
    record {
      ends = 0;
      joined = [];
      out = [];
      queued = [];
      items_are = refl;
      passes = refl;
      fewer = omega arith;
      joined_are = λ k low. absurd (omega arith);
      unmade = λ k high. refl;
      agrees = only;
    }
  where
    only : All (Agrees 0 [] [] []) (new_receiver ∷ [])
    only zero known at =
        subst (Agrees 0 [] [] [] 0) (some-injective new_receiver known at) (record {
          as_end = λ no. absurd (true≢false (sym no));
          as_receiver = λ yes. record { first = refl; heard_are = refl; ends_are = refl; joined_are = refl };
        })
    only (suc n) known at = absurd (some-ne-none known (sym at))

pub pushes :
    (n id : ℕ) (v : Known) (report : Heard) → v.pushes ≡ true →
    Pushes IsReportQueue n id v report (λ w. w ≡ after_push v report)
pushes n id v report may items views room kept at = (
  after_push v report,
  record {
    ends = kept.ends;
    joined = kept.joined;
    out = kept.out;
    queued = more;
    items_are = map-append report_of kept.queued ((v.number, report) ∷ []) ∙ ap (λ xs. xs ++ report ∷ []) kept.items_are;
    passes = length-set views id (after_push v report) ∙ kept.passes;
    fewer = kept.fewer;
    joined_are = λ k low. others k (λ same. let u = mine.unjoined in omega arith) ∙ kept.joined_are k low;
    unmade = λ k high. others k (λ same. let u = number_below in omega arith) ∙ kept.unmade k high;
    agrees = all_set (Agrees kept.ends kept.joined kept.out (kept.out ++ more)) views id (after_push v report) new_agrees
        (λ j u apart there. old_agrees j u apart there (kept.agrees j u there));
  },
  refl,
)
  where
    more : List Numbered
    more = kept.queued ++ (v.number, report) ∷ []

    mine : AgreesAsEnd (length kept.joined) (kept.out ++ kept.queued) id v
    mine = (kept.agrees id v at).as_end may

    number_below : v.number < kept.ends
    number_below = let p = mine.place in let b = at_below views id v at in let l = kept.passes in omega arith

    of_more : (k : ℕ) → of_end k (kept.out ++ more) ≡ of_end k (kept.out ++ kept.queued) ++ of_end k ((v.number, report) ∷ [])
    of_more k = ap (of_end k) (sym (append_assoc kept.out kept.queued ((v.number, report) ∷ []))) ∙ of_end_append k (kept.out ++ kept.queued) ((v.number, report) ∷ [])

    others : (k : ℕ) → v.number ≢ k → of_end k (kept.out ++ more) ≡ of_end k (kept.out ++ kept.queued)
    others k other = of_more k ∙ ap (λ xs. of_end k (kept.out ++ kept.queued) ++ xs) (of_end_other k v.number report other) ∙ append-nil (of_end k (kept.out ++ kept.queued))

    new_agrees : Agrees kept.ends kept.joined kept.out (kept.out ++ more) id (after_push v report)
    new_agrees =
        record {
          as_end = λ yes. record {
            place = mine.place;
            unjoined = mine.unjoined;
            pushed_are = ap (λ xs. xs ++ report ∷ []) mine.pushed_are
                ∙ sym (of_more v.number ∙ ap (λ xs. of_end v.number (kept.out ++ kept.queued) ++ xs) (of_end_own v.number report));
          };
          as_receiver = λ no. absurd (true≢false (sym no));
        }

    old_agrees :
        (j : ℕ) (u : Known) → j ≢ id → get_elem? views j ≡ some u →
        Agrees kept.ends kept.joined kept.out (kept.out ++ kept.queued) j u →
        Agrees kept.ends kept.joined kept.out (kept.out ++ more) j u
    old_agrees j u apart there old =
        record {
          as_end = λ yes. let was = old.as_end yes in record {
            place = was.place;
            unjoined = was.unjoined;
            pushed_are = was.pushed_are
                ∙ sym (others u.number (λ same. apart (let p = was.place in let q = mine.place in omega arith)));
          };
          as_receiver = old.as_receiver;
        }

-- The first of the reports that the queue holds has a number.
numbered_first :
    (queued : List Numbered) (report : Heard) (items : List Heard) → map report_of queued ≡ report ∷ items →
    (one : Numbered) × (rest : List Numbered) × (queued ≡ one ∷ rest) × (one.1 ≡ report) × (map report_of rest ≡ items)
numbered_first [] report items is = absurd (let l = ap length is in omega arith)
numbered_first (one ∷ rest) report items is =
    (one, rest, refl, ap (λ xs. get_or xs 0 report) is, ap (drop 1) is)

pub pops :
    (id : ℕ) (v : Known) → v.hears ≡ true →
    Pops IsReportQueue id v (λ report w. w ≡ after_pop v report)
pops id v may report items views kept at = (
  after_pop v report,
  record {
    ends = kept.ends;
    joined = kept.joined;
    out = out;
    queued = rest;
    items_are = first.4;
    passes = length-set views id (after_pop v report) ∙ kept.passes;
    fewer = kept.fewer;
    joined_are = λ k low. ap (of_end k) same ∙ kept.joined_are k low;
    unmade = λ k high. ap (of_end k) same ∙ kept.unmade k high;
    agrees = all_set (Agrees kept.ends kept.joined out (out ++ rest)) views id (after_pop v report) new_agrees
        (λ j u apart there. old_agrees j u apart (kept.agrees j u there));
  },
  refl,
)
  where
    first : (one : Numbered) × (rest : List Numbered) × (kept.queued ≡ one ∷ rest) × (one.1 ≡ report) × (map report_of rest ≡ items)
    first = numbered_first kept.queued report items kept.items_are

    rest : List Numbered
    rest = first.1

    out : List Numbered
    out = kept.out ++ first.0 ∷ []

    same : out ++ rest ≡ kept.out ++ kept.queued
    same = append_assoc kept.out (first.0 ∷ []) rest ∙ ap (λ xs. kept.out ++ xs) (sym first.2)

    mine : AgreesAsReceiver kept.ends kept.joined kept.out id v
    mine = (kept.agrees id v at).as_receiver may

    new_agrees : Agrees kept.ends kept.joined out (out ++ rest) id (after_pop v report)
    new_agrees =
        record {
          as_end = λ no. absurd (true≢false (sym no));
          as_receiver = λ yes. record {
            first = mine.first;
            heard_are = ap (λ xs. xs ++ report ∷ []) mine.heard_are ∙ ap (λ x. map report_of kept.out ++ x ∷ []) (sym first.3)
                ∙ sym (map-append report_of kept.out (first.0 ∷ []));
            ends_are = mine.ends_are;
            joined_are = mine.joined_are;
          };
        }

    old_agrees :
        (j : ℕ) (u : Known) → j ≢ id →
        Agrees kept.ends kept.joined kept.out (kept.out ++ kept.queued) j u →
        Agrees kept.ends kept.joined out (out ++ rest) j u
    old_agrees j u apart old =
        record {
          as_end = λ yes. let was = old.as_end yes in record {
            place = was.place;
            unjoined = was.unjoined;
            pushed_are = was.pushed_are ∙ ap (of_end u.number) (sym same);
          };
          as_receiver = λ yes. absurd (apart ((old.as_receiver yes).first ∙ sym mine.first));
        }

pub forks :
    (id : ℕ) (v : Known) → v.hears ≡ true → Forks IsReportQueue id v (with_end v) (new_end v)
forks id v may items views kept at =
    record {
      ends = kept.ends + 1;
      joined = kept.joined;
      out = kept.out;
      queued = kept.queued;
      items_are = kept.items_are;
      passes = length-append (set views id (with_end v)) (new_end v ∷ []) ∙ ap (λ n. n + 1) long;
      fewer = let f = kept.fewer in omega arith;
      joined_are = kept.joined_are;
      unmade = λ k high. kept.unmade k (omega arith);
      agrees = λ n known there. ⊎_elim
          (λ old. all_set (Agrees (kept.ends + 1) kept.joined kept.out (kept.out ++ kept.queued)) views id (with_end v) receiver_agrees
          (λ j u apart is. old_agrees j u apart (kept.agrees j u is)) n known old)
          (λ (new : (n ≡ length (set views id (with_end v))) × (new_end v ≡ known)).
          subst (Agrees (kept.ends + 1) kept.joined kept.out (kept.out ++ kept.queued) n) new.1 (end_agrees n (new.0 ∙ long)))
          (at_end (set views id (with_end v)) (new_end v) known n there);
    }
  where
    mine : AgreesAsReceiver kept.ends kept.joined kept.out id v
    mine = (kept.agrees id v at).as_receiver may

    long : length (set views id (with_end v)) ≡ kept.ends + 1
    long = length-set views id (with_end v) ∙ kept.passes

    receiver_agrees : Agrees (kept.ends + 1) kept.joined kept.out (kept.out ++ kept.queued) id (with_end v)
    receiver_agrees =
        record {
          as_end = λ no. absurd (true≢false (sym no));
          as_receiver = λ yes. record {
            first = mine.first;
            heard_are = mine.heard_are;
            ends_are = ap (λ n. n + 1) mine.ends_are;
            joined_are = mine.joined_are;
          };
        }

    end_agrees : (n : ℕ) → n ≡ kept.ends + 1 → Agrees (kept.ends + 1) kept.joined kept.out (kept.out ++ kept.queued) n (new_end v)
    end_agrees n is =
        record {
          as_end = λ yes. record {
            place = is ∙ ap (λ n. n + 1) (sym mine.ends_are);
            unjoined = let f = kept.fewer in let e = mine.ends_are in omega arith;
            pushed_are = sym (kept.unmade v.ends (let e = mine.ends_are in omega arith));
          };
          as_receiver = λ no. absurd (true≢false (sym no));
        }

    old_agrees :
        (j : ℕ) (u : Known) → j ≢ id →
        Agrees kept.ends kept.joined kept.out (kept.out ++ kept.queued) j u →
        Agrees (kept.ends + 1) kept.joined kept.out (kept.out ++ kept.queued) j u
    old_agrees j u apart old =
        record {
          as_end = old.as_end;
          as_receiver = λ yes. absurd (apart ((old.as_receiver yes).first ∙ sym mine.first));
        }

pub merges :
    (id : ℕ) (v : Known) (other : ℕ) (end : Known) → v.hears ≡ true → end.pushes ≡ true →
    end.number ≡ length v.joined → Merges IsReportQueue id v other end (after_join v end) spent
merges id v other end may theirs next items views kept at two there =
    record {
      ends = kept.ends;
      joined = joined;
      out = kept.out;
      queued = kept.queued;
      items_are = kept.items_are;
      passes = length-set (set views id both) other spent ∙ length-set views id both ∙ kept.passes;
      fewer = let b = at_below views other end was in let p = end_was.place in let l = kept.passes in let n = number_is in let m = longer in omega arith;
      joined_are = λ k low. ⊎_elim
          (λ less. kept.joined_are k less ∙ sym (get_or_append_left kept.joined (end.pushed ∷ []) [] k less))
          (λ (is : k ≡ length kept.joined). last k is)
          (last_or_less k (length kept.joined) (let m = longer in omega arith));
      unmade = kept.unmade;
      agrees = all_set (Agrees kept.ends joined kept.out (kept.out ++ kept.queued)) (set views id both) other spent
          (idle kept.ends joined kept.out (kept.out ++ kept.queued) other)
          (λ j u apart is. all_set (λ n known. n ≢ other → Agrees kept.ends joined kept.out (kept.out ++ kept.queued) n known) views id both
          (λ _. new_agrees) (λ i x away here not. old_agrees i x away not (kept.agrees i x here)) j u is apart);
    }
  where
    both : Known
    both = after_join v end

    joined : List (List Heard)
    joined = kept.joined ++ end.pushed ∷ []

    longer : length joined ≡ length kept.joined + 1
    longer = length-append kept.joined (end.pushed ∷ [])

    mine : AgreesAsReceiver kept.ends kept.joined kept.out id v
    mine = (kept.agrees id v at).as_receiver may

    was : get_elem? views other ≡ some end
    was = ⊎_elim (λ x. absurd (two x.0)) (λ x. x.1) (at_set views id other both end there)

    end_was : AgreesAsEnd (length kept.joined) (kept.out ++ kept.queued) other end
    end_was = (kept.agrees other end was).as_end theirs

    number_is : end.number ≡ length kept.joined
    number_is = next ∙ ap length mine.joined_are

    last_or_less : (k n : ℕ) → k < n + 1 → (k < n) ⊎ (k ≡ n)
    last_or_less k n less = grind arith

    last : (k : ℕ) → k ≡ length kept.joined → of_end k (kept.out ++ kept.queued) ≡ slice_index_or joined k []
    last k is =
        ap (λ n. of_end n (kept.out ++ kept.queued)) (is ∙ sym number_is) ∙ sym end_was.pushed_are
        ∙ sym (ap (λ n. get_or joined n []) is ∙ get_or-append_seam kept.joined end.pushed [] [])

    new_agrees : Agrees kept.ends joined kept.out (kept.out ++ kept.queued) id both
    new_agrees =
        record {
          as_end = λ no. absurd (true≢false (sym no));
          as_receiver = λ yes. record {
            first = mine.first;
            heard_are = mine.heard_are;
            ends_are = mine.ends_are;
            joined_are = ap (λ xs. xs ++ end.pushed ∷ []) mine.joined_are;
          };
        }

    old_agrees :
        (j : ℕ) (u : Known) → j ≢ id → j ≢ other →
        Agrees kept.ends kept.joined kept.out (kept.out ++ kept.queued) j u →
        Agrees kept.ends joined kept.out (kept.out ++ kept.queued) j u
    old_agrees j u apart not old =
        record {
          as_end = λ yes. let p = old.as_end yes in record {
            place = p.place;
            unjoined = later u.number p.unjoined (λ same. not (let a = p.place in let b = end_was.place in let c = number_is in omega arith));
            pushed_are = p.pushed_are;
          };
          as_receiver = λ yes. absurd (apart ((old.as_receiver yes).first ∙ sym mine.first));
        }
      where
        later : (k : ℕ) → length kept.joined ≤ k → k ≢ length kept.joined → length joined ≤ k
        later k most other = let m = longer in grind arith

pub learns : (id : ℕ) (v : Known) → v.hears ≡ true → Learns IsReportQueue id v (HasHeardAll v)
learns id v may items views kept at empty all =
    record {
      numbered = kept.out;
      same = sym mine.heard_are;
      each = λ k. ap (of_end k) (sym whole) ∙ ⊎_elim
          (λ less. kept.joined_are k less ∙ ap (λ xs. slice_index_or xs k []) (sym mine.joined_are))
          (λ past. kept.unmade k (let a = all in let e = mine.ends_are in let j = ap length mine.joined_are in omega arith)
          ∙ sym (beyond v.joined k (let j = ap length mine.joined_are in omega arith)))
          (less_or_past k (length kept.joined));
    }
  where
    mine : AgreesAsReceiver kept.ends kept.joined kept.out id v
    mine = (kept.agrees id v at).as_receiver may

    none : (queued : List Numbered) → map report_of queued ≡ [] → queued ≡ []
    none [] is = refl
    none (one ∷ rest) is = absurd (let l = ap length is in omega arith)

    whole : kept.out ++ kept.queued ≡ kept.out
    whole = ap (λ xs. kept.out ++ xs) (none kept.queued (kept.items_are ∙ empty)) ∙ append-nil kept.out

    less_or_past : (k n : ℕ) → (k < n) ⊎ (n ≤ k)
    less_or_past k n = grind arith
