-- A report leaves every other kept one as it was.
use Rattle.std.specs.Prelude.{if◌then◌else◌, nat_lt, ◌==◌, Option, Some, None, is_some, slice_set}
use Rattle.std.proofs.Common.{◌≡◌, ◌≢◌, ℕ, zero, suc, ◌+◌, ◌-◌, ◌<◌, ◌⊎◌, inl, inr, arith}
use Rattle.std.proofs.Common.{Bool, true, false, refl, sym, ap, ap₂, subst, ◌∙◌}
use Rattle.std.proofs.Common.{List, [], ◌∷◌, ◌++◌, length, replicate, length-append}
use Rattle.std.proofs.lemmas.List.{get_or-set_same, get_or-set_other, set-get_or, length-replicate}
use Rattle.std.proofs.lemmas.Bool.{eqb-true, eqb-false, ltb-true}
use Rattle.std.proofs.lemmas.Bool.Decides.{nat_tests}
use Rattle.game_orders.specs.declared.limits.TheConstants.{MAX_FRAMES}
use Rattle.server_core.specs.declared.reported.Reported.{Reported}
use Rattle.server_core.specs.declared.reported.Reported.TheVariants.{Kept, Repeat, Beyond}
use Rattle.server_core.specs.Board.{reports_of, report_at, with_room, with_report, report_answer}
use Rattle.server_core.specs.Board.{own_after_report, reports_after_report, KeepsFirst}

no_report : (count m : ℕ) → report_at (replicate count None) m ≡ None
no_report zero m = refl
no_report (suc count) zero = refl
no_report (suc count) (suc m) = no_report count m

-- Room for more reports has none.
in_room :
    (reports : List (Option ℕ)) (count m : ℕ) →
    report_at (reports ++ replicate count None) m ≡ report_at reports m
in_room [] count m = no_report count m
in_room (x ∷ reports) count zero = refl
in_room (x ∷ reports) count (suc m) = in_room reports count m

room : (reports : List (Option ℕ)) (n : ℕ) → n < length (with_room reports n)
room reports n =
    let none : Option ℕ = None in
    let more = (n + 1) - length reports in
    omega (arith, length-append reports (replicate more none), length-replicate more none)

-- What a client has for a frame after its report for frame n.
kept_here : (reports : List (Option ℕ)) (n h : ℕ) → report_at (with_report reports n h) n ≡ Some h
kept_here reports n h = get_or-set_same (with_room reports n) n (Some h) None (room reports n)

kept_there :
    (reports : List (Option ℕ)) (n h m : ℕ) → m ≢ n →
    report_at (with_report reports n h) m ≡ report_at reports m
kept_there reports n h m other =
    get_or-set_other (with_room reports n) n m (Some h) None other
    ∙ in_room reports ((n + 1) - length reports) m

-- One client's reports, and those of all.
own :
    (reports : List (List (Option ℕ))) (c : ℕ) (more : List (Option ℕ)) → c < length reports →
    reports_of (slice_set reports c more) c ≡ more
own reports c more below = get_or-set_same reports c more [] below

another :
    (reports : List (List (Option ℕ))) (c d : ℕ) (more : List (Option ℕ)) → d ≢ c →
    reports_of (slice_set reports c more) d ≡ reports_of reports d
another reports c d more other = get_or-set_other reports c d more [] other

-- The place of the report, or another one.
place :
    (d c m n : ℕ) (same here : Bool) → (d == c) ≡ same → (m == n) ≡ here →
    ((d ≡ c) × (m ≡ n)) ⊎ ((d ≢ c) ⊎ (m ≢ n))
place d c m n true true same_is here_is = inl (eqb-true d c same_is, eqb-true m n here_is)
place d c m n true false same_is here_is = inr (inr (eqb-false m n here_is))
place d c m n false here same_is here_is = inr (inl (eqb-false d c same_is))

abbrev answer_by : Option ℕ → Bool → Reported
answer_by at below = if below then (if is_some at then Repeat else Kept) else Beyond

-- What an answer tells of the frame and of what was kept for it.
kept_tells :
    (at : Option ℕ) (below : Bool) → answer_by at below ≡ Kept → (below ≡ true) × (at ≡ None)
kept_tells None true answer = (refl, refl)
kept_tells (Some was) true answer = absurd cc
kept_tells at false answer = absurd cc

repeat_tells : (at : Option ℕ) (below : Bool) → answer_by at below ≡ Repeat → is_some at ≡ true
repeat_tells None true answer = absurd cc
repeat_tells (Some was) true answer = refl
repeat_tells at false answer = absurd cc

beyond_tells : (at : Option ℕ) (below : Bool) → answer_by at below ≡ Beyond → below ≡ false
beyond_tells None true answer = absurd cc
beyond_tells (Some was) true answer = absurd cc
beyond_tells at false answer = refl

unchanged :
    (reports : List (List (Option ℕ))) (c n h : ℕ) →
    (n < MAX_FRAMES → report_at (reports_of reports c) n ≡ None → ⊥) →
    KeepsFirst reports reports c n h
unchanged reports c n h never =
    record {
      stays = λ d m was at. at;
      first = λ frame none. absurd (never frame none);
      others = λ d m other. refl;
      beyond = λ past. refl;
    }

-- Any other report is as it was.
other_same :
    (reports : List (List (Option ℕ))) (c n h d m : ℕ) → c < length reports →
    (d ≢ c) ⊎ (m ≢ n) →
    report_at (reports_of (slice_set reports c (with_report (reports_of reports c) n h)) d) m
    ≡ report_at (reports_of reports d) m
other_same reports c n h d m below (inl other) =
    ap (λ own. report_at own m)
    (another reports c d (with_report (reports_of reports c) n h) other)
other_same reports c n h d m below (inr other) = by_client (d == c) refl where
  new : List (Option ℕ)
  new = with_report (reports_of reports c) n h

  Same : ℕ → Type 0
  Same k = report_at (reports_of (slice_set reports c new) k) m ≡ report_at (reports_of reports k) m

  by_client : (same : Bool) → (d == c) ≡ same → Same d
  by_client true is =
      let here : d ≡ c = eqb-true d c is in
      subst Same (sym here)
      (ap (λ more. report_at more m) (own reports c new below)
      ∙ kept_there (reports_of reports c) n h m other)
  by_client false is =
      ap (λ more. report_at more m) (another reports c d new (eqb-false d c is))

kept_first :
    (reports : List (List (Option ℕ))) (c n h : ℕ) → c < length reports → n < MAX_FRAMES →
    report_at (reports_of reports c) n ≡ None →
    KeepsFirst reports (slice_set reports c (with_report (reports_of reports c) n h)) c n h
kept_first reports c n h below frame none =
    record {
      stays = λ d m was at. elim (place d c m n (d == c) (m == n) refl refl) [
        | inl here ↦
            absurd (let e : None ≡ Some was =
            sym none
            ∙ ap₂ (λ k i. report_at (reports_of reports k) i) (sym here.0) (sym here.1)
            ∙ at in
            cc)
        | inr other ↦ other_same reports c n h d m below other ∙ at
      ];
      first = λ frame none.
          ap (λ more. report_at more n)
          (own reports c (with_report (reports_of reports c) n h) below)
          ∙ kept_here (reports_of reports c) n h;
      others = λ d m other. other_same reports c n h d m below other;
      beyond = λ past. absurd (omega arith);
    }

by_answer :
    (reports : List (List (Option ℕ))) (c n h : ℕ) (answer : Reported) → c < length reports →
    report_answer (reports_of reports c) n ≡ answer →
    KeepsFirst reports
    (slice_set reports c (own_after_report answer (reports_of reports c) n h)) c n h
by_answer reports c n h Kept below is =
    let tells = kept_tells (report_at (reports_of reports c) n) (nat_lt n MAX_FRAMES) is in
    kept_first reports c n h below (ltb-true n MAX_FRAMES tells.0) tells.1
by_answer reports c n h Repeat below is =
    subst (λ news. KeepsFirst reports news c n h) (sym (set-get_or reports c []))
    (unchanged reports c n h (λ frame none.
    let some : is_some (report_at (reports_of reports c) n) ≡ true =
    repeat_tells (report_at (reports_of reports c) n) (nat_lt n MAX_FRAMES) is in
    let never : false ≡ true = sym (ap is_some none) ∙ some in
    cc))
by_answer reports c n h Beyond below is =
    subst (λ news. KeepsFirst reports news c n h) (sym (set-get_or reports c []))
    (unchanged reports c n h (λ frame none.
    let past : nat_lt n MAX_FRAMES ≡ false =
    beyond_tells (report_at (reports_of reports c) n) (nat_lt n MAX_FRAMES) is in
    grind (arith, nat_tests)))

-- After a report, whatever its answer.
pub keeps_first :
    (reports : List (List (Option ℕ))) (c n h : ℕ) → c < length reports →
    KeepsFirst reports (reports_after_report reports c n h) c n h
keeps_first reports c n h below =
    by_answer reports c n h (report_answer (reports_of reports c) n) below refl
