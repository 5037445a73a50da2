-- Reports of several ends in one list.
use Rattle.std.proofs.Common.{◌≡◌, ◌≢◌, ℕ, ◌==◌, Bool, true, false, true≢false, List, [], ◌∷◌, ◌++◌, map, refl, sym, ap, ◌∙◌, subst, eq-eqb, ne_eqb, cond}
use Rattle.std.specs.Prelude.{slice_index_or}
use Rattle.std.specs.List.{AllByRecursion, filter}
use Rattle.std.proofs.lemmas.List.{map-append}
use Rattle.std.proofs.lemmas.List.Elements.{filter-append}
use Rattle.report_line.specs.declared.heard.Heard.{Heard}
use Rattle.report_line.specs.Order.{Numbered, report_of, of_end, IsInterleaving, of_client, AreOf}

pub of_end_append :
    (k : ℕ) (xs ys : List Numbered) → of_end k (xs ++ ys) ≡ of_end k xs ++ of_end k ys
of_end_append k xs ys =
    ap (map report_of) (filter-append (λ (one : Numbered). one.0 == k) xs ys)
    ∙ map-append report_of (filter (λ (one : Numbered). one.0 == k) xs) (filter (λ (one : Numbered). one.0 == k) ys)

pub of_end_own : (k : ℕ) (report : Heard) → of_end k ((k, report) ∷ []) ≡ report ∷ []
of_end_own k report = by (k == k) (eq-eqb k k refl)
  where
    by : (b : Bool) → b ≡ true → map report_of (cond b ((k, report) ∷ []) []) ≡ report ∷ []
    by b is = rw is refl

pub of_end_other : (k j : ℕ) (report : Heard) → j ≢ k → of_end k ((j, report) ∷ []) ≡ []
of_end_other k j report other = by (j == k) (ne_eqb j k other)
  where
    by : (b : Bool) → b ≡ false → map report_of (cond b ((j, report) ∷ []) []) ≡ []
    by b is = rw is refl

-- Each report is of the client whose number its end has.
abbrev AreOwn : List Numbered → Type 0
AreOwn reports = AllByRecursion (λ (one : Numbered). one.1.client ≡ one.0) reports

are_own : (reports : List Numbered) → ((k : ℕ) → AreOf k (of_end k reports)) → AreOwn reports
are_own [] each = tt
are_own (one ∷ more) each =
    let first = here (one.0 == one.0) (eq-eqb one.0 one.0 refl) (each one.0) in
    (first, are_own more (λ k. rest k (one.0 == k) (each k)))
  where
    here : (b : Bool) → b ≡ true →
        AreOf one.0 (map report_of (cond b (one ∷ filter (λ (x : Numbered). x.0 == one.0) more) (filter (λ (x : Numbered). x.0 == one.0) more))) →
        one.1.client ≡ one.0
    here true is of = of.0
    here false is of = absurd (true≢false (sym is))

    rest : (k : ℕ) (b : Bool) →
        AreOf k (map report_of (cond b (one ∷ filter (λ (x : Numbered). x.0 == k) more) (filter (λ (x : Numbered). x.0 == k) more))) →
        AreOf k (of_end k more)
    rest k true of = of.1
    rest k false of = of

same_kept :
    (c : ℕ) (one : Numbered) (more : List Numbered) (a b : Bool) → a ≡ b →
    of_client c (map report_of more) ≡ of_end c more →
    cond a (one.1 ∷ of_client c (map report_of more)) (of_client c (map report_of more))
    ≡ map report_of (cond b (one ∷ filter (λ (x : Numbered). x.0 == c) more) (filter (λ (x : Numbered). x.0 == c) more))
same_kept c one more true true is rest = ap (λ (xs : List Heard). one.1 ∷ xs) rest
same_kept c one more true false is rest = absurd (true≢false is)
same_kept c one more false true is rest = absurd (true≢false (sym is))
same_kept c one more false false is rest = rest

own_same :
    (c : ℕ) (reports : List Numbered) → AreOwn reports →
    of_client c (map report_of reports) ≡ of_end c reports
own_same c [] own = refl
own_same c (one ∷ more) own =
    same_kept c one more (one.1.client == c) (one.0 == c) (ap (λ (n : ℕ). n == c) own.0) (own_same c more own.1)

pub each_client_heard :
    (heard : List Heard) (lists : List (List Heard)) → IsInterleaving heard lists →
    ((k : ℕ) → AreOf k (slice_index_or lists k [])) →
    (c : ℕ) → of_client c heard ≡ slice_index_or lists c []
each_client_heard heard lists mixed own c =
    ap (of_client c) (sym mixed.same)
    ∙ own_same c mixed.numbered (are_own mixed.numbered (λ k. subst (AreOf k) (sym (mixed.each k)) (own k)))
    ∙ mixed.each c
