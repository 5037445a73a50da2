-- The table begins so, and passes are split, joined and compared.
use Rattle.std.proofs.Common.{◌≡◌, ◌≢◌, ℕ, zero, suc, ◌+◌, ◌-◌, ◌/◌, ◌^◌, ◌<◌, ◌≤◌, nat_lt, Bool, true, false, true≢false, if◌then◌else◌, List, [], ◌∷◌, ◌++◌, length, map, set, get_or, replicate, refl, sym, ap, ap₂, ◌∙◌, subst, inl, ⊎_elim, arith, Some}
use Rattle.std.specs.Prelude.{slice_index}
use mathlib.Core.Option.{none, some, some-ne-none, some-injective}
use lib.ListN.{get_elem?}
use Rattle.atomic_table.specs.Table.{keeps, opening, step, Allows, Splits, Joins}
use Rattle.atomic_table.proofs.Lists.{at_set, at_snoc, at_map, set_again}
use Rattle.frame_core.specs.Column.{Column, no_column}
use Rattle.frame_core.specs.Grows.{GrowsTo}
use Rattle.frame_core.proofs.GrowsLemmas.{GrowsTo-refl}
use Rattle.frame_table.specs.declared.planned.Planned.{Planned}
use Rattle.frame_table.specs.declared.planned.Planned.TheVariants.{Free, Plays}
use Rattle.frame_table.specs.declared.view.View.{View}
use Rattle.frame_table.specs.Part.{Part, part_of, part_in, no_mark}
use Rattle.frame_table.specs.Word.{one_if, word_of}
use Rattle.frame_table.specs.Rule.{planned_of, Keeps, IsKept, Fits, Follows}
use Rattle.frame_table.specs.Steps.{Slot, Meets}
use Rattle.frame_table.specs.Passes.{kept_mark, given_mark, kept_view, given_view, size_of, longer, shorter, joined_mark, joined_view, spent_view, first_mark, first_view, is_free}
use Rattle.frame_table.proofs.Lists.{map_set, map_snoc, index_some}
use Rattle.frame_table.proofs.PassesLemmas.{handed, joined_at, joined_length, given_length, first_at, first_length}
use Rattle.frame_table.proofs.SplitJoin.{kept_split, kept_joined, agree, lt_true, lt_false}

module _ (plan : List Planned) (id : ℕ) (v : View) where
  pub splits : 1 < v.share → Splits (IsKept plan) id v (kept_view v) (given_view v)
  splits enough s kept at =
      record {
        each = λ c here.
            let h = handed v.marks c in
            let m = get_or v.marks c no_mark in
            let l : part_of c (kept_view v) ≡ part_in (v.share - v.share / 2) (kept_mark h.0 m) = ap (part_in (v.share - v.share / 2)) h.1.0 in
            let r : part_of c (given_view v) ≡ part_in (v.share / 2) (given_mark h.0 m) = ap (part_in (v.share / 2)) h.1.1 in
            subst (Keeps (planned_of plan c) (get_elem? s.words c) (get_elem? s.homes c))
            (sym (map_snoc (part_of c) (set s.views id (kept_view v)) (given_view v)
            ∙ ap₂ (λ xs x. xs ++ x ∷ []) (map_set (part_of c) s.views id (kept_view v) ∙ ap (set (map (part_of c) s.views) id) l) r))
            (kept_split (planned_of plan c) (get_elem? s.words c) (get_elem? s.homes c) (map (part_of c) s.views) id v.share m (kept.each c here)
            (at_map (part_of c) s.views id v at) (v.share - v.share / 2) (v.share / 2) (omega arith) (omega arith) (omega arith) h.0 h.1.2);
        marks = λ by u there has_share. ⊎_elim
            (λ old. ⊎_elim
            (λ (x : (by ≡ id) × (kept_view v ≡ u)). subst (λ (y : View). length y.marks ≡ length plan) x.1 ((given_length v.marks).0 ∙ mine))
            (λ (x : (by ≢ id) × (get_elem? s.views by ≡ some u)). kept.marks by u x.1 has_share) (at_set s.views id by (kept_view v) u old))
            (λ (x : given_view v ≡ u). subst (λ (y : View). length y.marks ≡ length plan) x ((given_length v.marks).1 ∙ mine))
            (at_snoc (set s.views id (kept_view v)) (given_view v) u by there);
      }
    where
      mine : length v.marks ≡ length plan
      mine = kept.marks id v at (omega arith)

  pub joins : (other : ℕ) (w : View) → 0 < v.share → 0 < w.share → Joins (IsKept plan) id v other w (joined_view v w) spent_view
  joins other w some_share other_share s kept at apart there =
      record {
        each = λ c here.
            let a = get_or v.marks c no_mark in
            let b = get_or w.marks c no_mark in
            let both = part_in (v.share + w.share) (joined_mark a b) in
            let j : part_of c (joined_view v w) ≡ both = ap (part_in (v.share + w.share)) (joined_at v.marks w.marks c (let l = mine in omega arith) (let l = theirs in omega arith)) in
            let first : map (part_of c) (set s.views id (joined_view v w)) ≡ set (map (part_of c) s.views) id both = map_set (part_of c) s.views id (joined_view v w) ∙ ap (set (map (part_of c) s.views) id) j in
            subst (Keeps (planned_of plan c) (get_elem? s.words c) (get_elem? s.homes c))
            (sym (map_set (part_of c) (set s.views id (joined_view v w)) other spent_view ∙ ap (λ l. set l other (part_in 0 no_mark)) first))
            (kept_joined (planned_of plan c) (get_elem? s.words c) (get_elem? s.homes c) (map (part_of c) s.views) id other v.share w.share a b (kept.each c here)
            (at_map (part_of c) s.views id v at) apart
            (subst (λ l. get_elem? l other ≡ some (part_of c w)) first (at_map (part_of c) (set s.views id (joined_view v w)) other w there)) some_share);
        marks = λ by u at_by has_share. ⊎_elim
            (λ (x : (by ≡ other) × (spent_view ≡ u)). absurd (let z : u.share ≡ 0 = sym (ap (λ (y : View). y.share) x.1) in omega arith))
            (λ (x : (by ≢ other) × (get_elem? (set s.views id (joined_view v w)) by ≡ some u)). ⊎_elim
            (λ (y : (by ≡ id) × (joined_view v w ≡ u)). subst (λ (z : View). length z.marks ≡ length plan) y.1 (joined_length v.marks w.marks ∙ mine))
            (λ (y : (by ≢ id) × (get_elem? s.views by ≡ some u)). kept.marks by u y.1 has_share)
            (at_set s.views id by (joined_view v w) u x.1))
            (at_set (set s.views id (joined_view v w)) other by spent_view u at_by);
      }
    where
      was : get_elem? s.views other ≡ some w
      was = ⊎_elim (λ t. absurd (apart t.0)) (λ t. t.1) (at_set s.views id other (joined_view v w) w there)

      mine : length v.marks ≡ length plan
      mine = kept.marks id v at some_share

      theirs : length w.marks ≡ length plan
      theirs = kept.marks other w was other_share

  -- of two passes that were joined, what the one knew begins what the other knew
  pub meets : (slots : ℕ) (carried : List (ℕ × Slot)) → 0 < v.share → 0 < length plan → Allows (IsKept plan) slots id (v, carried) 0 (λ n. n) (Meets (step slots 0 0 0 none) (v, carried))
  meets slots carried some_share clients s kept long at small =
      let one = kept.each 0 clients in
      let found : slice_index s.words 0 ≡ word_of one.column one.locked = index_some s.words 0 (word_of one.column one.locked) one.word_is in
      let same : set s.words 0 (slice_index s.words 0) ≡ s.words = set_again s.words 0 (slice_index s.words 0) (one.word_is ∙ ap some (sym found)) in (
        v,
        keeps,
        tt,
        subst (λ (y : List ℕ × List View). IsKept plan (record { words = y.0; homes = s.homes; views = y.1 })) (λ i. (sym same i, sym (set_again s.views id v at) i)) kept,
        (
          refl,
          λ c below.
              let here : c < length plan = (let l = kept.marks id v at some_share in omega arith) in
              let its = kept.each c here in
              let fits = its.fits id (part_of c v) (at_map (part_of c) s.views id v at) in
              λ short. agree (part_of c v).met (part_of c v).known its.column fits.met fits.known short,
        ),
      )

-- what either knew, they know when they are joined
pub both_grow : (a b : Column) → (size_of (shorter a b) ≤ size_of (longer a b) → GrowsTo (shorter a b) (longer a b)) → GrowsTo a (longer a b) × GrowsTo b (longer a b)
both_grow a b met = by (nat_lt (size_of a) (size_of b)) refl
  where
    by : (t : Bool) → nat_lt (size_of a) (size_of b) ≡ t → GrowsTo a (longer a b) × GrowsTo b (longer a b)
    by true is =
        let m : GrowsTo a b = subst (λ t. size_of (if t then a else b) ≤ size_of (if t then b else a) → GrowsTo (if t then a else b) (if t then b else a)) is met (lt_true (size_of a) (size_of b) is) in
        rw is (m, GrowsTo-refl b)
    by false is =
        let m : GrowsTo b a = subst (λ t. size_of (if t then a else b) ≤ size_of (if t then b else a) → GrowsTo (if t then a else b) (if t then b else a)) is met (lt_false (size_of a) (size_of b) is) in
        rw is (GrowsTo-refl a, m)

at_replicate : {A : Type 0} (n i : ℕ) (a : A) → i < n → get_elem? (replicate n a) i ≡ some a
at_replicate zero i a below = absurd (omega arith)
at_replicate (suc n) zero a below = refl
at_replicate (suc n) (suc i) a below = at_replicate n i a (omega arith)

first_held : (planned : Planned) (share : ℕ) → (part_in share (first_mark planned)).held ≡ []
first_held planned share = refl

free_planned : (planned : Planned) → is_free planned ≡ true → planned ≡ Free
free_planned Free is = refl
free_planned (Plays plays) is = absurd (true≢false (sym is))

follows_nothing : (planned : Planned) → Follows planned no_column
follows_nothing Free = tt
follows_nothing (Plays plays) = ((plays, refl), λ no. absurd (true≢false (sym no)))

-- the table begins so
pub begins : (plan : List Planned) (n : ℕ) (slots : List Slot) → length plan ≤ n → slots ≡ replicate (length plan) (Some (no_column ∷ [])) →
    IsKept plan (opening (replicate n 0) slots (first_view plan))
begins plan n slots enough slots_are =
    record {
      each = λ c here.
          let m = first_mark (planned_of plan c) in
          let p = part_in (2 ^ 62) m in
          let part : part_of c (first_view plan) ≡ p = ap (part_in (2 ^ 62)) (first_at plan c here) in
          subst (λ (q : Part). Keeps (planned_of plan c) (get_elem? (replicate n 0) c) (get_elem? (map some slots) c) (q ∷ [])) (sym part)
          (record {
            column = no_column;
            locked = false;
            holder = 0;
            word_is = at_replicate n c 0 (omega arith);
            home_is = at_map some slots c (Some (no_column ∷ [])) (ap (λ l. get_elem? l c) slots_are ∙ at_replicate (length plan) c (Some (no_column ∷ [])) here);
            frames = omega arith;
            follows = follows_nothing (planned_of plan c);
            fits = λ j q there. only (planned_of plan c) j q there;
            shares = omega arith;
            made = omega arith;
            feeding = at_most_one (is_free (planned_of plan c));
          });
      marks = λ by u there has_share. first_marks by u there;
    }
  where
    at_most_one : (b : Bool) → one_if b + 0 ≤ 1
    at_most_one true = omega arith
    at_most_one false = omega arith

    first_marks : (by : ℕ) (u : View) → get_elem? (first_view plan ∷ []) by ≡ some u → length u.marks ≡ length plan
    first_marks zero u there = subst (λ (y : View). length y.marks ≡ length plan) (some-injective _ _ there) (first_length plan)
    first_marks (suc by) u there = absurd (some-ne-none u (sym there))

    only : (planned : Planned) (j : ℕ) (q : Part) → get_elem? (part_in (2 ^ 62) (first_mark planned) ∷ []) j ≡ some q → Fits planned no_column false 0 j q
    only planned zero q there = subst (Fits planned no_column false 0 0) (some-injective _ _ there)
        (record {
          reach = record { plays = omega arith; left = λ no. absurd (true≢false (sym no)) };
          known = GrowsTo-refl no_column;
          within = record { plays = omega arith; left = λ no. absurd (true≢false (sym no)) };
          plan = λ _. refl;
          feeds = λ is. (free_planned planned is, refl);
          held = inl refl;
          met = GrowsTo-refl no_column;
          poor = λ zero_share. absurd (omega arith);
        })
    only planned (suc j) q there = absurd (some-ne-none q (sym there))
