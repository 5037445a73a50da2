-- Each kind of step keeps what holds of all columns, and tells what it says.
use Rattle.std.proofs.Common.{◌≡◌, ◌≢◌, ℕ, ◌+◌, ◌/◌, ◌%◌, ◌<◌, ◌≤◌, ◌==◌, Bool, true, false, List, [], ◌∷◌, length, map, set, refl, sym, ap, ◌∙◌, subst, ⊎_elim, arith, Some}
use Rattle.std.specs.Prelude.{slice_index}
use Rattle.std.proofs.lemmas.Bool.Decides.{eqb_tells}
use native.Mathlib.Decide.{ℕ_discrete}
use mathlib.Core.Logic.{dite}
use mathlib.Core.Option.{Option, none, some}
use prog.Atomic.{either}
use lib.ListN.{get_elem?}
use Rattle.atomic_table.specs.Table.{State, Act, keeps, takes, gives, Valid, carried_after, stepped, step, Allows}
use Rattle.atomic_table.proofs.Lists.{at_set, at_map, set_again, set_else}
use Rattle.frame_core.specs.Column.{Column}
use Rattle.frame_core.specs.Grows.{GrowsTo}
use Rattle.frame_table.specs.declared.planned.Planned.{Planned}
use Rattle.frame_table.specs.declared.view.View.{View}
use Rattle.frame_table.specs.declared.view.Mark.{Mark}
use Rattle.frame_table.specs.Part.{Part, part_of, part_in, no_mark, OthersStay}
use Rattle.frame_table.specs.Word.{word_of, seen_of, whole_of}
use Rattle.frame_table.specs.Rule.{planned_of, home_of, Keeps, IsKept}
use Rattle.frame_table.specs.Steps.{Slot, IsFurther, loaded, holding, Loads, Takes, Publishes, GivesBack, published, held_in, MayBecome, IsWithinPlan}
use Rattle.frame_table.proofs.Lists.{set_some, get_or_set, get_or_other, length_set, map_set, index_some}
use Rattle.frame_table.proofs.Growth.{seen_whole, plays_of_word, unlocked, locked_word, further_whole, whole_within}
use Rattle.frame_table.proofs.OneColumn.{kept_loaded, kept_held, kept_found, kept_given, kept_published}

abbrev pub Now : Type 0
Now = State Slot View

-- the mark of a part
abbrev mark_of : Part → Mark
mark_of p = record { planned = p.planned; reach = p.reach; known_plays = p.known.plays; knows_leave = p.known.left; loads = p.loads; feeds = p.feeds; made = p.made; held = p.held; met_plays = p.met.plays; met_leave = p.met.left }

-- the view, with this part of column c
abbrev with_part : View → ℕ → Part → View
with_part v c p = record { share = v.share; marks = set v.marks c (mark_of p) }

part_here : (v : View) (c : ℕ) (p : Part) → c < length v.marks → p.share ≡ v.share → part_of c (with_part v c p) ≡ p
part_here v c p below share = ap (part_in v.share) (get_or_set v.marks c (mark_of p) no_mark below) ∙ ap (λ s. part_in s (mark_of p)) (sym share)

others_stay : (v : View) (c : ℕ) (p : Part) → OthersStay c v (with_part v c p)
others_stay v c p = (refl, length_set v.marks c (mark_of p), λ d apart. ap (part_in v.share) (get_or_other v.marks c d (mark_of p) no_mark apart))

-- a step of one pass at one column keeps the rule
module _ (plan : List Planned) (s : Now) (kept : IsKept plan s) (id : ℕ) (v : View) (at : get_elem? s.views id ≡ some v) (some_share : 0 < v.share) (c : ℕ) (here : c < length plan) where
  pub marks_below : c < length v.marks
  marks_below = let l = kept.marks id v at some_share in omega arith

  pub part_there : get_elem? (map (part_of c) s.views) id ≡ some (part_of c v)
  part_there = at_map (part_of c) s.views id v at

  pub lifted : (words : List ℕ) (homes : List (Option Slot)) (p : Part) → p.share ≡ v.share →
      ((d : ℕ) → d ≢ c → get_elem? words d ≡ get_elem? s.words d) → ((d : ℕ) → d ≢ c → get_elem? homes d ≡ get_elem? s.homes d) →
      Keeps (planned_of plan c) (get_elem? words c) (get_elem? homes c) (set (map (part_of c) s.views) id p) →
      IsKept plan (record { words = words; homes = homes; views = set s.views id (with_part v c p) })
  lifted words homes p share same_words same_homes mine =
      record {
        each = λ d below. dite (ℕ_discrete d c)
            (λ is. subst (λ e. Keeps (planned_of plan e) (get_elem? words e) (get_elem? homes e) (map (part_of e) (set s.views id w))) (sym is)
            (subst (Keeps (planned_of plan c) (get_elem? words c) (get_elem? homes c)) (sym (map_set (part_of c) s.views id w ∙ ap (set (map (part_of c) s.views) id) (part_here v c p marks_below share))) mine))
            (λ apart. subst (λ (y : (Option ℕ × Option (Option Slot)) × List Part). Keeps (planned_of plan d) y.0.0 y.0.1 y.1)
            (λ i. ((sym (same_words d apart) i, sym (same_homes d apart) i), sym (map_set (part_of d) s.views id w ∙ ap (set (map (part_of d) s.views) id) ((others_stay v c p).2 d apart) ∙ set_again (map (part_of d) s.views) id (part_of d v) (at_map (part_of d) s.views id v at)) i))
            (kept.each d below));
        marks = λ by u there has_share. ⊎_elim
            (λ (x : (by ≡ id) × (w ≡ u)). subst (λ (y : View). length y.marks ≡ length plan) x.1 (length_set v.marks c (mark_of p) ∙ kept.marks id v at some_share))
            (λ (x : (by ≢ id) × (get_elem? s.views by ≡ some u)). kept.marks by u x.1 has_share) (at_set s.views id by w u there);
      }
    where
      w : View
      w = with_part v c p

module _ (plan : List Planned) (slots id : ℕ) (v : View) (carried : List (ℕ × Slot)) (some_share : 0 < v.share) (c : ℕ) (here : c < length plan) where
  pub loads : Allows (IsKept plan) slots id (v, carried) c (λ n. n) (Loads (step slots c 0 0 none) (v, carried))
  loads s kept long at small =
      let one = kept.each c here in
      let K = one.column in
      let there = part_there plan s kept id v at some_share c here in
      let found : slice_index s.words c ≡ word_of K one.locked = index_some s.words c (word_of K one.locked) one.word_is in
      let shows : seen_of (slice_index s.words c) ≡ whole_of K = ap seen_of found ∙ seen_whole K one.locked in
      let p = loaded (part_of c v) (whole_of K) in
      let same : set s.words c (slice_index s.words c) ≡ s.words = set_again s.words c (slice_index s.words c) (one.word_is ∙ ap some (sym found)) in
      let frames = one.frames in
      let held_so = kept_loaded (planned_of plan c) (get_elem? s.words c) (get_elem? s.homes c) (map (part_of c) s.views) id (part_of c v) one there some_share in
      let is_now = part_here v c p (marks_below plan s kept id v at some_share c here) refl in (
        with_part v c p,
        keeps,
        tt,
        lifted plan s kept id v at some_share c here (set s.words c (slice_index s.words c)) s.homes p refl (λ d apart. ap (λ l. get_elem? l d) same) (λ d apart. refl)
            (subst (λ (l : List ℕ). Keeps (planned_of plan c) (get_elem? l c) (get_elem? s.homes c) (set (map (part_of c) s.views) id p)) (sym same)
            held_so.1),
        (
          refl,
          others_stay v c p,
          is_now ∙ ap (loaded (part_of c v)) (sym shows),
          subst (IsFurther (part_of c v).reach) (sym shows) (further_whole K (part_of c v).reach (one.fits id (part_of c v) there).reach),
          subst (λ (r : Part). GrowsTo (part_of c v).known r.known) (sym is_now) held_so.0,
          subst (λ n. n ≤ 262144) (sym (ap (λ n. n / 4) found ∙ plays_of_word K one.locked)) frames,
          subst (IsWithinPlan (part_of c v).planned) (sym shows) (subst (λ q. IsWithinPlan q (whole_of K)) (sym ((one.fits id (part_of c v) there).plan some_share)) (whole_within (planned_of plan c) K one.follows)),
        ),
      )

  pub takes_lock : (old : ℕ) → old % 2 ≡ 0 → Allows (IsKept plan) slots id (v, carried) c (λ n. either (n == old) (old + 1) n) (Takes (step slots c old (old + 1) none) (v, carried))
  takes_lock old even s kept long at small = by (slice_index s.words c == old) refl
    where
      one : Keeps (planned_of plan c) (get_elem? s.words c) (get_elem? s.homes c) (map (part_of c) s.views)
      one = kept.each c here

      K : Column
      K = one.column

      found : slice_index s.words c ≡ word_of K one.locked
      found = index_some s.words c (word_of K one.locked) one.word_is

      there : get_elem? (map (part_of c) s.views) id ≡ some (part_of c v)
      there = part_there plan s kept id v at some_share c here

      by : (t : Bool) → (slice_index s.words c == old) ≡ t →
          (w : View) × (a : Act Slot) × Valid s.homes carried a
          × IsKept plan (stepped s c (either (slice_index s.words c == old) (old + 1) (slice_index s.words c)) id carried w a)
          × Takes (step slots c old (old + 1) none) (v, carried) (slice_index s.words c) (w, carried_after carried a)
      by false is =
          let same : set s.words c (slice_index s.words c) ≡ s.words = set_again s.words c (slice_index s.words c) (one.word_is ∙ ap some (sym found)) in (
            v,
            keeps,
            tt,
            rw is (subst (λ (y : List ℕ × List View). IsKept plan (record { words = y.0; homes = s.homes; views = y.1 })) (λ i. (sym same i, sym (set_again s.views id v at) i)) kept),
            rw is refl,
          )
      by true is =
          let expected : slice_index s.words c ≡ old = grind (arith, eqb_tells (slice_index s.words c) old, is) in
          let word : word_of K one.locked ≡ old = sym found ∙ expected in
          let free : one.locked ≡ false = unlocked K one.locked (ap (λ n. n % 2) word ∙ even) in
          let word_free : word_of K false ≡ old = ap (word_of K) (sym free) ∙ word in
          let next : word_of K true ≡ old + 1 = sym (locked_word K) ∙ ap (λ n. n + 1) word_free in
          let home : get_elem? s.homes c ≡ some (some (Some (K ∷ []))) = one.home_is ∙ ap (λ b. some (home_of K b)) free in
          let p = holding (part_of c v) K in
          let words_here : get_elem? (set s.words c (old + 1)) c ≡ some (word_of K true) = set_some s.words c (word_of K one.locked) (old + 1) one.word_is ∙ ap some (sym next) in
          let homes_here : get_elem? (set s.homes c none) c ≡ some (home_of K true) = set_some s.homes c (some (Some (K ∷ []))) none home in (
            with_part v c p,
            takes c (Some (K ∷ [])),
            home,
            rw is (lifted plan s kept id v at some_share c here (set s.words c (old + 1)) (set s.homes c none) p refl
                (λ d apart. set_else s.words c d (old + 1) apart) (λ d apart. set_else s.homes c d none apart)
                (subst (λ (y : Option ℕ × Option (Option Slot)). Keeps (planned_of plan c) y.0 y.1 (set (map (part_of c) s.views) id p)) (λ i. (sym words_here i, sym homes_here i))
                (kept_held (planned_of plan c) (get_elem? s.words c) (get_elem? s.homes c) (map (part_of c) s.views) id (part_of c v) one there free))),
            rw is (record {
              column = K;
              slots = refl;
              others = others_stay v c p;
              part = part_here v c p (marks_below plan s kept id v at some_share c here) refl;
              found = kept_found (planned_of plan c) (get_elem? s.words c) (get_elem? s.homes c) (map (part_of c) s.views) id (part_of c v) one there some_share;
            }),
          )

  -- the slot c was taken last, with this column, and K was there when the lock was taken
  module _ (K L : Column) (held : (part_of c v).held ≡ K ∷ []) where
    -- the slot is at home again, with the column L
    abbrev back : Now → List (Option Slot)
    back s = set s.homes c (some (Some (L ∷ [])))

    pub returned : (s : Now) (kept : IsKept plan s) (at : get_elem? s.views id ≡ some v) (p : Part) → p.share ≡ v.share →
        Keeps (planned_of plan c) (some (word_of L false)) (some (home_of L false)) (set (map (part_of c) s.views) id p) →
        IsKept plan (record { words = set s.words c (word_of L false); homes = back s; views = set s.views id (with_part v c p) })
    returned s kept at p share keeps_it =
        let one = kept.each c here in
        let words_here : get_elem? (set s.words c (word_of L false)) c ≡ some (word_of L false) = set_some s.words c (word_of one.column one.locked) (word_of L false) one.word_is in
        let homes_here : get_elem? (back s) c ≡ some (home_of L false) = set_some s.homes c (home_of one.column one.locked) (some (Some (L ∷ []))) one.home_is in
        lifted plan s kept id v at some_share c here (set s.words c (word_of L false)) (back s) p share
        (λ d apart. set_else s.words c d (word_of L false) apart) (λ d apart. set_else s.homes c d (some (Some (L ∷ []))) apart)
        (subst (λ (y : Option ℕ × Option (Option Slot)). Keeps (planned_of plan c) y.0 y.1 (set (map (part_of c) s.views) id p)) (λ i. (sym words_here i, sym homes_here i)) keeps_it)

    pub publishes : MayBecome (part_of c v) K L →
        Allows (IsKept plan) slots id (v, (c, Some (L ∷ [])) ∷ carried) c (λ _. word_of L false)
        (λ _. Publishes (step slots c (word_of L false) 0 none) (v, (c, Some (L ∷ [])) ∷ carried) (word_of L false))
    publishes becomes s kept long at small =
        let p = published (part_of c v) K L in
        let one = kept.each c here in (
          with_part v c p,
          gives,
          tt,
          returned s kept at p refl
              (kept_published (planned_of plan c) (get_elem? s.words c) (get_elem? s.homes c) (map (part_of c) s.views) id (part_of c v) one (part_there plan s kept id v at some_share c here) some_share K L held becomes),
          (
            refl,
            others_stay v c p,
            part_here v c p (marks_below plan s kept id v at some_share c here) refl ∙ ap (λ k. published (part_of c v) k L) (sym (ap held_in held)),
          ),
        )

    pub gives_back : L ≡ K →
        Allows (IsKept plan) slots id (v, (c, Some (L ∷ [])) ∷ carried) c (λ _. word_of L false)
        (λ _. GivesBack (step slots c (word_of L false) 0 none) (v, (c, Some (L ∷ [])) ∷ carried) (word_of L false))
    gives_back same s kept long at small =
        let p = record (part_of c v) { held = [] } in
        let one = kept.each c here in (
          with_part v c p,
          gives,
          tt,
          returned s kept at p refl
              (subst (λ (k : Column). Keeps (planned_of plan c) (some (word_of k false)) (some (home_of k false)) (set (map (part_of c) s.views) id p)) (sym same)
              (kept_given (planned_of plan c) (get_elem? s.words c) (get_elem? s.homes c) (map (part_of c) s.views) id (part_of c v) one (part_there plan s kept id v at some_share c here) K held)),
          (refl, others_stay v c p, part_here v c p (marks_below plan s kept id v at some_share c here) refl),
        )
