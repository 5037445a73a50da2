-- Each kind of step keeps what holds of its column.
use Rattle.std.proofs.Common.{◌≡◌, ◌≢◌, ℕ, ◌+◌, ◌-◌, ◌<◌, Bool, true, false, true≢false, List, [], ◌∷◌, set, refl, sym, ap, ◌∙◌, subst, inl, inr, ⊎_elim, arith, length-append}
use mathlib.Core.Option.{Option, some}
use lib.ListN.{get_elem?}
use Rattle.frame_core.specs.Column.{Column, length_of, IsWithinFrames}
use Rattle.frame_core.specs.Grows.{GrowsTo}
use Rattle.frame_core.proofs.GrowsLemmas.{GrowsTo-refl}
use Rattle.frame_table.specs.declared.planned.Planned.{Planned}
use Rattle.frame_table.specs.declared.planned.Planned.TheVariants.{Free}
use Rattle.frame_table.specs.Part.{Part}
use Rattle.frame_table.specs.Word.{one_if, word_of, whole_of}
use Rattle.frame_table.specs.Rule.{Follows, Fits, home_of, Keeps}
use Rattle.frame_table.specs.Steps.{Slot, known_after, loaded, holding, IsFound, published, held_in, MayAdd, MayBecome}
use Rattle.frame_table.proofs.Lists.{total_set, two_at_most_total, alone, all_set}
use Rattle.frame_table.proofs.Growth.{grows_trans, grows_length, becomes_grown, reach_grows, reach_whole, follows_on, after_known, after_free}

abbrev pub share_in : Part → ℕ
share_in p = p.share

abbrev pub made_in : Part → ℕ
made_in p = p.made

abbrev pub feeds_in : Part → ℕ
feeds_in p = one_if p.feeds

module _ (planned : Planned) (word : Option ℕ) (home : Option (Option Slot)) (parts : List Part) (id : ℕ) (p : Part) where
  -- one pass changes, and the column may have grown
  pub kept_set :
      (kept : Keeps planned word home parts) → get_elem? parts id ≡ some p →
      (new : Column) (locked : Bool) (holder : ℕ) (q : Part) →
      IsWithinFrames new → Follows planned new →
      ((j : ℕ) (r : Part) → j ≢ id → get_elem? parts j ≡ some r → Fits planned kept.column kept.locked kept.holder j r → Fits planned new locked holder j r) →
      Fits planned new locked holder id q → q.share ≡ p.share → q.made + one_if kept.column.left ≡ p.made + one_if new.left → q.feeds ≡ p.feeds →
      Keeps planned (some (word_of new locked)) (some (home_of new locked)) (set parts id q)
  kept_set kept at new locked holder q frames follows others mine share made feeds =
      record {
        column = new;
        locked = locked;
        holder = holder;
        word_is = refl;
        home_is = refl;
        frames = frames;
        follows = follows;
        fits = all_set (Fits planned new locked holder) parts id q mine (λ j r apart there. others j r apart there (kept.fits j r there));
        shares = (let s = total_set share_in parts id p q at in let w = kept.shares in omega arith);
        made = (let s = total_set made_in parts id p q at in let w = kept.made in omega arith);
        feeding = (let s = total_set feeds_in parts id p q at in let w = kept.feeding in let f : feeds_in q ≡ feeds_in p = ap one_if feeds in omega arith);
      }

  -- a load
  pub kept_loaded :
      (kept : Keeps planned word home parts) → get_elem? parts id ≡ some p → 0 < p.share →
      (GrowsTo p.known (loaded p (whole_of kept.column)).known) × Keeps planned word home (set parts id (loaded p (whole_of kept.column)))
  kept_loaded kept at some_share =
      let K = kept.column in
      let was = kept.fits id p at in
      let plan = was.plan some_share in
      let knows = after_known p.planned p.known K (subst (λ q. Follows q K) (sym plan) kept.follows) was.known in (
        knows.0,
        subst (λ (y : Option ℕ × Option (Option Slot)). Keeps planned y.0 y.1 (set parts id (loaded p (whole_of K))))
            (λ i. (sym kept.word_is i, sym kept.home_is i))
            (kept_set kept at K kept.locked kept.holder (loaded p (whole_of K)) kept.frames kept.follows
            (λ j r apart there fits. fits)
            (record {
              reach = reach_whole K;
              known = knows.1;
              within = record { plays = grows_length (known_after p.planned (whole_of K) p.known) K knows.1; left = λ left. ap (λ (k : Column). k.left) (knows.1.closed left) ∙ left };
              plan = was.plan;
              feeds = λ feeds. let fed = was.feeds feeds in (fed.0, ap (λ (k : Column). k.plays) (after_free p.planned (whole_of K) p.known (plan ∙ fed.0)) ∙ fed.1);
              held = was.held;
              met = was.met;
              poor = was.poor;
            })
            refl refl refl),
      )

  -- the lock is taken
  pub kept_held :
      (kept : Keeps planned word home parts) → get_elem? parts id ≡ some p → kept.locked ≡ false →
      Keeps planned (some (word_of kept.column true)) (some (home_of kept.column true)) (set parts id (holding p kept.column))
  kept_held kept at free =
      let K = kept.column in
      let was = kept.fits id p at in
      kept_set kept at K true id (holding p K) kept.frames kept.follows
      (λ j r apart there fits. record {
        reach = fits.reach;
        known = fits.known;
        within = fits.within;
        plan = fits.plan;
        feeds = fits.feeds;
        held = ⊎_elim (λ none. inl none) (λ has. absurd (true≢false (sym has.1 ∙ free))) fits.held;
        met = fits.met;
        poor = fits.poor;
      })
      (record {
        reach = was.reach;
        known = was.known;
        within = was.within;
        plan = was.plan;
        feeds = was.feeds;
        held = inr (refl, refl, refl);
        met = was.met;
        poor = was.poor;
      })
      refl refl refl

  -- what is told of the column when its lock is taken
  pub kept_found : (kept : Keeps planned word home parts) → get_elem? parts id ≡ some p → 0 < p.share → IsFound p kept.column
  kept_found kept at some_share =
      let was = kept.fits id p at in
      let plan = was.plan some_share in
      record {
        frames = kept.frames;
        known = was.known;
        reach = was.reach;
        follows = subst (λ q. Follows q kept.column) (sym plan) kept.follows;
        fed = λ feeds. (plan ∙ (was.feeds feeds).0, (was.feeds feeds).1);
        made = λ all. sym (alone share_in made_in parts id p (λ j r there none. ((kept.fits j r there).poor none).0) at (kept.shares ∙ sym all)) ∙ kept.made;
      }

  held_is : (kept : Keeps planned word home parts) → get_elem? parts id ≡ some p → (K : Column) → p.held ≡ K ∷ [] →
      (K ≡ kept.column) × (kept.locked ≡ true) × (kept.holder ≡ id)
  held_is kept at K held =
      ⊎_elim (λ none. absurd (cc)) (λ has. (ap held_in (sym held ∙ has.0), has.1, has.2)) (kept.fits id p at).held

  -- no other pass has the lock
  others_hold_none : (kept : Keeps planned word home parts) → get_elem? parts id ≡ some p → (K : Column) → p.held ≡ K ∷ [] →
      (j : ℕ) (r : Part) → j ≢ id → Fits planned kept.column kept.locked kept.holder j r → r.held ≡ []
  others_hold_none kept at K held j r apart fits =
      ⊎_elim (λ none. none) (λ has. absurd (apart (sym has.2 ∙ (held_is kept at K held).2))) fits.held

  -- the lock is given back
  pub kept_given :
      (kept : Keeps planned word home parts) → get_elem? parts id ≡ some p → (K : Column) → p.held ≡ K ∷ [] →
      Keeps planned (some (word_of K false)) (some (home_of K false)) (set parts id (record p { held = [] }))
  kept_given kept at K held =
      let was = kept.fits id p at in
      let is = held_is kept at K held in
      subst (λ (k : Column). Keeps planned (some (word_of k false)) (some (home_of k false)) (set parts id (record p { held = [] }))) (sym is.0)
      (kept_set kept at kept.column false 0 (record p { held = [] }) kept.frames kept.follows
      (λ j r apart there fits. record {
        reach = fits.reach;
        known = fits.known;
        within = fits.within;
        plan = fits.plan;
        feeds = fits.feeds;
        held = inl (others_hold_none kept at K held j r apart fits);
        met = fits.met;
        poor = fits.poor;
      })
      (record {
        reach = was.reach;
        known = was.known;
        within = was.within;
        plan = was.plan;
        feeds = was.feeds;
        held = inl refl;
        met = was.met;
        poor = was.poor;
      })
      refl refl refl)

  -- no other pass may add plays
  alone_feeds : (kept : Keeps planned word home parts) → get_elem? parts id ≡ some p → p.feeds ≡ true →
      (j : ℕ) (r : Part) → j ≢ id → get_elem? parts j ≡ some r → r.feeds ≡ true → ⊥
  alone_feeds kept at feeds j r apart there other =
      let two = two_at_most_total feeds_in parts id j p r at there apart in
      let most = kept.feeding in
      let here : feeds_in p ≡ 1 = ap one_if feeds in
      let beside : feeds_in r ≡ 1 = ap one_if other in
      omega arith

  still_fed : (kept : Keeps planned word home parts) → get_elem? parts id ≡ some p → 0 < p.share → (new : Column) → MayBecome p kept.column new →
      (j : ℕ) (r : Part) → j ≢ id → get_elem? parts j ≡ some r → r.feeds ≡ true → (planned ≡ Free) × (r.known.plays ≡ kept.column.plays) → r.known.plays ≡ new.plays
  still_fed kept at some_share new (inl same) j r apart there feeds is = is.1 ∙ ap (λ (k : Column). k.plays) (sym same)
  still_fed kept at some_share new (inr (inl play)) j r apart there feeds is =
      absurd (alone_feeds kept at (subst (λ q. MayAdd q p.feeds (length_of kept.column) play.orders) ((kept.fits id p at).plan some_share ∙ is.0) play.right) j r apart there feeds)
  still_fed kept at some_share new (inr (inr leave)) j r apart there feeds is = is.1 ∙ ap (λ (k : Column). k.plays) (sym leave.is)

  within_frames : (K new : Column) → IsWithinFrames K → MayBecome p K new → IsWithinFrames new
  within_frames K new frames (inl same) = subst IsWithinFrames (sym same) frames
  within_frames K new frames (inr (inl play)) = subst IsWithinFrames (sym play.is) (let room = play.room in let l = length-append K.plays (play.orders ∷ []) in omega arith)
  within_frames K new frames (inr (inr leave)) = subst IsWithinFrames (sym leave.is) frames

  made_more : (K new : Column) → MayBecome p K new → p.made + (one_if new.left - one_if K.left) + one_if K.left ≡ p.made + one_if new.left
  made_more K new becomes = by K.left new.left refl refl
    where
      by : (a b : Bool) → K.left ≡ a → new.left ≡ b → p.made + (one_if new.left - one_if K.left) + one_if K.left ≡ p.made + one_if new.left
      by true b was is =
          let same : new.left ≡ true = ap (λ (k : Column). k.left) ((becomes_grown p K new becomes).closed was) ∙ was in
          rw (was, same) (omega arith)
      by false b was is = rw was (omega arith)

  -- the column is published, as the pass made it
  pub kept_published :
      (kept : Keeps planned word home parts) → get_elem? parts id ≡ some p → 0 < p.share → (K new : Column) → p.held ≡ K ∷ [] → MayBecome p K new →
      Keeps planned (some (word_of new false)) (some (home_of new false)) (set parts id (published p K new))
  kept_published kept at some_share K new held becomes =
      let was = kept.fits id p at in
      let is = held_is kept at K held in
      let makes : MayBecome p kept.column new = subst (λ (k : Column). MayBecome p k new) is.0 becomes in
      let grown = becomes_grown p kept.column new makes in
      kept_set kept at new false 0 (published p K new)
      (within_frames kept.column new kept.frames makes)
      (follows_on planned p kept.column new (was.plan some_share) kept.follows makes)
      (λ j r apart there fits. record {
        reach = reach_grows kept.column new r.reach grown fits.reach;
        known = grows_trans r.known kept.column new fits.known grown;
        within = fits.within;
        plan = fits.plan;
        feeds = λ feeds. let has = fits.feeds feeds in (has.0, still_fed kept at some_share new makes j r apart there feeds has);
        held = inl (others_hold_none kept at K held j r apart fits);
        met = grows_trans r.met kept.column new fits.met grown;
        poor = fits.poor;
      })
      (record {
        reach = reach_whole new;
        known = GrowsTo-refl new;
        within = record { plays = omega arith; left = λ left. left };
        plan = was.plan;
        feeds = λ feeds. ((was.feeds feeds).0, refl);
        held = inl refl;
        met = grows_trans p.met kept.column new was.met grown;
        poor = λ none. absurd (omega arith);
      })
      refl
      (subst (λ (k : Column). p.made + (one_if new.left - one_if K.left) + one_if k.left ≡ p.made + one_if new.left) is.0 (made_more K new becomes))
      refl
