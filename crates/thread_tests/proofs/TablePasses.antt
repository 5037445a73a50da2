-- What is known of a pass of a table with free columns.
use Rattle.std.proofs.Common.{◌≡◌, ℕ, zero, suc, ◌^◌, ◌<◌, Bool, true, false, List, [], ◌∷◌, length, get_or, replicate, refl, sym, ap, ◌∙◌, subst, inl, ⊎_elim, arith}
use native.Mathlib.Decide.{ℕ_discrete}
use mathlib.Core.Logic.{dite}
use Rattle.game_orders.specs.declared.entry.Entry.{Entry}
use Rattle.game_orders.specs.declared.entry.Entry.TheVariants.{Play, Leave}
use Rattle.frame_core.specs.Column.{Column}
use Rattle.frame_table.specs.declared.planned.Planned.{Planned}
use Rattle.frame_table.specs.declared.planned.Planned.TheVariants.{Free}
use Rattle.frame_table.specs.declared.view.View.{View}
use Rattle.frame_table.specs.declared.view.Mark.{Mark}
use Rattle.frame_table.specs.declared.pass.Pass.{Pass}
use Rattle.frame_table.specs.declared.table.FrameTable.{FrameTable}
use Rattle.frame_table.specs.Part.{Part, part_of, part_in, no_mark}
use Rattle.frame_table.specs.Passes.{kept_mark, given_marks, kept_view, given_view, first_view, first_mark}
use Rattle.frame_table.specs.Steps.{MayEnd, loaded}
use Rattle.frame_table.specs.Calls.{plan_of, view_of, IsPassOf, MayPut, MayPutPlay, MayLeaveBy, Acted, IsLater, IsLaterPart}
use Rattle.thread_tests.specs.Tables.{IsFreePass, IsFeedingPass}
use Rattle.frame_table.proofs.PassesLemmas.{first_at, handed}

pub free_may_put : (p : Part) (n : ℕ) (e : Entry) → p.planned ≡ Free → p.feeds ≡ true → MayPut p n e
free_may_put p n (Play orders) free feeds = subst (λ q. MayPutPlay q p n orders) (sym free) (inl feeds)
free_may_put p n Leave free feeds = subst (λ q. MayEnd q n) (sym free) tt

pub free_may_leave : (p : Part) → p.planned ≡ Free → MayLeaveBy p.planned p.reach
free_may_leave p free = subst (λ q. MayLeaveBy q p.reach) (sym free) tt

module _ (table : FrameTable) (p q : Pass) (c : ℕ) (K L : Column) (is : IsPassOf table q) (acted : Acted c (view_of p) (view_of q) K L) where
  same_right : {A : Type 0} (f : Part → A) → f (part_of c (view_of q)) ≡ f (part_of c (view_of p)) → (d : ℕ) → f (part_of d (view_of q)) ≡ f (part_of d (view_of p))
  same_right f here d = dite (ℕ_discrete d c)
      (λ same. subst (λ e. f (part_of e (view_of q)) ≡ f (part_of e (view_of p))) (sym same) here)
      (λ apart. ap f (acted.others.2 d apart))

  pub free_stays : IsFreePass table p → IsFreePass table q
  free_stays free =
      record { is = is; planned = λ d below. same_right (λ (r : Part). r.planned) (ap (λ (r : Part). r.planned) acted.part) d ∙ free.planned d below }

  pub feeds_stay : IsFeedingPass table p → IsFeedingPass table q
  feeds_stay feeding =
      record { free = free_stays feeding.free; feeds = λ d below. same_right (λ (r : Part). r.feeds) (ap (λ (r : Part). r.feeds) acted.part) d ∙ feeding.feeds d below }

-- a look changes nothing else of a pass
later_same : {A : Type 0} (f : Part → A) (old new : Part) → f (loaded old new.reach) ≡ f old → IsLaterPart old new → f new ≡ f old
later_same f old new stays later = ⊎_elim (λ same. ap f same) (λ once. ap f once.0 ∙ stays) later.exact

pub later_feeds : (table : FrameTable) (p q : Pass) → IsPassOf table q → IsLater (view_of p) (view_of q) → IsFeedingPass table p → IsFeedingPass table q
later_feeds table p q is later feeding =
    record {
      free = record { is = is; planned = λ d below. later_same (λ (r : Part). r.planned) (part_of d (view_of p)) (part_of d (view_of q)) refl (later.parts d) ∙ feeding.free.planned d below };
      feeds = λ d below. later_same (λ (r : Part). r.feeds) (part_of d (view_of p)) (part_of d (view_of q)) refl (later.parts d) ∙ feeding.feeds d below;
    }

free_at : (n c : ℕ) → get_or (replicate n Free) c Free ≡ Free
free_at zero c = refl
free_at (suc n) zero = refl
free_at (suc n) (suc c) = free_at n c

pub first_feeds : (table : FrameTable) (p : Pass) (n : ℕ) → IsPassOf table p → plan_of table ≡ replicate n Free → view_of p ≡ first_view (plan_of table) → IsFeedingPass table p
first_feeds table p n is plan view =
    record {
      free = record { is = is; planned = λ c below. ap (λ (r : Part). r.planned) (part c below) };
      feeds = λ c below. ap (λ (r : Part). r.feeds) (part c below);
    }
  where
    part : (c : ℕ) → c < length (plan_of table) → part_of c (view_of p) ≡ part_in (2 ^ 62) (first_mark Free)
    part c below =
        ap (part_of c) view
        ∙ ap (part_in (2 ^ 62)) (first_at (plan_of table) c below)
        ∙ ap (λ (l : List Planned). part_in (2 ^ 62) (first_mark (get_or l c Free))) plan
        ∙ ap (λ (x : Planned). part_in (2 ^ 62) (first_mark x)) (free_at n c)

-- one free column: the new pass feeds it
module _ (table : FrameTable) (p k g : Pass) (one : length (plan_of table) ≡ 1) (feeding : IsFeedingPass table p) where
  marks_one : (v : View) → length v.marks ≡ 1 → (part_of 0 v).feeds ≡ true → ((part_of 0 (given_view v)).feeds ≡ true) × ((part_of 0 (given_view v)).planned ≡ (part_of 0 v).planned)
  marks_one v long feeds = by v.marks long feeds
    where
      by : (ms : List Mark) → length ms ≡ 1 → (get_or ms 0 no_mark).feeds ≡ true → ((get_or (given_marks ms) 0 no_mark).feeds ≡ true) × ((get_or (given_marks ms) 0 no_mark).planned ≡ (get_or ms 0 no_mark).planned)
      by [] long feeds = absurd (omega arith)
      by (m ∷ ms) long feeds = rw feeds (refl, refl)

  only_zero : (c : ℕ) → c < length (plan_of table) → 0 ≡ c
  only_zero c below = omega arith

  here : 0 < length (plan_of table)
  here = omega arith

  pub given_feeds : IsPassOf table g → view_of g ≡ given_view (view_of p) → IsFeedingPass table g
  given_feeds is view =
      let m = marks_one (view_of p) (feeding.free.is.marks ∙ one) (feeding.feeds 0 here) in
      record {
        free = record { is = is; planned = λ c below. subst (λ d. (part_of d (view_of g)).planned ≡ Free) (only_zero c below) (ap (λ (v : View). (part_of 0 v).planned) view ∙ m.1 ∙ feeding.free.planned 0 here) };
        feeds = λ c below. subst (λ d. (part_of d (view_of g)).feeds ≡ true) (only_zero c below) (ap (λ (v : View). (part_of 0 v).feeds) view ∙ m.0);
      }

  pub kept_free : IsPassOf table k → view_of k ≡ kept_view (view_of p) → IsFreePass table k
  kept_free is view =
      record { is = is; planned = λ c below. ap (λ (v : View). (part_of c v).planned) view ∙ kept_planned (view_of p) c ∙ feeding.free.planned c below }
    where
      planned_stays : (b : Bool) (m : Mark) → (kept_mark b m).planned ≡ m.planned
      planned_stays true m = refl
      planned_stays false m = refl

      kept_planned : (v : View) (c : ℕ) → (part_of c (kept_view v)).planned ≡ (part_of c v).planned
      kept_planned v c = let h = handed v.marks c in ap (λ (m : Mark). m.planned) h.1.0 ∙ planned_stays h.0 (get_or v.marks c no_mark)
