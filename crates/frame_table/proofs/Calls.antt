-- The calls, over plain values.
use Rattle.std.proofs.Common.{◌≡◌, ℕ, zero, suc, ◌<◌, ◌≤◌, Bool, true, false, List, [], ◌∷◌, length, map, set, get_or, refl, sym, ap, ◌∙◌, subst, inl, inr, arith}
use native.Mathlib.Decide.{ℕ_discrete}
use mathlib.Core.Logic.{dite}
use mathlib.Core.Option.{none}
use Rattle.atomic_table.specs.Table.{Me, step, Allows}
use Rattle.game_orders.specs.declared.entry.Entry.{Entry}
use Rattle.frame_core.specs.Column.{Column, put_column, left_column, column_of}
use Rattle.frame_core.specs.Grows.{GrowsTo}
use Rattle.frame_table.specs.declared.planned.Planned.{Planned}
use Rattle.frame_table.specs.declared.view.View.{View}
use Rattle.frame_table.specs.declared.pass.Pass.{Pass}
use Rattle.frame_table.specs.declared.table.FrameTable.{FrameTable}
use Rattle.frame_table.specs.declared.view.Mark.{Mark}
use Rattle.frame_table.specs.Part.{Part, part_of, part_in, no_mark, OthersStay}
use Rattle.frame_table.specs.Passes.{kept_mark, kept_view, given_view, joined_mark, joined_marks, joined_view, longer, first_mark, first_view}
use Rattle.frame_table.specs.Rule.{IsKept}
use Rattle.frame_table.specs.Steps.{Slot, holding, published_as, released, MayPublish, MayBecome, HasMet, Meets}
use Rattle.frame_table.specs.Calls.{plan_of, view_of, IsPassOf, HasLocked, GaveBack, Acted, Unchanged}
use Rattle.frame_table.proofs.PassesLemmas.{handed, joined_at, joined_held, joined_length, given_length, first_length}
use Rattle.frame_table.proofs.KeptPasses.{meets, both_grow}

-- a call with a pass leaves a pass
pub still_pass : (table : FrameTable) (p q : Pass) (c : ℕ) → IsPassOf table p → q.seat.table_id ≡ p.seat.table_id → q.seat.me.1 ≡ [] →
    OthersStay c (view_of p) (view_of q) → (part_of c (view_of q)).held ≡ [] → IsPassOf table q
still_pass table p q c pass same free others held =
    record {
      same = same ∙ pass.same;
      free = free;
      share = subst (λ n. 0 < n) (sym others.0) pass.share;
      marks = others.1 ∙ pass.marks;
      held = λ d. dite (ℕ_discrete d c)
          (λ is. subst (λ e. (part_of e (view_of q)).held ≡ []) (sym is) held)
          (λ apart. ap (λ (r : Part). r.held) (others.2 d apart) ∙ pass.held d);
    }

pub others_trans : (c : ℕ) (a b d : View) → OthersStay c a b → OthersStay c b d → OthersStay c a d
others_trans c a b d ab bd = (bd.0 ∙ ab.0, bd.1 ∙ ab.1, λ e apart. bd.2 e apart ∙ ab.2 e apart)

becomes_holding : (p : Part) (K L : Column) → MayBecome p K L → MayBecome (holding p K) K L
becomes_holding p K L (inl same) = inl same
becomes_holding p K L (inr (inl play)) = inr (inl (record { orders = play.orders; is = play.is; playing = play.playing; room = play.room; right = play.right }))
becomes_holding p K L (inr (inr leave)) = inr (inr (record { is = leave.is; playing = leave.playing; right = leave.right }))

-- the one column after a put
pub put_is : (columns after : List Column) (K : Column) (n : ℕ) (e : Entry) → columns ≡ K ∷ [] → after ≡ set columns 0 (put_column (column_of columns 0) n e) → after ≡ put_column K n e ∷ []
put_is columns after K n e is changed = changed ∙ ap (λ (l : List Column). set l 0 (put_column (column_of l 0) n e)) is

pub left_is : (columns after : List Column) (K : Column) → columns ≡ K ∷ [] → after ≡ set columns 0 (left_column (column_of columns 0)) → after ≡ left_column K ∷ []
left_is columns after K is changed = changed ∙ ap (λ (l : List Column). set l 0 (left_column (column_of l 0))) is

module _ (c : ℕ) (old mid : Me Slot View) (columns after : List Column) (locked : HasLocked c old mid columns) where
  -- what is published after the lock was taken
  pub may_publish : (L : Column) → after ≡ L ∷ [] → MayBecome (part_of c old.0) locked.column L → MayPublish (part_of c mid.0) after
  may_publish L is becomes =
      subst (λ (q : Part). MayPublish q after) (sym locked.part)
      (record { before = locked.column; after = L; held = refl; is = is; becomes = becomes_holding (part_of c old.0) locked.column L becomes })

  pub acted : (new : Me Slot View) (L : Column) → after ≡ L ∷ [] → GaveBack c mid new → part_of c new.0 ≡ published_as (part_of c mid.0) after → Acted c old.0 new.0 locked.column L
  acted new L is gave part =
      record {
        found = locked.found;
        others = others_trans c old.0 mid.0 new.0 locked.others gave.others;
        part = part ∙ (λ i. published_as (locked.part i) (is i));
      }

  pub unchanged : (new : Me Slot View) → (part_of c old.0).held ≡ [] → GaveBack c mid new → part_of c new.0 ≡ released (part_of c mid.0) → Unchanged old.0 new.0
  unchanged new held gave part =
      let others = others_trans c old.0 mid.0 new.0 locked.others gave.others in
      record {
        share = others.0;
        parts = λ d. dite (ℕ_discrete d c)
            (λ is. subst (λ e. part_of e new.0 ≡ part_of e old.0) (sym is) (part ∙ ap released locked.part ∙ (λ i. record (part_of c old.0) { held = sym held i })))
            (λ apart. others.2 d apart);
      }

  pub held_again : (new : Me Slot View) → (part_of c old.0).held ≡ [] → part_of c new.0 ≡ released (part_of c mid.0) → (part_of c new.0).held ≡ []
  held_again new held part = ap (λ (r : Part). r.held) part

module _ (table : FrameTable) (p q : Pass) (pass : IsPassOf table p) where
  pub kept_pass : 2 ≤ (view_of p).share → q.seat.table_id ≡ p.seat.table_id → q.seat.me ≡ (kept_view (view_of p), p.seat.me.1) → IsPassOf table q
  kept_pass share same is =
      record {
        same = same ∙ pass.same;
        free = ap (λ (m : Me Slot View). m.1) is ∙ pass.free;
        share = subst (λ (m : Me Slot View). 0 < m.0.share) (sym is) (omega arith);
        marks = ap (λ (m : Me Slot View). length m.0.marks) is ∙ (given_length (view_of p).marks).0 ∙ pass.marks;
        held = λ d. let h = handed (view_of p).marks d in
            ap (λ (m : Me Slot View). (part_of d m.0).held) is ∙ ap (λ (m : Mark). m.held) h.1.0 ∙ same_held h.0 (get_or (view_of p).marks d no_mark) ∙ pass.held d;
      }
    where
      same_held : (b : Bool) (m : Mark) → (kept_mark b m).held ≡ m.held
      same_held true m = refl
      same_held false m = refl

  pub given_pass : 2 ≤ (view_of p).share → q.seat.table_id ≡ p.seat.table_id → q.seat.me ≡ (given_view (view_of p), []) → IsPassOf table q
  given_pass share same is =
      record {
        same = same ∙ pass.same;
        free = ap (λ (m : Me Slot View). m.1) is;
        share = subst (λ (m : Me Slot View). 0 < m.0.share) (sym is) (omega arith);
        marks = ap (λ (m : Me Slot View). length m.0.marks) is ∙ (given_length (view_of p).marks).1 ∙ pass.marks;
        held = λ d. let h = handed (view_of p).marks d in
            ap (λ (m : Me Slot View). (part_of d m.0).held) is ∙ ap (λ (m : Mark). m.held) h.1.1;
      }

module _ (table : FrameTable) (p other q : Pass) (pass : IsPassOf table p) (theirs : IsPassOf table other) where
  pub part_joined : (c : ℕ) → c < length (plan_of table) → get_or (joined_marks (view_of p).marks (view_of other).marks) c no_mark ≡ joined_mark (get_or (view_of p).marks c no_mark) (get_or (view_of other).marks c no_mark)
  part_joined c below = joined_at (view_of p).marks (view_of other).marks c (let l = pass.marks in omega arith) (let l = theirs.marks in omega arith)

  pub joined_pass : q.seat.table_id ≡ p.seat.table_id → q.seat.me ≡ (joined_view (view_of p) (view_of other), p.seat.me.1) → IsPassOf table q
  joined_pass same is =
      record {
        same = same ∙ pass.same;
        free = ap (λ (m : Me Slot View). m.1) is ∙ pass.free;
        share = subst (λ (m : Me Slot View). 0 < m.0.share) (sym is) (let s = pass.share in omega arith);
        marks = ap (λ (m : Me Slot View). length m.0.marks) is ∙ joined_length (view_of p).marks (view_of other).marks ∙ pass.marks;
        held = λ d. ap (λ (m : Me Slot View). (part_of d m.0).held) is ∙ joined_held (view_of p).marks (view_of other).marks d ∙ pass.held d;
      }

  module _ (mid : Me Slot View) (is : mid ≡ (joined_view (view_of p) (view_of other), p.seat.me.1)) (after : q.seat.me ≡ mid) (met : (c : ℕ) → c < length mid.0.marks → HasMet (part_of c mid.0)) (c : ℕ) (below : c < length (plan_of table)) where
    both : GrowsTo (part_of c (view_of p)).known (part_of c (view_of q)).known × GrowsTo (part_of c (view_of other)).known (part_of c (view_of q)).known
    both =
        let a = part_of c (view_of p) in
        let b = part_of c (view_of other) in
        let here : part_of c mid.0 ≡ part_in (mid.0.share) (joined_mark (get_or (view_of p).marks c no_mark) (get_or (view_of other).marks c no_mark)) =
        ap (λ (m : List Mark). part_in mid.0.share (get_or m c no_mark)) (ap (λ (m : Me Slot View). m.0.marks) is) ∙ ap (part_in mid.0.share) (part_joined c below) in
        let l : length mid.0.marks ≡ length (plan_of table) = ap (λ (m : Me Slot View). length m.0.marks) is ∙ joined_length (view_of p).marks (view_of other).marks ∙ pass.marks in
        let knows : (part_of c (view_of q)).known ≡ longer a.known b.known = ap (λ (m : Me Slot View). (part_of c m.0).known) after ∙ ap (λ (r : Part). r.known) here in
        subst (λ k. GrowsTo a.known k × GrowsTo b.known k) (sym knows)
        (both_grow a.known b.known (subst HasMet here (met c (omega arith))))

    pub mine_grows : GrowsTo (part_of c (view_of p)).known (part_of c (view_of q)).known
    mine_grows = both.0

    pub theirs_grows : GrowsTo (part_of c (view_of other)).known (part_of c (view_of q)).known
    theirs_grows = both.1

pub meets_as : (table : FrameTable) (p other : Pass) (id slots : ℕ) (me : Me Slot View) → IsPassOf table p → IsPassOf table other → 1 ≤ length (plan_of table) →
    me ≡ (joined_view (view_of p) (view_of other), p.seat.me.1) → Allows (IsKept (plan_of table)) slots id me 0 (λ n. n) (Meets (step slots 0 0 0 none) me)
meets_as table p other id slots me pass theirs clients is =
    meets (plan_of table) id me.0 slots me.1 (subst (λ (m : Me Slot View). 0 < m.0.share) (sym is) (let s = pass.share in omega arith)) clients

-- the first pass
pub first_pass : (table : FrameTable) (p : Pass) (plan : List Planned) → plan_of table ≡ plan → p.seat.table_id ≡ table.inner.shared.table_id → p.seat.me ≡ (first_view plan, []) → IsPassOf table p
first_pass table p plan plan_is same is =
    record {
      same = same;
      free = ap (λ (m : Me Slot View). m.1) is;
      share = subst (λ (m : Me Slot View). 0 < m.0.share) (sym is) (omega arith);
      marks = ap (λ (m : Me Slot View). length m.0.marks) is ∙ first_length plan ∙ ap length (sym plan_is);
      held = λ d. ap (λ (m : Me Slot View). (part_of d m.0).held) is ∙ first_none plan d;
    }
  where
    first_none : (l : List Planned) (d : ℕ) → (get_or (map first_mark l) d no_mark).held ≡ []
    first_none [] d = refl
    first_none (x ∷ l) zero = refl
    first_none (x ∷ l) (suc d) = first_none l d
