-- Clients that are let go by the server.
use Rattle.std.proofs.Common.{◌≡◌, ◌≢◌, ℕ, ◌+◌, ◌^◌, ◌<◌, ◌≤◌, ◌⊎◌, true, refl, sym, ap, ◌∙◌, subst, inl, inr, arith}
use Rattle.frame_core.specs.Column.{Column}
use Rattle.frame_core.specs.Grows.{GrowsTo}
use Rattle.frame_core.proofs.GrowsLemmas.{GrowsTo-refl}
use Rattle.frame_table.specs.declared.planned.Planned.{Planned}
use Rattle.frame_table.specs.declared.pass.Pass.{Pass}
use Rattle.frame_table.specs.declared.table.FrameTable.{FrameTable}
use Rattle.frame_table.specs.Part.{Part}
use Rattle.frame_table.specs.Word.{whole_of, one_if}
use Rattle.frame_table.specs.Steps.{IsFound}
use Rattle.frame_table.specs.Calls.{view_of, standing, IsPassOf, MayLeaveBy}
use Rattle.match_serve.specs.Passes.{IsServePass, IsTakenOut, AllGone}
use Rattle.match_serve.proofs.PassLemmas.{GrowsTo-trans}
use Rattle.match_serve.proofs.SeatLemmas.{taken_out, kept_pass}

pub may_leave : (clients : ℕ) (table : FrameTable) (pass : Pass) (c : ℕ) → IsServePass clients table pass → c < clients → MayLeaveBy (standing pass c).planned (standing pass c).reach
may_leave clients table pass c is below = subst (λ (q : Planned). MayLeaveBy q (standing pass c).reach) (sym (is.free c below)) tt

-- The first c clients have left.
pub record GoneSoFar (clients : ℕ) (table : FrameTable) (start pass : Pass) (c : ℕ) : Type 0 where
  pub is : IsServePass clients table pass
  pub share : (view_of pass).share ≡ (view_of start).share
  pub known : (d : ℕ) → GrowsTo (standing start d).known (standing pass d).known
  pub left : (d : ℕ) → d < c → (standing pass d).known.left ≡ true
  pub reach : (d : ℕ) → d < c → (standing pass d).reach ≡ whole_of (standing pass d).known
  pub later : (d : ℕ) → c ≤ d → (standing pass d).made ≡ (standing start d).made
  pub once : (view_of start).share ≡ 2 ^ 62 → (d : ℕ) → d < c → (standing start d).known.left ≡ true → (standing start d).made ≡ 1

pub gone_none : (clients : ℕ) (table : FrameTable) (pass : Pass) → IsServePass clients table pass → GoneSoFar clients table pass pass 0
gone_none clients table pass is = record { is = is; share = refl; known = λ d. GrowsTo-refl (standing pass d).known; left = λ d below. absurd (omega arith); reach = λ d below. absurd (omega arith); later = λ d far. refl; once = λ all d below. absurd (omega arith) }

before_or_at : (c d : ℕ) → d < c + 1 → (d < c) ⊎ (d ≡ c)
before_or_at c d below = grind arith

pub gone_more : (clients : ℕ) (table : FrameTable) (start p q : Pass) (c : ℕ) → GoneSoFar clients table start p c → IsServePass clients table q → IsTakenOut c (view_of p) (view_of q) → GoneSoFar clients table start q (c + 1)
gone_more clients table start p q c far is out =
    let keeps = taken_out c (view_of p) (view_of q) out in
    let (answer, (K, acted, said)) = out in
    let left_here : (standing q c).known.left ≡ true = ap (λ (r : Part). r.known.left) acted.part in
    let reach_here : (standing q c).reach ≡ whole_of (standing q c).known = ap (λ (r : Part). r.reach) acted.part ∙ sym (ap (λ (r : Part). whole_of r.known) acted.part) in
    record {
      is = is;
      share = keeps.share ∙ far.share;
      known = λ d. GrowsTo-trans (standing start d).known (standing p d).known (standing q d).known (far.known d) (keeps.known d);
      left = λ d less. by_left d (before_or_at c d less) left_here acted.others.2;
      reach = λ d less. by_reach d (before_or_at c d less) reach_here acted.others.2;
      later = λ d from. keeps.made d (λ same. absurd (omega arith)) ∙ far.later d (omega arith);
      once = λ all d less left. by_once d (before_or_at c d less) all left K acted.found;
    }
  where
    by_left : (d : ℕ) → (d < c) ⊎ (d ≡ c) → (standing q c).known.left ≡ true → ((e : ℕ) → e ≢ c → standing q e ≡ standing p e) → (standing q d).known.left ≡ true
    by_left d (inl less) here others = ap (λ (r : Part). r.known.left) (others d (λ same. absurd (omega arith))) ∙ far.left d less
    by_left d (inr same) here others = subst (λ e. (standing q e).known.left ≡ true) (sym same) here

    by_reach : (d : ℕ) → (d < c) ⊎ (d ≡ c) → (standing q c).reach ≡ whole_of (standing q c).known → ((e : ℕ) → e ≢ c → standing q e ≡ standing p e) → (standing q d).reach ≡ whole_of (standing q d).known
    by_reach d (inl less) here others = subst (λ (r : Part). r.reach ≡ whole_of r.known) (sym (others d (λ same. absurd (omega arith)))) (far.reach d less)
    by_reach d (inr same) here others = subst (λ e. (standing q e).reach ≡ whole_of (standing q e).known) (sym same) here

    by_once : (d : ℕ) → (d < c) ⊎ (d ≡ c) → (view_of start).share ≡ 2 ^ 62 → (standing start d).known.left ≡ true → (K : Column) → IsFound (standing p c) K → (standing start d).made ≡ 1
    by_once d (inl less) all left K found = far.once all d less left
    by_once d (inr same) all left K found =
        let was : (standing start c).known.left ≡ true = subst (λ e. (standing start e).known.left ≡ true) same left in
        let known : (standing p c).known ≡ (standing start c).known = (far.known c).closed was in
        let whole : K ≡ (standing p c).known = found.known.closed (ap (λ (k : Column). k.left) known ∙ was) in
        let gone : K.left ≡ true = ap (λ (k : Column). k.left) (whole ∙ known) ∙ was in
        let made : (standing p c).made ≡ 1 = found.made (far.share ∙ all) ∙ ap one_if gone in
        subst (λ e. (standing start e).made ≡ 1) (sym same) (sym (far.later c (omega arith)) ∙ made)

pub gone_all : (clients : ℕ) (table : FrameTable) (start pass : Pass) (c : ℕ) → GoneSoFar clients table start pass c → clients ≤ c → AllGone clients (view_of start) (view_of pass)
gone_all clients table start pass c far end =
    record { share = far.share; known = far.known; left = λ d below. far.left d (omega arith); reach = λ d below. far.reach d (omega arith) }

pub gone_once : (clients : ℕ) (table : FrameTable) (start pass : Pass) (c : ℕ) → GoneSoFar clients table start pass c → clients ≤ c → (view_of start).share ≡ 2 ^ 62 → (d : ℕ) → d < clients → (standing start d).known.left ≡ true → (standing start d).made ≡ 1
gone_once clients table start pass c far end all d below left = far.once all d (omega arith) left

pub out_pass : (clients : ℕ) (table : FrameTable) (p q : Pass) (c : ℕ) → IsServePass clients table p → IsPassOf table q → IsTakenOut c (view_of p) (view_of q) → IsServePass clients table q
out_pass clients table p q c pass is out = kept_pass clients table p q c pass is (taken_out c (view_of p) (view_of q) out)
