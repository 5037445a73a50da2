-- The passes of links: how they are split off, and joined back.
use Rattle.std.proofs.Common.{◌≡◌, ◌≢◌, ℕ, zero, suc, ◌+◌, ◌-◌, ◌/◌, ◌^◌, ◌<◌, ◌⊎◌, Bool, true, false, List, [], ◌∷◌, ◌++◌, length, map, get_or, replicate, refl, sym, ap, ◌∙◌, subst, inl, inr, arith}
use Rattle.frame_core.specs.Column.{no_column}
use Rattle.frame_table.specs.declared.planned.Planned.{Planned}
use Rattle.frame_table.specs.declared.planned.Planned.TheVariants.{Free}
use Rattle.frame_table.specs.declared.view.View.{View}
use Rattle.frame_table.specs.declared.view.Mark.{Mark}
use Rattle.frame_table.specs.declared.pass.Pass.{Pass}
use Rattle.frame_table.specs.declared.table.FrameTable.{FrameTable}
use Rattle.frame_table.specs.Part.{Part, part_of, part_in, no_mark}
use Rattle.frame_table.specs.Passes.{known_in, kept_mark, given_mark, kept_marks, given_marks, kept_view, given_view, first_mark, first_view}
use Rattle.frame_table.proofs.PassesLemmas.{handed, first_at}
use Rattle.frame_table.specs.Calls.{plan_of, view_of, standing, IsPassOf}
use Rattle.match_serve.specs.Passes.{IsServePass, FixedNone, Feeds, IsOpening}

-- The pass of a new table.
free_at : (n c : ℕ) → c < n → get_or (replicate n Free) c Free ≡ Free
free_at zero c below = absurd (omega arith)
free_at (suc n) zero below = refl
free_at (suc n) (suc c) below = free_at n c (omega arith)

free_length : (n : ℕ) → length (replicate n Free) ≡ n
free_length zero = refl
free_length (suc n) = ap suc (free_length n)

replicate_push : (n : ℕ) → replicate n Free ++ Free ∷ [] ≡ replicate (suc n) Free
replicate_push zero = refl
replicate_push (suc n) = ap (λ l. Free ∷ l) (replicate_push n)

pub plan_more : (each after : List Planned) (n : ℕ) → each ≡ replicate n Free → after ≡ each ++ Free ∷ [] → after ≡ replicate (n + 1) Free
plan_more each after n is pushed = pushed ∙ ap (λ l. l ++ Free ∷ []) is ∙ replicate_push n ∙ ap (λ k. replicate k Free) (let one : suc n ≡ n + 1 = omega arith in one)

no_made : (marks : List Planned) (c : ℕ) → (get_or (map first_mark marks) c no_mark).made ≡ 0
no_made [] c = refl
no_made (p ∷ marks) zero = refl
no_made (p ∷ marks) (suc c) = no_made marks c

no_known : (marks : List Planned) (c : ℕ) → known_in (get_or (map first_mark marks) c no_mark) ≡ no_column
no_known [] c = refl
no_known (p ∷ marks) zero = refl
no_known (p ∷ marks) (suc c) = no_known marks c

pub first_opening : (clients : ℕ) (table : FrameTable) (pass : Pass) (plan : List Planned) → plan ≡ replicate clients Free → IsPassOf table pass → plan_of table ≡ plan → view_of pass ≡ first_view plan → IsOpening clients table 0 pass
first_opening clients table pass plan plan_is is of_plan first =
    let view : view_of pass ≡ first_view (replicate clients Free) = first ∙ ap first_view plan_is in
    let at : (c : ℕ) → c < clients → standing pass c ≡ part_in (2 ^ 62) (first_mark Free) =
    λ c below. ap (part_of c) view ∙ ap (part_in (2 ^ 62)) (first_at (replicate clients Free) c (let l = free_length clients in omega arith)) ∙ ap (λ p. part_in (2 ^ 62) (first_mark p)) (free_at clients c below) in
    record {
      is = record { of_table = is; count = ap length of_plan ∙ ap length plan_is ∙ free_length clients; free = λ c below. ap (λ (p : Part). p.planned) (at c below) };
      fixed_none = λ c. ap (λ (v : View). (part_of c v).made) view ∙ no_made (replicate clients Free) c;
      unknown = λ c. ap (λ (v : View). (part_of c v).known) view ∙ no_known (replicate clients Free) c;
      handed_over = λ c below. absurd (omega arith);
      feeds = λ c from below. ap (λ (p : Part). p.feeds) (at c below);
    }

pub first_share : (pass : Pass) (plan : List Planned) → view_of pass ≡ first_view plan → (view_of pass).share ≡ 2 ^ 62
first_share pass plan first = ap (λ (v : View). v.share) first

-- The first of the columns that a pass feeds is handed over.
feeds_at : Mark → Bool
feeds_at mark = mark.feeds

record HandsOver (marks : List Mark) (c : ℕ) : Type 0 where
  given : (get_or (given_marks marks) c no_mark).feeds ≡ true
  kept : (get_or (kept_marks marks) c no_mark).feeds ≡ false
  others : (d : ℕ) → d ≢ c → (get_or (kept_marks marks) d no_mark).feeds ≡ (get_or marks d no_mark).feeds
  none_else : (d : ℕ) → d < c → (get_or (given_marks marks) d no_mark).feeds ≡ false

hands_over : (marks : List Mark) (c : ℕ) → c < length marks → (get_or marks c no_mark).feeds ≡ true → ((d : ℕ) → d < c → (get_or marks d no_mark).feeds ≡ false) → HandsOver marks c
hands_over [] c below here before = absurd (omega arith)
hands_over (m ∷ marks) zero below here before =
    record {
      given = rw here refl;
      kept = rw here refl;
      others = later;
      none_else = λ d less. absurd (omega arith);
    }
  where
    later : (d : ℕ) → d ≢ 0 → (get_or (kept_marks (m ∷ marks)) d no_mark).feeds ≡ (get_or (m ∷ marks) d no_mark).feeds
    later zero apart = absurd (apart refl)
    later (suc d) apart = rw here refl
hands_over (m ∷ marks) (suc c) below here before =
    let rest = hands_over marks c (omega arith) here (λ d less. before (suc d) (omega arith)) in
    let first : m.feeds ≡ false = before 0 (omega arith) in
    record {
      given = rw first rest.given;
      kept = rw first rest.kept;
      others = later rest first;
      none_else = sooner rest first;
    }
  where
    later : HandsOver marks c → m.feeds ≡ false → (d : ℕ) → d ≢ suc c → (get_or (kept_marks (m ∷ marks)) d no_mark).feeds ≡ (get_or (m ∷ marks) d no_mark).feeds
    later rest first zero apart = rw first refl
    later rest first (suc d) apart = rw first (rest.others d (λ same. apart (ap suc same)))

    sooner : HandsOver marks c → m.feeds ≡ false → (d : ℕ) → d < suc c → (get_or (given_marks (m ∷ marks)) d no_mark).feeds ≡ false
    sooner rest first zero less = rw first refl
    sooner rest first (suc d) less = rw first (rest.none_else d (omega arith))

-- What a split leaves of the rest of a mark.
kept_rest : (b : Bool) (m : Mark) → ((kept_mark b m).planned ≡ m.planned) × ((kept_mark b m).made ≡ m.made) × (known_in (kept_mark b m) ≡ known_in m)
kept_rest true m = (refl, refl, refl)
kept_rest false m = (refl, refl, refl)

pub opening_feeds : (clients : ℕ) (table : FrameTable) (c : ℕ) (p : Pass) → c < clients → IsOpening clients table c p → Feeds clients table c p
opening_feeds clients table c p below opening =
    record { is = opening.is; fixed_none = opening.fixed_none; unknown = opening.unknown; handed_over = opening.handed_over; feeds_it = opening.feeds c (omega arith) below }

module _ (clients : ℕ) (table : FrameTable) (p q r : Pass) (c : ℕ) (below : c < clients) (opening : Feeds clients table c p) (of_q : IsPassOf table q) (kept : view_of q ≡ kept_view (view_of p)) (of_r : IsPassOf table r) (given : view_of r ≡ given_view (view_of p)) where
  hands : HandsOver (view_of p).marks c
  hands = hands_over (view_of p).marks c (let l = opening.is.of_table.marks in let m = opening.is.count in omega arith)
      opening.feeds_it (λ d less. opening.handed_over d less)

  kept_here : (d : ℕ) → ((standing q d).planned ≡ (standing p d).planned) × ((standing q d).made ≡ (standing p d).made) × ((standing q d).known ≡ (standing p d).known)
  kept_here d =
      let h = handed (view_of p).marks d in
      let v = view_of p in
      let part : standing q d ≡ part_in (v.share - v.share / 2) (kept_mark h.0 (get_or v.marks d no_mark)) = ap (part_of d) kept ∙ ap (part_in (v.share - v.share / 2)) h.1.0 in
      let same = kept_rest h.0 (get_or v.marks d no_mark) in
      (ap (λ (x : Part). x.planned) part ∙ same.0, ap (λ (x : Part). x.made) part ∙ same.1, ap (λ (x : Part). x.known) part ∙ same.2)

  given_here : (d : ℕ) → ((standing r d).planned ≡ (standing p d).planned) × ((standing r d).made ≡ 0) × ((standing r d).known ≡ (standing p d).known)
  given_here d =
      let h = handed (view_of p).marks d in
      let v = view_of p in
      let part : standing r d ≡ part_in (v.share / 2) (given_mark h.0 (get_or v.marks d no_mark)) = ap (part_of d) given ∙ ap (part_in (v.share / 2)) h.1.1 in
      (ap (λ (x : Part). x.planned) part, ap (λ (x : Part). x.made) part, ap (λ (x : Part). x.known) part)

  pub kept_serves : IsServePass clients table q
  kept_serves = record { of_table = of_q; count = opening.is.count; free = λ d less. (kept_here d).0 ∙ opening.is.free d less }

  pub given_serves : IsServePass clients table r
  given_serves = record { of_table = of_r; count = opening.is.count; free = λ d less. (given_here d).0 ∙ opening.is.free d less }

  pub kept_fixed : FixedNone (view_of q)
  kept_fixed d = (kept_here d).1 ∙ opening.fixed_none d

  pub given_fixed : FixedNone (view_of r)
  given_fixed d = (given_here d).1

  kept_feeds : (d : ℕ) → (standing q d).feeds ≡ (get_or (kept_marks (view_of p).marks) d no_mark).feeds
  kept_feeds d = ap (λ (v : View). (part_of d v).feeds) kept

  given_feeds : (d : ℕ) → (standing r d).feeds ≡ (get_or (given_marks (view_of p).marks) d no_mark).feeds
  given_feeds d = ap (λ (v : View). (part_of d v).feeds) given

  pub kept_opening : IsOpening clients table c p → IsOpening clients table (c + 1) q
  kept_opening whole =
      record {
        is = kept_serves;
        fixed_none = kept_fixed;
        unknown = λ d. (kept_here d).2 ∙ opening.unknown d;
        handed_over = λ d less. passed d (before_or_at d less);
        feeds = λ d from less. kept_feeds d ∙ hands.others d (λ same. absurd (omega arith)) ∙ whole.feeds d (omega arith) less;
      }
    where
      before_or_at : (d : ℕ) → d < c + 1 → (d < c) ⊎ (d ≡ c)
      before_or_at d less = grind arith

      passed : (d : ℕ) → (d < c) ⊎ (d ≡ c) → (standing q d).feeds ≡ false
      passed d (inl less) = kept_feeds d ∙ hands.others d (λ same. absurd (omega arith)) ∙ opening.handed_over d less
      passed d (inr same) = subst (λ e. (standing q e).feeds ≡ false) (sym same) (kept_feeds c ∙ hands.kept)

  -- The new pass feeds column c, and none before it.
  pub given_first : Feeds clients table c r
  given_first =
      record {
        is = given_serves;
        fixed_none = given_fixed;
        unknown = λ d. (given_here d).2 ∙ opening.unknown d;
        handed_over = λ d less. given_feeds d ∙ hands.none_else d less;
        feeds_it = given_feeds c ∙ hands.given;
      }

-- Any pass that is split.
module _ (clients : ℕ) (table : FrameTable) (p q r : Pass) (is : IsServePass clients table p) where
  pub kept_still : IsPassOf table q → view_of q ≡ kept_view (view_of p) → IsServePass clients table q
  kept_still of_q kept =
      record {
        of_table = of_q;
        count = is.count;
        free = λ d below.
            let h = handed (view_of p).marks d in
            let v = view_of p in
            let part : standing q d ≡ part_in (v.share - v.share / 2) (kept_mark h.0 (get_or v.marks d no_mark)) = ap (part_of d) kept ∙ ap (part_in (v.share - v.share / 2)) h.1.0 in
            ap (λ (x : Part). x.planned) part ∙ (kept_rest h.0 (get_or v.marks d no_mark)).0 ∙ is.free d below;
      }

  pub given_still : IsPassOf table r → view_of r ≡ given_view (view_of p) → IsServePass clients table r
  given_still of_r given =
      record {
        of_table = of_r;
        count = is.count;
        free = λ d below.
            let h = handed (view_of p).marks d in
            let v = view_of p in
            let part : standing r d ≡ part_in (v.share / 2) (given_mark h.0 (get_or v.marks d no_mark)) = ap (part_of d) given ∙ ap (part_in (v.share / 2)) h.1.1 in
            ap (λ (x : Part). x.planned) part ∙ is.free d below;
      }

  pub kept_made : view_of q ≡ kept_view (view_of p) → (d : ℕ) → (standing q d).made ≡ (standing p d).made
  kept_made kept d =
      let h = handed (view_of p).marks d in
      let v = view_of p in
      let part : standing q d ≡ part_in (v.share - v.share / 2) (kept_mark h.0 (get_or v.marks d no_mark)) = ap (part_of d) kept ∙ ap (part_in (v.share - v.share / 2)) h.1.0 in
      ap (λ (x : Part). x.made) part ∙ (kept_rest h.0 (get_or v.marks d no_mark)).1

  pub given_made : view_of r ≡ given_view (view_of p) → FixedNone (view_of r)
  given_made given d =
      let h = handed (view_of p).marks d in
      let v = view_of p in
      let part : standing r d ≡ part_in (v.share / 2) (given_mark h.0 (get_or v.marks d no_mark)) = ap (part_of d) given ∙ ap (part_in (v.share / 2)) h.1.1 in
      ap (λ (x : Part). x.made) part
