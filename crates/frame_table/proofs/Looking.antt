-- Looking at the columns' words one after the other.
use Rattle.std.proofs.Common.{◌≡◌, ℕ, zero, suc, ◌+◌, ◌<◌, ◌≤◌, nat_lt, Bool, true, false, true≢false, if◌then◌else◌, List, [], ◌∷◌, ◌++◌, length, map, get_or, take, drop, refl, sym, ap, ap₂, ◌∙◌, subst, inl, inr, arith, append_assoc, append-nil, Some}
use Rattle.std.proofs.lemmas.Bool.Decides.{nat_tests}
use native.Mathlib.Decide.{ℕ_discrete}
use mathlib.Core.Logic.{dite}
use Rattle.game_orders.specs.declared.limits.TheConstants.{MAX_FRAMES}
use Rattle.frame_core.specs.declared.input.Input.{Input}
use Rattle.frame_core.specs.declared.input.Input.TheVariants.{Missing, Played, Departed}
use Rattle.frame_core.specs.declared.ready.Ready.TheVariants.{Yes, NotYet, Over}
use Rattle.std.specs.Prelude.{slice_get}
use Rattle.frame_core.specs.declared.ready.Ready.{Ready}
use Rattle.frame_core.specs.Input.{ready_of, ready_from, MeansInput}
use Rattle.frame_core.proofs.InputLemmas.{ready_means}
use Rattle.frame_table.specs.declared.seen.Seen.{Seen}
use Rattle.frame_table.specs.declared.view.View.{View}
use Rattle.frame_table.specs.declared.view.Mark.{Mark}
use Rattle.frame_table.specs.Part.{Part, part_of, no_mark, OthersStay}
use Rattle.frame_core.specs.Grows.{GrowsTo}
use Rattle.frame_core.proofs.GrowsLemmas.{GrowsTo-refl}
use Rattle.frame_table.specs.Steps.{IsFurther, loaded, IsWithinPlan}
use Rattle.frame_table.specs.Calls.{input_seen, inputs_seen, ready_seen, IsLater, IsLaterPart, LookedSoFar, SawPlay, SawLeave, SawNothing, MeansReadySeen}

module _ (f : Mark → Input) where
  takes_same : (xs ys : List Mark) (c : ℕ) → length ys ≡ length xs → ((d : ℕ) → d < c → f (get_or ys d no_mark) ≡ f (get_or xs d no_mark)) → take c (map f ys) ≡ take c (map f xs)
  takes_same xs ys zero long same = refl
  takes_same [] [] (suc c) long same = refl
  takes_same [] (y ∷ ys) (suc c) long same = absurd (omega arith)
  takes_same (x ∷ xs) [] (suc c) long same = absurd (omega arith)
  takes_same (x ∷ xs) (y ∷ ys) (suc c) long same = ap₂ (λ h t. h ∷ t) (same 0 (omega arith)) (takes_same xs ys c (omega arith) (λ d below. same (suc d) (omega arith)))

  take_next : (xs : List Mark) (c : ℕ) → c < length xs → take (suc c) (map f xs) ≡ take c (map f xs) ++ f (get_or xs c no_mark) ∷ []
  take_next [] c below = absurd (omega arith)
  take_next (x ∷ xs) zero below = refl
  take_next (x ∷ xs) (suc c) below = ap (λ l. f x ∷ l) (take_next xs c (omega arith))

  cut_at : (xs : List Mark) (c : ℕ) → c < length xs → map f xs ≡ take c (map f xs) ++ f (get_or xs c no_mark) ∷ drop (suc c) (map f xs)
  cut_at [] c below = absurd (omega arith)
  cut_at (x ∷ xs) zero below = refl
  cut_at (x ∷ xs) (suc c) below = ap (λ l. f x ∷ l) (cut_at xs c (omega arith))

  take_whole : (xs : List Mark) (c : ℕ) → c ≡ length xs → take c (map f xs) ≡ map f xs
  take_whole [] zero is = refl
  take_whole [] (suc c) is = absurd (omega arith)
  take_whole (x ∷ xs) zero is = absurd (omega arith)
  take_whole (x ∷ xs) (suc c) is = ap (λ l. f x ∷ l) (take_whole xs c (omega arith))

further_refl : (a : Seen) → IsFurther a a
further_refl a = record { plays = omega arith; left = λ _. refl }

later_refl : (p : Part) → IsLaterPart p p
later_refl p = record { exact = inl refl; further = further_refl p.reach; known = GrowsTo-refl p.known }

later_loaded : (p : Part) (seen : Seen) → IsFurther p.reach seen → GrowsTo p.known (loaded p seen).known → IsWithinPlan p.planned seen → IsLaterPart p (loaded p seen)
later_loaded p seen further grows planned = record { exact = inr (refl, planned); further = further; known = grows }

-- nothing was looked at yet
pub looked_none : (view : View) (n : ℕ) → LookedSoFar view view n 0 false
looked_none view n =
    record {
      later = record { share = refl; marks = refl; parts = λ c. later_refl (part_of c view) };
      rest = λ d from. refl;
      ready = λ rest. refl;
      limit = λ no. absurd (true≢false (sym no));
    }

module _ (old now next : View) (n c : ℕ) (played : Bool) (seen : Seen) (looked : LookedSoFar old now n c played) (below : c < length now.marks) (others : OthersStay c now next) (part : part_of c next ≡ loaded (part_of c now) seen) (further : IsFurther (part_of c now).reach seen) (grows : GrowsTo (part_of c now).known (part_of c next).known) (planned : IsWithinPlan (part_of c now).planned seen) where
  abbrev tells : Mark → Input
  tells m = input_seen m.reach n

  pub later_next : IsLater old next
  later_next =
      record {
        share = others.0 ∙ looked.later.share;
        marks = others.1 ∙ looked.later.marks;
        parts = λ d. dite (ℕ_discrete d c)
            (λ is. subst (λ e. IsLaterPart (part_of e old) (part_of e next)) (sym is) (subst (λ q. IsLaterPart q (part_of c next)) (looked.rest c (omega arith)) (subst (IsLaterPart (part_of c now)) (sym part) (later_loaded (part_of c now) seen further (subst (λ (r : Part). GrowsTo (part_of c now).known r.known) part grows) planned))))
            (λ apart. subst (IsLaterPart (part_of d old)) (sym (others.2 d apart)) (looked.later.parts d));
      }

  before_same : take c (inputs_seen next n) ≡ take c (inputs_seen now n)
  before_same = takes_same tells now.marks next.marks c others.1 (λ d before. ap (λ (p : Part). input_seen p.reach n) (others.2 d (λ same. absurd (omega arith))))

  here : tells (get_or next.marks c no_mark) ≡ input_seen seen n
  here = ap (λ (p : Part). input_seen p.reach n) part

  -- one column more was looked at, which has something for the frame
  pub looked_next : (x : Input) (now_played : Bool) → input_seen seen n ≡ x → ((rest : List Input) → ready_from c played (x ∷ rest) ≡ ready_from (c + 1) now_played rest) → (now_played ≡ true → n < MAX_FRAMES) → LookedSoFar old next n (c + 1) now_played
  looked_next x now_played is steps limit =
      record {
        later = later_next;
        rest = λ d from. others.2 d (λ same. absurd (omega arith)) ∙ looked.rest d (omega arith);
        ready = λ rest.
            ap (λ k. ready_of (take k (inputs_seen next n) ++ rest)) (let one : c + 1 ≡ suc c = omega arith in one)
            ∙ ap (λ l. ready_of (l ++ rest)) (take_next tells next.marks c (let l = others.1 in omega arith) ∙ ap₂ (λ l y. l ++ y ∷ []) before_same (here ∙ is))
            ∙ ap ready_of (append_assoc (take c (inputs_seen now n)) (x ∷ []) rest)
            ∙ looked.ready (x ∷ rest)
            ∙ steps rest;
        limit = limit;
      }

  pub missing_here : input_seen seen n ≡ Missing → ready_seen next n ≡ NotYet c
  missing_here is =
      ap ready_of (cut_at tells next.marks c (let l = others.1 in omega arith))
      ∙ ap₂ (λ l y. ready_of (l ++ y ∷ drop (suc c) (inputs_seen next n))) before_same (here ∙ is)
      ∙ looked.ready (Missing ∷ drop (suc c) (inputs_seen next n))

  pub loaded_more : (part_of c old).loads < (part_of c next).loads
  loaded_more = let l : (part_of c now).loads ≡ (part_of c old).loads = ap (λ (p : Part). p.loads) (looked.rest c (omega arith)) in let m : (part_of c next).loads ≡ (part_of c now).loads + 1 = ap (λ (p : Part). p.loads) part in omega arith

-- all columns were looked at
pub looked_all : (old now : View) (n c : ℕ) (played : Bool) → LookedSoFar old now n c played → c ≡ length now.marks → ready_seen now n ≡ (if played then Yes else Over)
looked_all old now n c played looked all =
    ap ready_of (sym (append-nil (inputs_seen now n)) ∙ ap (λ l. l ++ []) (sym (take_whole (λ (m : Mark). input_seen m.reach n) now.marks c all)))
    ∙ looked.ready []

played_before : (seen : Seen) (n : ℕ) → input_seen seen n ≡ Played → n < seen.plays
played_before seen n is = by (nat_lt n seen.plays) refl
  where
    other : (left : Bool) → (if left then Departed else Missing) ≡ Played → ⊥
    other true = λ never. cc
    other false = λ never. cc

    by : (b : Bool) → nat_lt n seen.plays ≡ b → n < seen.plays
    by true yes_it_is = grind (arith, nat_tests, yes_it_is)
    by false past = absurd (other seen.left (ap (λ b. if b then Played else (if seen.left then Departed else Missing)) (sym past) ∙ is))

module _ (old now next : View) (n c : ℕ) (played : Bool) (seen : Seen) (looked : LookedSoFar old now n c played) (below : c < length now.marks) (others : OthersStay c now next) (part : part_of c next ≡ loaded (part_of c now) seen) (further : IsFurther (part_of c now).reach seen) (grows : GrowsTo (part_of c now).known (part_of c next).known) (planned : IsWithinPlan (part_of c now).planned seen) where
  pub looked_played : (x : Input) → x ≡ input_seen seen n → x ≡ Played → seen.plays ≤ MAX_FRAMES → (after : Bool) → after ≡ true → LookedSoFar old next n (c + 1) after
  looked_played x is plays limit after now_is =
      subst (LookedSoFar old next n (c + 1)) (sym now_is)
      (looked_next old now next n c played seen looked below others part further grows planned Played true (sym is ∙ plays) (λ rest. refl)
      (λ _. let before = played_before seen n (sym is ∙ plays) in omega arith))

  pub looked_departed : (x : Input) → x ≡ input_seen seen n → x ≡ Departed → (after : Bool) → after ≡ played → LookedSoFar old next n (c + 1) after
  looked_departed x is departed after now_is =
      subst (LookedSoFar old next n (c + 1)) (sym now_is)
      (looked_next old now next n c played seen looked below others part further grows planned Departed played (sym is ∙ departed) (λ rest. refl) looked.limit)

  pub not_yet : (x : Input) → x ≡ input_seen seen n → x ≡ Missing → NotYet c ≡ ready_seen next n
  not_yet x is missing = sym (missing_here old now next n c played seen looked below others part further grows planned (sym is ∙ missing))

mapped_at : {A B : Type 0} (f : A → B) (xs : List A) (c : ℕ) (d : A) (y : B) → slice_get (map f xs) c ≡ Some y → f (get_or xs c d) ≡ y
mapped_at f [] c d y at = absurd cc
mapped_at f (x ∷ xs) zero d y at = cc
mapped_at f (x ∷ xs) (suc c) d y at = mapped_at f xs c d y at

not_below : (n m : ℕ) → nat_lt n m ≡ false → m ≤ n
not_below n m is = grind (arith, nat_tests, is)

module _ (view : View) (n : ℕ) where
  input_means : (c : ℕ) (seen : Seen) (input : Input) → (part_of c view).reach ≡ seen → input_seen seen n ≡ input → MeansInput (SawPlay view n) (SawLeave view n) (SawNothing view n) c input
  input_means c seen input here is = by (nat_lt n seen.plays) refl
    where
      gone : (left : Bool) → seen.left ≡ left → seen.plays ≤ n → MeansInput (SawPlay view n) (SawLeave view n) (SawNothing view n) c (if left then Departed else Missing)
      gone true departed past = (ap (λ (s : Seen). s.left) here ∙ departed, subst (λ (s : Seen). s.plays ≤ n) (sym here) past)
      gone false playing past = (ap (λ (s : Seen). s.left) here ∙ playing, subst (λ (s : Seen). s.plays ≤ n) (sym here) past)

      by : (b : Bool) → nat_lt n seen.plays ≡ b → MeansInput (SawPlay view n) (SawLeave view n) (SawNothing view n) c input
      by true below = subst (MeansInput (SawPlay view n) (SawLeave view n) (SawNothing view n) c) (sym (ap (λ b. if b then Played else (if seen.left then Departed else Missing)) below) ∙ is) (subst (λ (s : Seen). n < s.plays) (sym here) (grind (arith, nat_tests, below)))
      by false past = subst (MeansInput (SawPlay view n) (SawLeave view n) (SawNothing view n) c) (sym (ap (λ b. if b then Played else (if seen.left then Departed else Missing)) past) ∙ is) (gone seen.left refl (not_below n seen.plays past))

  -- what the answer means
  pub seen_means : (answer : Ready) → answer ≡ ready_seen view n → MeansReadySeen view n answer
  seen_means answer is =
      subst (MeansReadySeen view n) (sym is)
      (ready_means (SawPlay view n) (SawLeave view n) (SawNothing view n) (inputs_seen view n) (length view.marks)
      (mapped_length view.marks)
      (λ c input at. input_means c (get_or view.marks c no_mark).reach input refl (mapped_at (λ (m : Mark). input_seen m.reach n) view.marks c no_mark input at)))
    where
      mapped_length : (ms : List Mark) → length ms ≡ length (map (λ (m : Mark). input_seen m.reach n) ms)
      mapped_length [] = refl
      mapped_length (m ∷ ms) = ap suc (mapped_length ms)
