-- What a reader sees of the columns, and how far ahead of them its client's column is.
use Rattle.std.proofs.Common.{◌≡◌, ℕ, ◌+◌, ◌<◌, ◌≤◌, ◌⊎◌, Bool, true, false, List, [], ◌∷◌, length, refl, sym, ap, ap₂, subst, ◌∙◌, arith, inl, inr, ⊎_elim}
use Rattle.std.proofs.lemmas.List.{length-append}
use Rattle.std.proofs.lemmas.Bool.{cases_lt}
use Rattle.std.proofs.lemmas.Bool.Decides.{eqb_tells}
use Rattle.game_orders.specs.declared.order.Order.{Order}
use Rattle.game_orders.specs.declared.entry.Entry.TheVariants.{Play}
use Rattle.frame_core.specs.declared.put.Put.{Put}
use Rattle.frame_core.specs.declared.put.Put.TheVariants.{Fixed, Repeat, Conflict, Left, Ahead, Full}
use Rattle.frame_core.specs.declared.leaving.Leaving.{Leaving}
use Rattle.frame_core.specs.declared.ready.Ready.{Ready}
use Rattle.frame_core.specs.declared.ready.Ready.TheVariants.{Yes, NotYet, Over}
use Rattle.frame_core.specs.Column.{Column, after_answer, put_answer, put_column, left_column}
use Rattle.frame_core.specs.Grows.{GrowsTo}
use Rattle.frame_core.proofs.GrowsLemmas.{put_grows, left_grows}
use Rattle.frame_table.specs.declared.planned.Planned.{Planned}
use Rattle.frame_table.specs.declared.planned.Planned.TheVariants.{Free}
use Rattle.frame_table.specs.declared.seen.Seen.{Seen}
use Rattle.frame_table.specs.declared.view.View.{View}
use Rattle.frame_table.specs.Part.{Part, part_of, OthersStay}
use Rattle.frame_table.specs.Word.{whole_of}
use Rattle.frame_table.specs.Rule.{IsReach}
use Rattle.frame_table.specs.Steps.{IsFurther, known_after, loaded}
use Rattle.frame_table.specs.Calls.{HasSeen, MeansReadySeen, IsLater, IsLaterPart, Acted, PutsSo, LeavesSo, Unchanged}
use Rattle.match_net.specs.Sending.{Looks, LooksAtAll}
use Rattle.match_net.specs.Reading.{MayPlay, OnlyLearns}
use Rattle.match_net.specs.Ahead.{AreReady, IsWithin, MayGoOn, GoesOn, IsInStep, LooksAround, LooksAtOthers}
use Rattle.match_net.proofs.SendingLemmas.{looks_on, looks_seen, looks_still}

-- The other columns.
pub others_still : (c : ℕ) (view : View) → LooksAtOthers c view view
others_still c view = record { share = refl; marks = refl; parts = λ d apart. looks_still (part_of d view) }

pub others_stay_on : (c : ℕ) (old mid new : View) → LooksAtOthers c old mid → OthersStay c mid new → LooksAtOthers c old new
others_stay_on c old mid new first second =
    record {
      share = second.0 ∙ first.share;
      marks = second.1 ∙ first.marks;
      parts = λ d apart. subst (λ (p : Part). Looks (part_of d old) p) (sym (second.2 d apart)) (first.parts d apart);
    }

pub others_look_on : (c : ℕ) (old mid new : View) → LooksAtOthers c old mid → LooksAtAll mid new → LooksAtOthers c old new
others_look_on c old mid new first second =
    record {
      share = second.share ∙ first.share;
      marks = second.marks ∙ first.marks;
      parts = λ d apart. looks_on (part_of d old) (part_of d mid) (part_of d new) (first.parts d apart) (second.parts d);
    }

-- A reader that has learned may still play.
pub may_still : (old new : Part) → OnlyLearns old new → MayPlay old → MayPlay new
may_still old new learns may =
    record {
      planned = ap (λ (p : Part). p.planned) learns ∙ may.planned;
      feeds = ap (λ (p : Part). p.feeds) learns ∙ may.feeds;
    }

-- What was seen.
pub further_still : (seen : Seen) → IsFurther seen seen
further_still seen = record { plays = omega arith; left = λ left. refl }

pub further_on : (a b c : Seen) → IsFurther a b → IsFurther b c → IsFurther a c
further_on a b c first second =
    record {
      plays = let one = first.plays in let two = second.plays in omega (arith, one, two);
      left = λ left. let same = first.left left in second.left (ap (λ (s : Seen). s.left) same ∙ left) ∙ same;
    }

-- A look at one word.
pub seen_around :
    (c : ℕ) (old new : View) (seen : Seen) → (part_of c old).planned ≡ Free → OthersStay c old new →
    part_of c new ≡ loaded (part_of c old) seen → IsFurther (part_of c old).reach seen →
    GrowsTo (part_of c old).known (part_of c new).known → LooksAround c old new
seen_around c old new seen free others is further grows =
    record {
      all = record { share = others.0; marks = others.1; parts = looks };
      further = furthers;
      own = ap (λ (p : Part). p.known) is ∙ ap (λ (q : Planned). known_after q seen (part_of c old).known) free;
    }
  where
    looks : (d : ℕ) → Looks (part_of d old) (part_of d new)
    looks d =
        elim (eqb_tells d c) [
          | inl same ↦ subst (λ (x : ℕ). Looks (part_of x old) (part_of x new)) (sym same.1) (looks_seen (part_of c old) (part_of c new) seen is grows)
          | inr differ ↦ subst (λ (p : Part). Looks (part_of d old) p) (sym (others.2 d differ.1)) (looks_still (part_of d old))
        ]

    furthers : (d : ℕ) → IsFurther (part_of d old).reach (part_of d new).reach
    furthers d =
        elim (eqb_tells d c) [
          | inl same ↦ subst (λ (x : ℕ). IsFurther (part_of x old).reach (part_of x new).reach) (sym same.1)
              (subst (λ (s : Seen). IsFurther (part_of c old).reach s) (sym (ap (λ (p : Part). p.reach) is)) further)
          | inr differ ↦ subst (λ (p : Part). IsFurther (part_of d old).reach p.reach) (sym (others.2 d differ.1)) (further_still (part_of d old).reach)
        ]

-- A look at several words.
looks_later : (old new : Part) → IsLaterPart old new → Looks old new
looks_later old new later =
    ⊎_elim (λ same. subst (λ (p : Part). Looks old p) (sym same) (looks_still old)) (λ once. looks_seen old new new.reach once.0 later.known) later.exact

known_still : (old new : Part) → old.planned ≡ Free → IsLaterPart old new → new.known ≡ old.known
known_still old new free later =
    ⊎_elim (λ same. ap (λ (p : Part). p.known) same)
    (λ once. ap (λ (p : Part). p.known) once.0 ∙ ap (λ (q : Planned). known_after q new.reach old.known) free) later.exact

pub later_around : (c : ℕ) (old new : View) → (part_of c old).planned ≡ Free → IsLater old new → LooksAround c old new
later_around c old new free later =
    record {
      all = record { share = later.share; marks = later.marks; parts = λ d. looks_later (part_of d old) (part_of d new) (later.parts d) };
      further = λ d. furthers d;
      own = known_still (part_of c old) (part_of c new) free (later.parts c);
    }
  where
    furthers : (d : ℕ) → IsFurther (part_of d old).reach (part_of d new).reach
    furthers d = (later.parts d).further

pub around_still : (c : ℕ) (view : View) → LooksAround c view view
around_still c view =
    record {
      all = record { share = refl; marks = refl; parts = λ d. looks_still (part_of d view) };
      further = λ d. further_still (part_of d view).reach;
      own = refl;
    }

pub around_on : (c : ℕ) (old mid new : View) → LooksAround c old mid → LooksAround c mid new → LooksAround c old new
around_on c old mid new first second =
    record {
      all = record {
        share = second.all.share ∙ first.all.share;
        marks = second.all.marks ∙ first.all.marks;
        parts = λ d. looks_on (part_of d old) (part_of d mid) (part_of d new) (first.all.parts d) (second.all.parts d);
      };
      further = λ d. further_on (part_of d old).reach (part_of d mid).reach (part_of d new).reach (first.further d) (second.further d);
      own = second.own ∙ first.own;
    }

pub free_around : (c : ℕ) (old new : View) → LooksAround c old new → (part_of c old).planned ≡ Free → (part_of c new).planned ≡ Free
free_around c old new around free = ap (λ (p : Part). p.planned) (around.all.parts c).only ∙ free

pub may_around : (c : ℕ) (old new : View) → LooksAround c old new → MayPlay (part_of c old) → MayPlay (part_of c new)
may_around c old new around may = may_still (part_of c old) (part_of c new) (around.all.parts c).only may

-- Frames that were ready are.
seen_still : (a b : Seen) (n : ℕ) → IsFurther a b → HasSeen a n → HasSeen b n
seen_still a b n further (inl below) = inl (let more = further.plays in omega (arith, below, more))
seen_still a b n further (inr gone) = subst (λ (s : Seen). HasSeen s n) (sym (further.left gone.0)) (inr gone)

ready_on :
    (old new : View) (frames : ℕ) → length new.marks ≡ length old.marks →
    ((d : ℕ) → IsFurther (part_of d old).reach (part_of d new).reach) → AreReady old frames → AreReady new frames
ready_on old new frames same further ready = λ n below d is_there.
    seen_still (part_of d old).reach (part_of d new).reach n (further d) (ready n below d (omega (arith, same, is_there)))

seen_before : (seen : Seen) (frame n : ℕ) → n < frame + 1 → HasSeen seen frame → HasSeen seen n
seen_before seen frame n before (inl below) = inl (omega arith)
seen_before seen frame n before (inr gone) =
    elim (cases_lt n seen.plays) [ inl below ↦ inl below | inr past ↦ inr (gone.0, past) ]

ready_by : (view : View) (frame : ℕ) (answer : Ready) → (answer ≡ Yes) ⊎ (answer ≡ Over) → MeansReadySeen view frame answer → AreReady view (frame + 1)
ready_by view frame Yes is means = λ n before d is_there. seen_before (part_of d view).reach frame n before (means.0 d is_there)
ready_by view frame Over is means = λ n before d is_there. seen_before (part_of d view).reach frame n before (inr (means d is_there))
ready_by view frame (NotYet other) (inl is) means = absurd cc
ready_by view frame (NotYet other) (inr is) means = absurd cc

-- How far ahead the column is.
pub within_begun : (room c : ℕ) (view : View) → (part_of c view).known.plays ≡ [] → IsWithin room c view
within_begun room c view unplayed =
    record {
      ready = 0;
      are_ready = λ n below d is_there. absurd (omega (arith, below));
      within = let none = ap length unplayed in omega (arith, none);
    }

pub within_on : (room c : ℕ) (old new : View) → LooksAround c old new → IsWithin room c old → IsWithin room c new
within_on room c old new around near =
    record {
      ready = near.ready;
      are_ready = ready_on old new near.ready around.all.marks around.further near.are_ready;
      within = let same = ap (λ (k : Column). length k.plays) around.own in let few = near.within in omega (arith, same, few);
    }

pub step_begun : (lag c : ℕ) (view : View) → (part_of c view).known.plays ≡ [] → IsInStep lag c view
step_begun lag c view unplayed =
    record { near = within_begun (lag + 1) c view unplayed; seen = let none = ap length unplayed in omega (arith, none) }

seen_on :
    (c : ℕ) (old new : View) → LooksAround c old new → length (part_of c old).known.plays ≤ (part_of c old).reach.plays →
    length (part_of c new).known.plays ≤ (part_of c new).reach.plays
seen_on c old new around seen =
    let same = ap (λ (k : Column). length k.plays) around.own in
    let more = (around.further c).plays in
    omega (arith, same, seen, more)

pub step_on : (lag c : ℕ) (old new : View) → LooksAround c old new → IsInStep lag c old → IsInStep lag c new
step_on lag c old new around step =
    record { near = within_on (lag + 1) c old new around step.near; seen = seen_on c old new around step.seen }

-- Whether the reader may go on.
pub goes_few :
    (lag c plays : ℕ) (old new : View) → LooksAround c old new → length (part_of c old).known.plays ≤ (part_of c old).reach.plays →
    (part_of c new).reach.plays ≡ plays → plays ≤ lag → MayGoOn lag c new
goes_few lag c plays old new around seen is few =
    let known = seen_on c old new around seen in
    inl (record { ready = 0; are_ready = λ n below d is_there. absurd (omega (arith, below)); within = omega (arith, known, is, few) })

pub goes_ready :
    (lag c plays frame : ℕ) (old mid new : View) (answer : Ready) → LooksAround c old mid → LooksAround c mid new →
    length (part_of c old).known.plays ≤ (part_of c old).reach.plays → (part_of c mid).reach.plays ≡ plays → frame + lag + 1 ≡ plays →
    (answer ≡ Yes) ⊎ (answer ≡ Over) → MeansReadySeen new frame answer → MayGoOn lag c new
goes_ready lag c plays frame old mid new answer first second seen is at ready means =
    let known = seen_on c old mid first seen in
    let same = ap (λ (k : Column). length k.plays) second.own in
    inl (record { ready = frame + 1; are_ready = ready_by new frame answer ready means; within = omega (arith, known, same, is, at) })

pub goes_left :
    (lag c plays frame other : ℕ) (mid after new : View) (seen : Seen) (answer : Ready) → LooksAround c mid after → LooksAround c after new →
    OthersStay c after new → part_of c new ≡ loaded (part_of c after) seen →
    (part_of c mid).reach.plays ≡ plays → frame + lag + 1 ≡ plays → answer ≡ NotYet other → MeansReadySeen after frame answer →
    GoesOn lag c new seen.left
goes_left lag c plays frame other mid after new seen answer first second others is at_plays at answer_is means_any = by_left seen.left refl
  where
    means : MeansReadySeen after frame (NotYet other)
    means = subst (MeansReadySeen after frame) answer_is means_any

    reach_is : (part_of c new).reach ≡ seen
    reach_is = ap (λ (p : Part). p.reach) is

    apart_by : other ≡ c → ⊥
    apart_by same =
        let short : (part_of c after).reach.plays ≤ frame = subst (λ (x : ℕ). (part_of x after).reach.plays ≤ frame) same means.1.1 in
        let long = (first.further c).plays in
        absurd (omega (arith, short, long, at_plays, at))

    by_left : (left : Bool) → seen.left ≡ left → GoesOn lag c new left
    by_left true gone = inr (ap (λ (s : Seen). s.left) reach_is ∙ gone)
    by_left false stays =
        let one = (first.further c).plays in
        let two = (second.further c).plays in
        let marks = others.1 in
        let below = means.0 in
        record {
          frame = frame;
          beyond = omega (arith, one, two, at_plays, at);
          other = other;
          is_there = omega (arith, marks, below);
          apart = apart_by;
          missing = subst (λ (p : Part). (p.reach.left ≡ false) × (p.reach.plays ≤ frame)) (sym (others.2 other apart_by)) means.1;
          playing = ap (λ (s : Seen). s.left) reach_is ∙ stays;
        }

-- A call that changed the column.
grown_further : (K L : Column) (reach : Seen) → IsReach K reach → GrowsTo K L → IsFurther reach (whole_of L)
grown_further K L reach at grows =
    record {
      plays = let most = at.plays in let long = ap length grows.plays ∙ length-append K.plays grows.more in omega (arith, most, long);
      left = λ left.
          let gone = at.left left in
          ap whole_of (grows.closed gone.0) ∙ ap₂ (λ (n : ℕ) (b : Bool). record { plays = n; left = b }) (sym gone.1) (gone.0 ∙ sym left);
    }

module _ (c : ℕ) (old new : View) (K L : Column) (acted : Acted c old new K L) (grows : GrowsTo K L) where
  acted_reach : (part_of c new).reach ≡ whole_of L
  acted_reach = ap (λ (p : Part). p.reach) acted.part

  acted_known : (part_of c new).known ≡ L
  acted_known = ap (λ (p : Part). p.known) acted.part

  acted_further : (d : ℕ) → IsFurther (part_of d old).reach (part_of d new).reach
  acted_further d =
      elim (eqb_tells d c) [
        | inl same ↦ subst (λ (x : ℕ). IsFurther (part_of x old).reach (part_of x new).reach) (sym same.1)
            (subst (λ (s : Seen). IsFurther (part_of c old).reach s) (sym acted_reach) (grown_further K L (part_of c old).reach acted.found.reach grows))
        | inr differ ↦ subst (λ (p : Part). IsFurther (part_of d old).reach p.reach) (sym (acted.others.2 d differ.1)) (further_still (part_of d old).reach)
      ]

  acted_seen : length (part_of c new).known.plays ≤ (part_of c new).reach.plays
  acted_seen =
      let known = ap (λ (k : Column). length k.plays) acted_known in
      let reach = ap (λ (s : Seen). s.plays) acted_reach in
      omega (arith, known, reach)

  -- The column got so many plays more.
  acted_within : (room more : ℕ) → (part_of c old).feeds ≡ true → length L.plays ≤ length K.plays + more → IsWithin room c old → IsWithin (room + more) c new
  acted_within room more feeds few near =
      let all = ap length (acted.found.fed feeds).1 in
      let known = ap (λ (k : Column). length k.plays) acted_known in
      let within = near.within in
      record {
        ready = near.ready;
        are_ready = ready_on old new near.ready acted.others.1 acted_further near.are_ready;
        within = omega (arith, all, known, few, within);
      }

after_size : (answer : Put) (K : Column) (orders : List Order) → length (after_answer answer K (Play orders)).plays ≤ length K.plays + 1
after_size Fixed K orders = let long = length-append K.plays (orders ∷ []) in omega (arith, long)
after_size Repeat K orders = omega arith
after_size (Conflict kept) K orders = omega arith
after_size (Left at) K orders = omega arith
after_size (Ahead plays) K orders = omega arith
after_size Full K orders = omega arith

pub put_step :
    (lag c n : ℕ) (orders : List Order) (old new : View) (answer : Put) → MayPlay (part_of c old) →
    PutsSo c old new n (Play orders) answer → MayGoOn lag c old → IsInStep lag c old → IsInStep lag c new
put_step lag c n orders old new answer may puts goes step =
    let K = puts.0 in
    let L = put_column K n (Play orders) in
    record {
      near = by_goes goes;
      seen = acted_seen c old new K L puts.1 (put_grows K n (Play orders));
    }
  where
    grows : GrowsTo puts.0 (put_column puts.0 n (Play orders))
    grows = put_grows puts.0 n (Play orders)

    by_goes : MayGoOn lag c old → IsWithin (lag + 1) c new
    by_goes (inl near) =
        acted_within c old new puts.0 (put_column puts.0 n (Play orders)) puts.1 grows lag 1 may.feeds
        (after_size (put_answer puts.0 n (Play orders)) puts.0 orders) near
    by_goes (inr left) =
        let gone = puts.1.found.reach.left left in
        let same = ap (λ (k : Column). length k.plays) (grows.closed gone.0) in
        let none : lag + 1 + 0 ≡ lag + 1 = omega arith in
        subst (λ room. IsWithin room c new) none
        (acted_within c old new puts.0 (put_column puts.0 n (Play orders)) puts.1 grows (lag + 1) 0 may.feeds (omega (arith, same)) step.near)

pub unchanged_step : (lag c : ℕ) (old new : View) → length new.marks ≡ length old.marks → Unchanged old new → IsInStep lag c old → IsInStep lag c new
unchanged_step lag c old new long same step =
    record {
      near = record {
        ready = step.near.ready;
        are_ready = ready_on old new step.near.ready long (λ d. subst (λ (p : Part). IsFurther (part_of d old).reach p.reach) (sym (same.parts d)) (further_still (part_of d old).reach)) step.near.are_ready;
        within = subst (λ (p : Part). length p.known.plays ≤ step.near.ready + (lag + 1)) (sym (same.parts c)) step.near.within;
      };
      seen = subst (λ (p : Part). length p.known.plays ≤ p.reach.plays) (sym (same.parts c)) step.seen;
    }

pub left_within : (room c : ℕ) (old new : View) (answer : Leaving) → (part_of c old).feeds ≡ true → LeavesSo c old new answer → IsWithin room c old → IsWithin room c new
left_within room c old new answer feeds leaves near =
    let none : room + 0 ≡ room = omega arith in
    subst (λ more. IsWithin more c new) none
    (acted_within c old new leaves.0 (left_column leaves.0) leaves.1 (left_grows leaves.0) room 0 feeds (omega arith) near)
