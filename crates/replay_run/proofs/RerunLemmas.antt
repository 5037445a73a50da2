-- A replay gone over part by part, from a frame on, gives what it is.
use Rattle.std.specs.Prelude.{◌≡◌, ℕ, zero, suc, ◌+◌, ◌-◌, ◌≤◌, ◌==◌, nat_le, Bool, true}
use Rattle.std.specs.Prelude.{false}
use Rattle.std.specs.Prelude.{List, [], ◌∷◌, length, drop, slice_get}
use Rattle.std.specs.Prelude.{Option, Some, None, unwrap_or}
use Rattle.std.specs.List.{AllByRecursion, filter}
use Rattle.std.proofs.Common.{refl, sym, ap, ap₂, subst, ◌∙◌, arith, add-one}
use Rattle.std.proofs.lemmas.Bool.Decides.{nat_tests}
use Rattle.game_orders.specs.declared.entry.Entry.{Entry}
use Rattle.game_orders.specs.declared.limits.TheConstants.{MAX_FRAMES}
use Rattle.frame_core.specs.Fold.{folded}
use Rattle.frame_core.proofs.FoldLemmas.{folded_same, folded_step}
use Rattle.replay_file.specs.declared.part.Part.{Part}
use Rattle.replay_file.specs.declared.part.Part.TheVariants.{Frame, Mark}
use Rattle.replay_file.specs.declared.replay.Replay.{Replay}
use Rattle.replay_file.specs.Frames.{frames_of, marks_after, marks_of}
use Rattle.replay_file.specs.RuleLaws.{IsFrameOf}
use Rattle.replay_file.proofs.SoFarLemmas.{few_frames}
use Rattle.replay_file.proofs.ValidLemmas.{valid_obeys}
use Rattle.replay_file.specs.ValidReplay.{IsValidReplay}
use Rattle.replay_run.specs.declared.difference.Difference.{Difference}
use Rattle.replay_run.specs.declared.replayed.Replayed.{Replayed}
use Rattle.replay_run.specs.Passing.{compared, first_of, passed, FitsPass}
use Rattle.replay_run.specs.Rerun.{Rerun, frame_in, world_in, mark_hash, hash_in}
use Rattle.replay_run.specs.Rerun.{first_difference, difference_of, frame_count}
use Rattle.replay_run.specs.Rerun.{replayed, world_from, hash_from, marks_from, difference_from}
use Rattle.replay_run.specs.Rerun.{replayed_from}
use Rattle.replay_run.specs.Skipping.{IsSkipped}

-- Of a replay, run from a frame on, the parts so far gave this, and the others are left.
pub record IsSoFar {W : Type 0}
    (run : Rerun W) (from : ℕ) (r : Replay) (left : List Part) (so_far : Replayed W)
    : Type 0 where
  pub reached : from ≤ so_far.frames
  pub frames : drop so_far.frames (frames_of r.parts) ≡ frames_of left
  pub count : so_far.frames + length (frames_of left) ≡ frame_count r
  pub world : so_far.world ≡ world_from run from r.parts so_far.frames
  pub difference :
      first_of so_far.difference
      (first_difference (hash_from run from r) (marks_after so_far.frames left))
      ≡ difference_from run from r
  pub each : AllByRecursion (IsFrameOf r.clients) (frames_of left)
  pub few : frame_count r ≤ MAX_FRAMES

each_after :
    {X : Type 0} (P : X → Type 0) (n : ℕ) (xs : List X) → AllByRecursion P xs →
    AllByRecursion P (drop n xs)
each_after P zero xs all = all
each_after P (suc n) [] all = all
each_after P (suc n) (x ∷ xs) all = each_after P n xs all.1

-- The marks after so many frames have so many before them.
pub kept_marks :
    (from n : ℕ) (parts : List Part) → from ≤ n →
    filter (λ mark. nat_le from mark.0) (marks_after n parts) ≡ marks_after n parts
kept_marks from n [] few = refl
kept_marks from n (Frame entries ∷ parts) few =
    kept_marks from (n + 1) parts (omega (arith, few))
kept_marks from n (Mark hash ∷ parts) few =
    let test : nat_le from n ≡ true = grind (arith, nat_tests) in
    rw test (ap (λ (marks : List (ℕ × ℕ)). (n, hash) ∷ marks) (kept_marks from n parts few))

pub few_in_all : (r : Replay) → IsValidReplay r → frame_count r ≤ MAX_FRAMES
few_in_all r valid =
    let obeys = valid_obeys r valid in
    omega (arith, obeys.few, few_frames r.version)

-- Where nothing is skipped all parts are left.
pub skips_none : (r : Replay) (left : List Part) → left ≡ r.parts → IsSkipped r 0 0 left
skips_none r left all =
    let here : IsSkipped r 0 0 r.parts =
    record { frames = refl; count = omega arith; marks = refl } in
    subst (IsSkipped r 0 0) (sym all) here

-- The world where the run begins.
start_from :
    {W : Type 0} (run : Rerun W) (from : ℕ) (parts : List Part) →
    world_from run from parts from ≡ run.start
start_from run from parts =
    let none : from - from ≡ 0 = omega arith in
    ap (folded run.after run.start (λ k. frame_in parts (from + k))) none

-- Nothing was gone over yet but what is skipped.
pub begins :
    {W : Type 0} (run : Rerun W) (from : ℕ) (r : Replay) (left : List Part)
    (so_far : Replayed W) → IsValidReplay r → IsSkipped r from from left →
    so_far.difference ≡ None → so_far.frames ≡ from → so_far.world ≡ run.start →
    IsSoFar run from r left so_far
begins run from r left so_far valid skipped none at world =
    let obeys = valid_obeys r valid in
    let marks : marks_after from left ≡ marks_from from r.parts =
    sym (kept_marks from from left (omega arith)) ∙ skipped.marks in
    record {
      reached = omega (arith, at);
      frames = ap (λ (n : ℕ). drop n (frames_of r.parts)) at ∙ skipped.frames;
      count = omega (arith, at, skipped.count);
      world =
          world ∙ sym (start_from run from r.parts) ∙ ap (world_from run from r.parts) (sym at);
      difference =
          ap₂ (λ (d : Option Difference) (n : ℕ).
          first_of d (first_difference (hash_from run from r) (marks_after n left))) none at
          ∙ ap (first_difference (hash_from run from r)) marks;
      each =
          subst (AllByRecursion (IsFrameOf r.clients)) skipped.frames
          (each_after (IsFrameOf r.clients) from (frames_of r.parts) obeys.each);
      few = few_in_all r valid;
    }

-- One frame further is one step more.
world_on :
    {W : Type 0} (run : Rerun W) (from n : ℕ) (parts : List Part) → from ≤ n →
    world_from run from parts (n + 1)
    ≡ run.after (world_from run from parts n) (frame_in parts n)
world_on run from n parts reached =
    let frames : ℕ → List Entry = λ k. frame_in parts (from + k) in
    let count : (n + 1) - from ≡ (n - from) + 1 = omega (arith, reached) in
    let here : from + (n - from) ≡ n = omega (arith, reached) in
    ap (folded run.after run.start frames) count
    ∙ folded_step run.after run.start frames (n - from)
    ∙ ap (λ (k : ℕ). run.after (folded run.after run.start frames (n - from)) (frame_in parts k))
    here

-- The first of the frames that are left.
pub next_frame :
    (xs : List (List Entry)) (n : ℕ) (x : List Entry) (rest : List (List Entry)) →
    drop n xs ≡ x ∷ rest →
    (slice_get xs n ≡ Some x) × (drop (n + 1) xs ≡ rest)
next_frame [] zero x rest is = absurd cc
next_frame [] (suc n) x rest is = absurd cc
next_frame (y ∷ xs) zero x rest is =
    let first : y ≡ x = cc in
    let others : xs ≡ rest = cc in
    (ap (λ (e : List Entry). Some e) first, others)
next_frame (y ∷ xs) (suc n) x rest is =
    let more = next_frame xs n x rest is in
    let after : drop (n + 1) xs ≡ drop (suc n) xs =
    ap (λ (k : ℕ). drop k xs) (add-one n) in
    let whole : drop (suc n + 1) (y ∷ xs) ≡ drop (suc n) xs =
    ap (λ (k : ℕ). drop k (y ∷ xs)) (add-one (suc n)) in
    (more.0, whole ∙ sym after ∙ more.1)

-- A frame is gone over.
frame_passed :
    {W : Type 0} (run : Rerun W) (from : ℕ) (r : Replay) (left : List Part) (entries : List Entry)
    (so_far : Replayed W) (hash : W → ℕ) → IsSoFar run from r (Frame entries ∷ left) so_far →
    IsSoFar run from r left (passed run.after hash so_far (Frame entries))
frame_passed run from r left entries so_far hash is =
    let next = next_frame (frames_of r.parts) so_far.frames entries (frames_of left) is.frames in
    let frame : frame_in r.parts so_far.frames ≡ entries =
    ap (λ (o : Option (List Entry)). unwrap_or o []) next.0 in
    record {
      reached = omega (arith, is.reached);
      frames = next.1;
      count = omega (arith, is.count);
      world =
          ap₂ run.after is.world (sym frame)
          ∙ sym (world_on run from so_far.frames r.parts is.reached);
      difference = is.difference;
      each = is.each.1;
      few = is.few;
    }

pub first_of_assoc :
    (a b c : Option Difference) → first_of (first_of a b) c ≡ first_of a (first_of b c)
first_of_assoc None b c = refl
first_of_assoc (Some d) b c = refl

-- The first difference of a mark and others.
pub difference_cons :
    (hash_at : ℕ → ℕ) (frames file : ℕ) (marks : List (ℕ × ℕ)) →
    first_difference hash_at ((frames, file) ∷ marks)
    ≡ first_of (compared frames file (hash_at frames)) (first_difference hash_at marks)
difference_cons hash_at frames file marks = by_test (file == hash_at frames) refl
  where
    by_test :
        (same : Bool) → (file == hash_at frames) ≡ same →
        first_difference hash_at ((frames, file) ∷ marks)
        ≡ first_of (compared frames file (hash_at frames)) (first_difference hash_at marks)
    by_test true is = rw is refl
    by_test false is = rw is refl

-- A mark is gone over.
mark_passed :
    {W : Type 0} (run : Rerun W) (from : ℕ) (r : Replay) (left : List Part) (file : ℕ) (so_far : Replayed W) →
    IsSoFar run from r (Mark file ∷ left) so_far →
    IsSoFar run from r left (passed run.after (mark_hash run r.version) so_far (Mark file))
mark_passed run from r left file so_far is =
    let hash_at = hash_from run from r in
    let others = first_difference hash_at (marks_after so_far.frames left) in
    let here : mark_hash run r.version so_far.world ≡ hash_at so_far.frames =
    ap (mark_hash run r.version) is.world in
    record {
      reached = is.reached;
      frames = is.frames;
      count = is.count;
      world = is.world;
      difference =
          first_of_assoc so_far.difference
          (compared so_far.frames file (mark_hash run r.version so_far.world)) others
          ∙ ap (first_of so_far.difference)
          (ap (λ (hash : ℕ). first_of (compared so_far.frames file hash) others) here
          ∙ sym (difference_cons hash_at so_far.frames file
          (marks_after so_far.frames left)))
          ∙ is.difference;
      each = is.each;
      few = is.few;
    }

-- A part is gone over.
pub one_passed :
    {W : Type 0} (run : Rerun W) (from : ℕ) (r : Replay) (left : List Part) (part : Part)
    (so_far : Replayed W) → IsSoFar run from r (part ∷ left) so_far →
    IsSoFar run from r left (passed run.after (mark_hash run r.version) so_far part)
one_passed run from r left (Frame entries) so_far is =
    frame_passed run from r left entries so_far (mark_hash run r.version) is
one_passed run from r left (Mark file) so_far is = mark_passed run from r left file so_far is

-- The same where the part is the first of those that were left.
pub part_step :
    {W : Type 0} (run : Rerun W) (from : ℕ) (r : Replay) (left rest : List Part) (part : Part)
    (so_far new : Replayed W) → IsSoFar run from r left so_far → left ≡ part ∷ rest →
    new ≡ passed run.after (mark_hash run r.version) so_far part → IsSoFar run from r rest new
part_step run from r left rest part so_far new is taken passes =
    subst (IsSoFar run from r rest) (sym passes)
    (one_passed run from r rest part so_far
    (subst (λ (parts : List Part). IsSoFar run from r parts so_far) taken is))

-- The next part may be passed.
fits_next :
    {W : Type 0} (run : Rerun W) (from : ℕ) (r : Replay) (left : List Part) (part : Part)
    (so_far : Replayed W) (clients_of steps : W → ℕ) → IsSoFar run from r (part ∷ left) so_far →
    clients_of so_far.world ≡ r.clients → steps so_far.world ≡ so_far.frames →
    FitsPass clients_of steps so_far part
fits_next run from r left (Frame entries) so_far clients_of steps is clients count =
    (is.each.0.0 ∙ sym clients, count, omega (arith, is.count, is.few))
fits_next run from r left (Mark file) so_far clients_of steps is clients count = tt

pub fits_left :
    {W : Type 0} (run : Rerun W) (from : ℕ) (r : Replay) (left rest : List Part) (part : Part)
    (so_far : Replayed W) (clients_of steps : W → ℕ) → IsSoFar run from r left so_far →
    left ≡ part ∷ rest → clients_of so_far.world ≡ r.clients →
    steps so_far.world ≡ so_far.frames → FitsPass clients_of steps so_far part
fits_left run from r left rest part so_far clients_of steps is taken clients count =
    fits_next run from r rest part so_far clients_of steps
    (subst (λ (parts : List Part). IsSoFar run from r parts so_far) taken is) clients count

abbrev replayed_with : {W : Type 0} → Option Difference → ℕ → W → Replayed W
replayed_with difference frames world =
    record { difference = difference; frames = frames; world = world }

pub same_replayed :
    {W : Type 0} (a b : Replayed W) → a.difference ≡ b.difference → a.frames ≡ b.frames →
    a.world ≡ b.world → a ≡ b
same_replayed a b difference frames world =
    ap₂ (λ (d : Option Difference) (n : ℕ). replayed_with d n a.world) difference frames
    ∙ ap (replayed_with b.difference b.frames) world

pub first_of_none : (d : Option Difference) → first_of d None ≡ d
first_of_none None = refl
first_of_none (Some d) = refl

-- Where all was gone over, the difference is that of the replay.
pub difference_last :
    {W : Type 0} (run : Rerun W) (from : ℕ) (r : Replay) (so_far : Replayed W) → IsSoFar run from r [] so_far →
    so_far.difference ≡ difference_from run from r
difference_last run from r so_far last =
    sym (first_of_none so_far.difference) ∙ last.difference

-- All was gone over.
pub all_passed :
    {W : Type 0} (run : Rerun W) (from : ℕ) (r : Replay) (left : List Part)
    (so_far : Replayed W) → IsSoFar run from r left so_far → left ≡ [] →
    so_far ≡ replayed_from run from r
all_passed run from r left so_far is ended =
    let last : IsSoFar run from r [] so_far =
    subst (λ (parts : List Part). IsSoFar run from r parts so_far) ended is in
    let frames : so_far.frames ≡ frame_count r = omega (arith, last.count) in
    let difference = difference_last run from r so_far last in
    let world : so_far.world ≡ world_from run from r.parts (frame_count r) =
    last.world ∙ ap (world_from run from r.parts) frames in
    same_replayed so_far (replayed_from run from r) difference frames world

pub ruleset replay_steps = (begins, part_step, fits_left, all_passed)

-- ---- a run from the first frame on

-- The first difference among marks that have so many frames before them, by hashes that are the
-- same from there on.
pub same_differences :
    (from : ℕ) (hash_at other : ℕ → ℕ) (marks : List (ℕ × ℕ)) →
    ((n : ℕ) → from ≤ n → hash_at n ≡ other n) →
    first_difference hash_at (filter (λ mark. nat_le from mark.0) marks)
    ≡ first_difference other (filter (λ mark. nat_le from mark.0) marks)
same_differences from hash_at other [] same = refl
same_differences from hash_at other (mark ∷ marks) same =
    by_test (nat_le from mark.0) refl (same_differences from hash_at other marks same)
  where
    by_test :
        (test : Bool) → nat_le from mark.0 ≡ test →
        first_difference hash_at (filter (λ mark. nat_le from mark.0) marks)
        ≡ first_difference other (filter (λ mark. nat_le from mark.0) marks) →
        first_difference hash_at (filter (λ mark. nat_le from mark.0) (mark ∷ marks))
        ≡ first_difference other (filter (λ mark. nat_le from mark.0) (mark ∷ marks))
    by_test true is rest =
        let later : List (ℕ × ℕ) = filter (λ mark. nat_le from mark.0) marks in
        let late : from ≤ mark.0 = grind (arith, nat_tests) in
        rw is
        (difference_cons hash_at mark.0 mark.1 later
        ∙ ap₂ (λ (hash : ℕ) (d : Option Difference). first_of (compared mark.0 mark.1 hash) d)
        (same mark.0 late) rest
        ∙ sym (difference_cons other mark.0 mark.1 later))
    by_test false is rest = rw is rest

pub world_zero :
    {W : Type 0} (run : Rerun W) (parts : List Part) (n : ℕ) →
    world_from run 0 parts n ≡ world_in run parts n
world_zero run parts n =
    let all : n - 0 ≡ n = omega arith in
    let here : (k : ℕ) → 0 + k ≡ k = λ k. omega arith in
    ap (folded run.after run.start (λ k. frame_in parts (0 + k))) all
    ∙ folded_same run.after run.start (λ k. frame_in parts (0 + k)) (frame_in parts) n
    (λ k below. ap (frame_in parts) (here k))

pub difference_zero :
    {W : Type 0} (run : Rerun W) (r : Replay) → difference_from run 0 r ≡ difference_of run r
difference_zero run r =
    same_differences 0 (hash_from run 0 r) (hash_in run r) (marks_of r.parts)
    (λ n late. ap (mark_hash run r.version) (world_zero run r.parts n))
    ∙ ap (first_difference (hash_in run r)) (kept_marks 0 0 r.parts (omega arith))

-- A run from the first frame on is the whole run.
pub from_start :
    {W : Type 0} (run : Rerun W) (r : Replay) → replayed_from run 0 r ≡ replayed run r
from_start run r =
    same_replayed (replayed_from run 0 r) (replayed run r) (difference_zero run r) refl
    (world_zero run r.parts (frame_count r))
