-- A replay run frame by frame gives what its first frames give.
use Rattle.std.specs.Prelude.{◌≡◌, ℕ, zero, suc, ◌+◌, ◌<◌, ◌≤◌, nat_lt, Bool, true, false}
use Rattle.std.specs.Prelude.{List, [], ◌∷◌, ◌++◌, length, Option, None}
use Rattle.std.specs.List.{AllByRecursion, filter}
use Rattle.std.proofs.Common.{refl, sym, ap, ap₂, subst, ◌∙◌, arith, add-one}
use Rattle.std.proofs.lemmas.Bool.Decides.{nat_tests}
use Rattle.game_orders.specs.declared.entry.Entry.{Entry}
use Rattle.frame_core.proofs.FoldLemmas.{folded_step}
use Rattle.replay_file.specs.declared.part.Part.{Part}
use Rattle.replay_file.specs.declared.part.Part.TheVariants.{Frame, Mark}
use Rattle.replay_file.specs.declared.replay.Replay.{Replay}
use Rattle.replay_file.specs.Frames.{frames_of, marks_after}
use Rattle.replay_file.specs.ValidReplay.{IsValidReplay}
use Rattle.replay_run.specs.declared.difference.Difference.{Difference}
use Rattle.replay_run.specs.declared.replayed.Replayed.{Replayed}
use Rattle.replay_run.specs.Passing.{compared, first_of, passed, FitsPass}
use Rattle.replay_run.specs.Playing.{FitsPlayback}
use Rattle.replay_run.specs.Rerun.{Rerun, first_difference, frame_count, frame_in, hash_in}
use Rattle.replay_run.specs.Rerun.{mark_hash, marks_before, replayed, world_in}
use Rattle.replay_run.proofs.RerunLemmas.{difference_cons, first_of_assoc, first_of_none}
use Rattle.replay_run.proofs.RerunLemmas.{same_replayed}
use Rattle.replay_run.specs.Stepping.{from_frame, has_frame, head_marks, past_marks, replayed_to}
use Rattle.replay_run.specs.Stepping.{stepped, stepped_by, stepped_to, FitsSteps, StepState, StepsFrom}
use Rattle.replay_run.proofs.PlayingLemmas.{begins_fit as playback_fits}

-- ---- marks by the number of frames before them

-- No mark after parts with so many frames has fewer.
none_before :
    (upto n : ℕ) (parts : List Part) → upto ≤ n →
    filter (λ mark. nat_lt mark.0 upto) (marks_after n parts) ≡ []
none_before upto n [] late = refl
none_before upto n (Frame entries ∷ parts) late =
    none_before upto (n + 1) parts (omega (arith, late))
none_before upto n (Mark hash ∷ parts) late =
    let test : nat_lt n upto ≡ false = grind (arith, nat_tests) in
    rw test (none_before upto n parts late)

-- The marks that have no frame of the parts before them.
head_before :
    (upto n : ℕ) (parts : List Part) → upto ≡ n + 1 →
    filter (λ mark. nat_lt mark.0 upto) (marks_after n parts) ≡ head_marks n parts
head_before upto n [] is = refl
head_before upto n (Frame entries ∷ parts) is =
    none_before upto (n + 1) parts (omega (arith, is))
head_before upto n (Mark hash ∷ parts) is =
    let test : nat_lt n upto ≡ true = grind (arith, nat_tests) in
    rw test (ap (λ (marks : List (ℕ × ℕ)). (n, hash) ∷ marks) (head_before upto n parts is))

-- All marks have at most all frames before them.
all_before :
    (upto n : ℕ) (parts : List Part) → n + length (frames_of parts) < upto →
    filter (λ mark. nat_lt mark.0 upto) (marks_after n parts) ≡ marks_after n parts
all_before upto n [] is = refl
all_before upto n (Frame entries ∷ parts) is = all_before upto (n + 1) parts (omega (arith, is))
all_before upto n (Mark hash ∷ parts) is =
    let test : nat_lt n upto ≡ true = grind (arith, nat_tests) in
    rw test (ap (λ (marks : List (ℕ × ℕ)). (n, hash) ∷ marks) (all_before upto n parts is))

same_rest :
    (entries other : List Entry) (parts rest : List Part) →
    Frame entries ∷ parts ≡ Frame other ∷ rest → parts ≡ rest
same_rest entries other parts rest is = cc

-- The marks that have one frame more before them are those directly after the next frame.
one_more_before :
    (upto before n : ℕ) (parts : List Part) (entries : List Entry) (rest : List Part) →
    from_frame n parts ≡ Frame entries ∷ rest → upto ≡ before + n + 1 →
    filter (λ mark. nat_lt mark.0 (upto + 1)) (marks_after before parts)
    ≡ filter (λ mark. nat_lt mark.0 upto) (marks_after before parts) ++ head_marks upto rest
one_more_before upto before n [] entries rest is at = absurd cc
one_more_before upto before n (Mark hash ∷ parts) entries rest is at =
    let test : nat_lt before upto ≡ true = grind (arith, nat_tests) in
    let more : nat_lt before (upto + 1) ≡ true = grind (arith, nat_tests) in
    rw (test, more)
    (ap (λ (marks : List (ℕ × ℕ)). (before, hash) ∷ marks)
    (one_more_before upto before n parts entries rest is at))
one_more_before upto before zero (Frame first ∷ parts) entries rest is at =
    let here : upto ≡ before + 1 = omega (arith, at) in
    head_before (upto + 1) (before + 1) parts (omega (arith, at))
    ∙ ap₂ head_marks (sym here) (same_rest first entries parts rest is)
    ∙ ap (λ (marks : List (ℕ × ℕ)). marks ++ head_marks upto rest)
    (sym (none_before upto (before + 1) parts (omega (arith, at))))
one_more_before upto before (suc n) (Frame first ∷ parts) entries rest is at =
    one_more_before upto (before + 1) n parts entries rest is (omega (arith, at))

-- ---- frames

-- The parts from a frame on begin with it.
frame_at :
    (n : ℕ) (parts : List Part) → n < length (frames_of parts) →
    (rest : List Part) × (from_frame n parts ≡ Frame (frame_in parts n) ∷ rest)
frame_at n [] below = absurd (omega (arith, below))
frame_at n (Mark hash ∷ parts) below = frame_at n parts below
frame_at zero (Frame entries ∷ parts) below = (parts, refl)
frame_at (suc n) (Frame entries ∷ parts) below = frame_at n parts (omega (arith, below))

from_next :
    (n : ℕ) (parts : List Part) (entries : List Entry) (rest : List Part) →
    from_frame n parts ≡ Frame entries ∷ rest →
    from_frame (n + 1) parts ≡ from_frame 0 rest
from_next n [] entries rest is = absurd cc
from_next n (Mark hash ∷ parts) entries rest is = from_next n parts entries rest is
from_next zero (Frame first ∷ parts) entries rest is =
    ap (from_frame 0) (same_rest first entries parts rest is)
from_next (suc n) (Frame first ∷ parts) entries rest is =
    let next : from_frame (suc n + 1) (Frame first ∷ parts) ≡ from_frame (suc n) parts =
    ap (λ (k : ℕ). from_frame k (Frame first ∷ parts)) (add-one (suc n)) in
    next ∙ sym (ap (λ (k : ℕ). from_frame k parts) (add-one n))
    ∙ from_next n parts entries rest is

none_from : (parts : List Part) → from_frame (length (frames_of parts)) parts ≡ []
none_from [] = refl
none_from (Mark hash ∷ parts) = none_from parts
none_from (Frame entries ∷ parts) = none_from parts

frames_from : (parts : List Part) → frames_of (from_frame 0 parts) ≡ frames_of parts
frames_from [] = refl
frames_from (Mark hash ∷ parts) = frames_from parts
frames_from (Frame entries ∷ parts) = refl

-- ---- differences

difference_append :
    (hash_at : ℕ → ℕ) (marks others : List (ℕ × ℕ)) →
    first_difference hash_at (marks ++ others)
    ≡ first_of (first_difference hash_at marks) (first_difference hash_at others)
difference_append hash_at [] others = refl
difference_append hash_at (mark ∷ marks) others =
    let here = compared mark.0 mark.1 (hash_at mark.0) in
    let last = first_difference hash_at others in
    difference_cons hash_at mark.0 mark.1 (marks ++ others)
    ∙ ap (first_of here) (difference_append hash_at marks others)
    ∙ sym (first_of_assoc here (first_difference hash_at marks) last)
    ∙ ap (λ (d : Option Difference). first_of d last)
    (sym (difference_cons hash_at mark.0 mark.1 marks))

-- The marks before the next frame are all compared with one hash.
difference_here :
    (hash_at : ℕ → ℕ) (n here : ℕ) (parts : List Part) → here ≡ hash_at n →
    first_difference (λ m. here) (head_marks n parts)
    ≡ first_difference hash_at (head_marks n parts)
difference_here hash_at n here [] is = refl
difference_here hash_at n here (Frame entries ∷ parts) is = refl
difference_here hash_at n here (Mark hash ∷ parts) is =
    difference_cons (λ m. here) n hash (head_marks n parts)
    ∙ ap₂ (λ (k : ℕ) (d : Option Difference). first_of (compared n hash k) d) is
    (difference_here hash_at n here parts is)
    ∙ sym (difference_cons hash_at n hash (head_marks n parts))

-- A mark before the next frame is compared.
pub mark_past :
    {W : Type 0} (after : W → List Entry → W) (hash : W → ℕ) (so_far new : Replayed W) (file : ℕ)
    (left rest : List Part) → left ≡ Mark file ∷ rest →
    new ≡ passed after hash so_far (Mark file) →
    past_marks hash new rest ≡ past_marks hash so_far left
mark_past {W} after hash so_far new file left rest is passes =
    let here = compared so_far.frames file (hash so_far.world) in
    let last =
    first_difference (λ n. hash so_far.world) (head_marks so_far.frames rest) in
    let same : past_marks hash (passed after hash so_far (Mark file)) rest
    ≡ past_marks hash so_far (Mark file ∷ rest) =
    ap (λ (d : Option Difference). record so_far { difference = d })
    (first_of_assoc so_far.difference here last
    ∙ ap (first_of so_far.difference)
    (sym (difference_cons (λ n. hash so_far.world) so_far.frames file
    (head_marks so_far.frames rest)))) in
    ap (λ (s : Replayed W). past_marks hash s rest) passes ∙ same
    ∙ ap (past_marks hash so_far) (sym is)

-- No mark is left before the next frame, or the end.
pub none_past :
    {W : Type 0} (hash : W → ℕ) (so_far : Replayed W) (entries : List Entry)
    (rest : List Part) → past_marks hash so_far (Frame entries ∷ rest) ≡ so_far
none_past hash so_far entries rest =
    same_replayed (past_marks hash so_far (Frame entries ∷ rest)) so_far
    (first_of_none so_far.difference) refl refl

pub end_past :
    {W : Type 0} (hash : W → ℕ) (so_far : Replayed W) → past_marks hash so_far [] ≡ so_far
end_past hash so_far =
    same_replayed (past_marks hash so_far []) so_far
    (first_of_none so_far.difference) refl refl

-- ---- the state after so many steps

abbrev pub state_with : {W : Type 0} → Replay → List Part → Replayed W → StepState W
state_with r left so_far = record { replay = r; left = left; so_far = so_far }

same_state :
    {W : Type 0} (r : Replay) (left other : List Part) (so_far also : Replayed W) →
    left ≡ other → so_far ≡ also → state_with r left so_far ≡ state_with r other also
same_state r left other so_far also same both = ap₂ (state_with r) same both

-- Nothing was stepped yet, and the marks before the first frame were compared.
pub begins_stepped :
    {W : Type 0} (run : Rerun W) (r : Replay) (s : StepState W) → s.replay ≡ r →
    s.left ≡ from_frame 0 r.parts →
    s.so_far ≡ past_marks (mark_hash run r.version)
    (record { difference = None; frames = 0; world = run.start }) r.parts →
    s ≡ stepped_to run r 0
begins_stepped run r s replay left so_far =
    let here : mark_hash run r.version run.start ≡ hash_in run r 0 = refl in
    let marks : marks_before 1 r.parts ≡ head_marks 0 r.parts =
    head_before 1 0 r.parts (omega arith) in
    let difference :
    first_difference (λ n. mark_hash run r.version run.start) (head_marks 0 r.parts)
    ≡ first_difference (hash_in run r) (marks_before 1 r.parts) =
    difference_here (hash_in run r) 0 (mark_hash run r.version run.start) r.parts here
    ∙ ap (first_difference (hash_in run r)) (sym marks) in
    let given : past_marks (mark_hash run r.version)
    (record { difference = None; frames = 0; world = run.start }) r.parts
    ≡ replayed_to run r 0 =
    same_replayed (past_marks (mark_hash run r.version)
    (record { difference = None; frames = 0; world = run.start }) r.parts)
    (replayed_to run r 0) difference refl refl in
    ap (λ (replay : Replay). state_with replay s.left s.so_far) replay
    ∙ same_state r s.left (from_frame 0 r.parts) s.so_far (replayed_to run r 0) left
    (so_far ∙ given)

-- The next frame was stepped, and the marks after it compared.
pub steps_on :
    {W : Type 0} (after : W → List Entry → W) (hash : W → ℕ) (old new : StepState W)
    (mid : Replayed W) (entries : List Entry) (rest : List Part) →
    old.left ≡ Frame entries ∷ rest → mid ≡ passed after hash old.so_far (Frame entries) →
    new.replay ≡ old.replay → new.left ≡ from_frame 0 rest →
    new.so_far ≡ past_marks hash mid rest → new ≡ stepped after hash old
steps_on {W} after hash old new mid entries rest is one replay left past =
    ap (λ (r : Replay). state_with r new.left new.so_far) replay
    ∙ same_state old.replay new.left (from_frame 0 rest) new.so_far
    (past_marks hash (passed after hash old.so_far (Frame entries)) rest) left
    (past ∙ ap (λ (s : Replayed W). past_marks hash s rest) one)
    ∙ sym (ap (stepped_by after hash old) is)

-- One frame more gives what so many frames give.
given_more :
    {W : Type 0} (run : Rerun W) (r : Replay) (n : ℕ) (rest : List Part) →
    from_frame n r.parts ≡ Frame (frame_in r.parts n) ∷ rest →
    past_marks (mark_hash run r.version)
    (passed run.after (mark_hash run r.version) (replayed_to run r n)
    (Frame (frame_in r.parts n))) rest
    ≡ replayed_to run r (n + 1)
given_more run r n rest is =
    let hash = mark_hash run r.version in
    let world : run.after (world_in run r.parts n) (frame_in r.parts n)
    ≡ world_in run r.parts (n + 1) =
    sym (folded_step run.after run.start (frame_in r.parts) n) in
    let marks : marks_before (n + 1 + 1) r.parts
    ≡ marks_before (n + 1) r.parts ++ head_marks (n + 1) rest =
    one_more_before (n + 1) 0 n r.parts (frame_in r.parts n) rest is (omega arith) in
    let late : first_difference
    (λ k. hash (run.after (world_in run r.parts n) (frame_in r.parts n)))
    (head_marks (n + 1) rest)
    ≡ first_difference (hash_in run r) (head_marks (n + 1) rest) =
    difference_here (hash_in run r) (n + 1)
    (hash (run.after (world_in run r.parts n) (frame_in r.parts n))) rest (ap hash world) in
    same_replayed (past_marks hash
    (passed run.after hash (replayed_to run r n) (Frame (frame_in r.parts n))) rest)
    (replayed_to run r (n + 1))
    (ap (first_of (first_difference (hash_in run r) (marks_before (n + 1) r.parts))) late
    ∙ sym (difference_append (hash_in run r) (marks_before (n + 1) r.parts)
    (head_marks (n + 1) rest))
    ∙ ap (first_difference (hash_in run r)) (sym marks))
    refl world

-- What all frames give is what the whole replay gives.
given_all :
    {W : Type 0} (run : Rerun W) (r : Replay) →
    replayed_to run r (frame_count r) ≡ replayed run r
given_all run r =
    same_replayed (replayed_to run r (frame_count r)) (replayed run r)
    (ap (first_difference (hash_in run r))
    (all_before (frame_count r + 1) 0 r.parts (omega arith)))
    refl refl

step_more :
    {W : Type 0} (run : Rerun W) (r : Replay) (n : ℕ) (more : Bool) (new : StepState W) →
    n < frame_count r →
    new ≡ stepped run.after (mark_hash run r.version) (stepped_to run r n) →
    more ≡ has_frame (from_frame n r.parts) → StepsFrom run r n more new
step_more {W} run r n more new below on more_is =
    let at = frame_at n r.parts below in
    let one : more ≡ true = more_is ∙ ap has_frame at.1 in
    let next : new ≡ stepped_to run r (n + 1) =
    on ∙ ap (stepped_by run.after (mark_hash run r.version) (stepped_to run r n)) at.1
    ∙ same_state r (from_frame 0 at.0) (from_frame (n + 1) r.parts)
    (past_marks (mark_hash run r.version)
    (passed run.after (mark_hash run r.version) (replayed_to run r n)
    (Frame (frame_in r.parts n))) at.0)
    (replayed_to run r (n + 1))
    (sym (from_next n r.parts (frame_in r.parts n) at.0 at.1))
    (given_more run r n at.0 at.1) in
    subst (λ (b : Bool). StepsFrom run r n b new) (sym one) (below, next)

step_end :
    {W : Type 0} (run : Rerun W) (r : Replay) (n : ℕ) (more : Bool) (new : StepState W) →
    n ≡ frame_count r →
    new ≡ stepped run.after (mark_hash run r.version) (stepped_to run r n) →
    more ≡ has_frame (from_frame n r.parts) → StepsFrom run r n more new
step_end {W} run r n more new all on more_is =
    let none : from_frame n r.parts ≡ [] =
    ap (λ (k : ℕ). from_frame k r.parts) all ∙ none_from r.parts in
    let no : more ≡ false = more_is ∙ ap has_frame none in
    let stays : new ≡ stepped_to run r n =
    on ∙ ap (stepped_by run.after (mark_hash run r.version) (stepped_to run r n)) none in
    subst (λ (b : Bool). StepsFrom run r n b new) (sym no) (
      all,
      stays,
      ap (λ (s : StepState W). s.so_far) stays ∙ ap (replayed_to run r) all
          ∙ given_all run r,
    )

-- A step of the state after so many.
pub steps_from :
    {W : Type 0} (run : Rerun W) (r : Replay) (n : ℕ) (more : Bool) (old new : StepState W) →
    old ≡ stepped_to run r n → n ≤ frame_count r →
    new ≡ stepped run.after (mark_hash run old.replay.version) old →
    more ≡ has_frame old.left → StepsFrom run r n more new
steps_from {W} run r n more old new is few on more_is =
    let here : new ≡ stepped run.after (mark_hash run r.version) (stepped_to run r n) =
    on ∙ ap (λ (s : StepState W). stepped run.after (mark_hash run s.replay.version) s) is in
    let next : more ≡ has_frame (from_frame n r.parts) =
    more_is ∙ ap (λ (s : StepState W). has_frame s.left) is in
    by_test (nat_lt n (frame_count r)) refl here next
  where
    by_test :
        (test : Bool) → nat_lt n (frame_count r) ≡ test →
        new ≡ stepped run.after (mark_hash run r.version) (stepped_to run r n) →
        more ≡ has_frame (from_frame n r.parts) → StepsFrom run r n more new
    by_test true found here next =
        let below : n < frame_count r = grind (arith, nat_tests) in
        step_more run r n more new below here next
    by_test false found here next =
        let all : n ≡ frame_count r = grind (arith, nat_tests, few) in
        step_end run r n more new all here next

-- ---- frames that may be stepped

-- What is left fits after a step.
pub fits_on :
    {W : Type 0} (clients_of steps : W → ℕ) (after : W → List Entry → W) (hash : W → ℕ)
    (old new : StepState W) (mid : Replayed W) (entries : List Entry) (rest : List Part) →
    FitsSteps clients_of steps old → old.left ≡ Frame entries ∷ rest →
    mid ≡ passed after hash old.so_far (Frame entries) → new.left ≡ from_frame 0 rest →
    new.so_far ≡ past_marks hash mid rest →
    clients_of mid.world ≡ clients_of old.so_far.world → steps mid.world ≡ mid.frames →
    FitsSteps clients_of steps new
fits_on {W} clients_of steps after hash old new mid entries rest fits is one left past clients made =
    let all : frames_of old.left ≡ entries ∷ frames_of rest = ap frames_of is in
    let frames : frames_of new.left ≡ frames_of rest = ap frames_of left ∙ frames_from rest in
    let world : new.so_far.world ≡ mid.world = ap (λ (s : Replayed W). s.world) past in
    let same : new.so_far.frames ≡ mid.frames = ap (λ (s : Replayed W). s.frames) past in
    let more : mid.frames ≡ old.so_far.frames + 1 = ap (λ (s : Replayed W). s.frames) one in
    let each : AllByRecursion (λ (frame : List Entry). length frame ≡ clients_of old.so_far.world)
    (entries ∷ frames_of rest) =
    subst (AllByRecursion (λ (frame : List Entry). length frame ≡ clients_of old.so_far.world))
    all fits.each in
    let here : AllByRecursion
    (λ (frame : List Entry). length frame ≡ clients_of new.so_far.world) (frames_of rest) =
    subst (λ (count : ℕ).
    AllByRecursion (λ (frame : List Entry). length frame ≡ count) (frames_of rest))
    (sym (ap clients_of world ∙ clients)) each.1 in
    record {
      each =
          subst (AllByRecursion (λ (frame : List Entry). length frame ≡ clients_of new.so_far.world))
          (sym frames) here;
      made = ap steps world ∙ made ∙ sym same;
      few =
          omega (
            arith,
            fits.few,
            same,
            more,
            ap (λ (all : List (List Entry)). length all) all,
            ap (λ (all : List (List Entry)). length all) frames,
          );
    }

-- The next frame may be stepped.
pub fits_frame :
    {W : Type 0} (clients_of steps : W → ℕ) (s : StepState W) (entries : List Entry)
    (rest : List Part) → FitsSteps clients_of steps s → s.left ≡ Frame entries ∷ rest →
    FitsPass clients_of steps s.so_far (Frame entries)
fits_frame clients_of steps s entries rest fits is =
    let all : frames_of s.left ≡ entries ∷ frames_of rest = ap frames_of is in
    let each : AllByRecursion (λ (frame : List Entry). length frame ≡ clients_of s.so_far.world)
    (entries ∷ frames_of rest) =
    subst (AllByRecursion (λ (frame : List Entry). length frame ≡ clients_of s.so_far.world))
    all fits.each in (
      each.0,
      fits.made,
      omega (arith, fits.few, ap (λ (all : List (List Entry)). length all) all),
    )

-- All frames fit an opening world.
pub begins_fit :
    {W : Type 0} (clients_of steps : W → ℕ) (world : W) (r : Replay) (s : StepState W) →
    IsValidReplay r → clients_of world ≡ r.clients → steps world ≡ 0 →
    s.left ≡ from_frame 0 r.parts → s.so_far.frames ≡ 0 → s.so_far.world ≡ world →
    FitsSteps clients_of steps s
begins_fit {W} clients_of steps world r s valid clients fresh left none same =
    let frames : frames_of s.left ≡ frames_of r.parts = ap frames_of left ∙ frames_from r.parts in
    subst (λ (w : W). FitsPlayback clients_of steps
    (record { left = frames_of s.left; frames = s.so_far.frames; world = w })) (sym same)
    (subst (λ (k : ℕ). FitsPlayback clients_of steps
    (record { left = frames_of s.left; frames = k; world = world })) (sym none)
    (subst (λ (all : List (List Entry)). FitsPlayback clients_of steps
    (record { left = all; frames = 0; world = world })) (sym frames)
    (playback_fits clients_of steps world r r.parts valid clients fresh refl)))

pub ruleset step_laws = (steps_from, fits_on, fits_frame)
