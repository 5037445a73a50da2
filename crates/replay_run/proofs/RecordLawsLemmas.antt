-- The laws of replays.
use Rattle.std.specs.Prelude.{◌≡◌, ◌≢◌, ℕ, zero, suc, ◌+◌, ◌<◌, ◌≤◌, ◌⊎◌, ◌==◌, Bool, true, false}
use Rattle.std.specs.Prelude.{nat_le, List, [], ◌∷◌, ◌++◌, length, map, slice_get}
use Rattle.std.specs.Prelude.{Option, Some, None, unwrap_or}
use Rattle.std.specs.List.{filter}
use Rattle.std.proofs.Common.{refl, sym, ap, ap₂, subst, ◌∙◌, arith, inl, inr}
use Rattle.std.proofs.lemmas.Bool.Decides.{nat_tests}
use Rattle.game_orders.specs.declared.entry.Entry.{Entry}
use Rattle.frame_core.specs.Column.{Column}
use Rattle.frame_core.proofs.FoldLemmas.{folded_same}
use Rattle.frame_core.specs.Match.{Match, agreed_world}
use Rattle.frame_core.specs.Ready.{frame_at}
use Rattle.replay_file.specs.declared.part.Part.{Part}
use Rattle.replay_file.specs.declared.part.Part.TheVariants.{Frame, Mark}
use Rattle.replay_file.specs.declared.replay.Replay.{Replay}
use Rattle.replay_file.specs.Frames.{frames_of, marks_after, marks_of}
use Rattle.replay_file.specs.Migrated.{anew}
use Rattle.replay_file.proofs.MigratedLemmas.{migrated_frames, migrated_marks}
use Rattle.replay_run.specs.declared.difference.Difference.{Difference}
use Rattle.replay_run.specs.RecordLaws.{AllAgree, IsLeastDifference, agreed_replayed, rerun_of}
use Rattle.replay_run.specs.Recording.{hash_after_frame, recorded, replay_of}
use Rattle.replay_run.specs.Rerun.{Rerun, differs, difference_at, difference_of, first_difference}
use Rattle.replay_run.specs.Rerun.{marks_from}
use Rattle.replay_run.specs.Rerun.{frame_count, frame_in, hash_in, migrated_over, replayed, world_in}
use Rattle.replay_run.proofs.RerunLemmas.{kept_marks, same_replayed}

-- ---- the least difference

-- Marks stand after at least so many frames.
marks_stand :
    (n : ℕ) (parts : List Part) (i : ℕ) (mark : ℕ × ℕ) →
    slice_get (marks_after n parts) i ≡ Some mark → n ≤ mark.0
marks_stand n [] i mark at = absurd cc
marks_stand n (Frame entries ∷ parts) i mark at =
    omega (arith, marks_stand (n + 1) parts i mark at)
marks_stand n (Mark hash ∷ parts) zero mark at =
    let same : (n, hash) ≡ mark = cc in
    omega (arith, ap (λ (m : ℕ × ℕ). m.0) same)
marks_stand n (Mark hash ∷ parts) (suc i) mark at = marks_stand n parts i mark at

first_differs :
    (hash_at : ℕ → ℕ) (n hash : ℕ) (rest : List (ℕ × ℕ)) (d : Difference) →
    (hash == hash_at n) ≡ false →
    first_difference hash_at ((n, hash) ∷ rest) ≡ Some d →
    difference_at hash_at (n, hash) ≡ d
first_differs hash_at n hash rest d differs is =
    let found : first_difference hash_at ((n, hash) ∷ rest)
    ≡ Some (difference_at hash_at (n, hash)) = rw differs refl in
    let both : Some (difference_at hash_at (n, hash)) ≡ Some d = sym found ∙ is in
    cc

first_agrees :
    (hash_at : ℕ → ℕ) (n hash : ℕ) (rest : List (ℕ × ℕ)) → (hash == hash_at n) ≡ true →
    first_difference hash_at ((n, hash) ∷ rest) ≡ first_difference hash_at rest
first_agrees hash_at n hash rest same = rw same refl

unequal : (a b : ℕ) → (a == b) ≡ false → a ≡ b → ⊥
unequal a b test same = grind (arith, nat_tests)

least_of_mark :
    (hash_at : ℕ → ℕ) (first : ℕ × ℕ) (rest : List (ℕ × ℕ)) (frames : ℕ) →
    (first.1 ≢ hash_at first.0 → frames ≤ first.0) →
    ((i : ℕ) (mark : ℕ × ℕ) → slice_get rest i ≡ Some mark → mark.1 ≢ hash_at mark.0 →
    frames ≤ mark.0) →
    (i : ℕ) (mark : ℕ × ℕ) → slice_get (first ∷ rest) i ≡ Some mark →
    mark.1 ≢ hash_at mark.0 → frames ≤ mark.0
least_of_mark hash_at first rest frames here later zero mark at =
    let same : first ≡ mark = cc in
    subst (λ (m : ℕ × ℕ). m.1 ≢ hash_at m.0 → frames ≤ m.0) same here
least_of_mark hash_at first rest frames here later (suc i) mark at = later i mark at

-- The first differing mark is the one with the fewest frames before it.
least_from :
    (hash_at : ℕ → ℕ) (n : ℕ) (parts : List Part) (d : Difference) →
    first_difference hash_at (marks_after n parts) ≡ Some d →
    IsLeastDifference hash_at (marks_after n parts) d
least_from hash_at n [] d is = absurd cc
least_from hash_at n (Frame entries ∷ parts) d is = least_from hash_at (n + 1) parts d is
least_from hash_at n (Mark hash ∷ parts) d is =
    by_test (hash == hash_at n) refl (least_from hash_at n parts d)
  where
    by_test :
        (same : Bool) → (hash == hash_at n) ≡ same →
        (first_difference hash_at (marks_after n parts) ≡ Some d →
        IsLeastDifference hash_at (marks_after n parts) d) →
        IsLeastDifference hash_at (marks_after n (Mark hash ∷ parts)) d
    by_test true same rest =
        let later = rest (sym (first_agrees hash_at n hash (marks_after n parts) same) ∙ is) in
        let equal : hash ≡ hash_at n = grind (arith, nat_tests) in
        record {
          place = suc later.place;
          stands = later.stands;
          here = later.here;
          differs = later.differs;
          least =
              least_of_mark hash_at (n, hash) (marks_after n parts) d.frames
              (λ other. absurd (other equal)) later.least;
        }
    by_test false other rest =
        let found = first_differs hash_at n hash (marks_after n parts) d other is in
        let frames : n ≡ d.frames = ap (λ (x : Difference). x.frames) found in
        let file : hash ≡ d.file = ap (λ (x : Difference). x.file) found in
        let here : hash_at n ≡ d.here = ap (λ (x : Difference). x.here) found in
        record {
          place = 0;
          stands = ap₂ (λ (a b : ℕ). Some (a, b)) frames file;
          here = sym here ∙ ap hash_at frames;
          differs = λ same. unequal hash (hash_at n) other (file ∙ same ∙ sym here);
          least = λ i mark at never.
              omega (arith, frames, marks_stand n (Mark hash ∷ parts) i mark at);
        }

pub least_difference :
    (hash_at : ℕ → ℕ) (parts : List Part) (d : Difference) →
    first_difference hash_at (marks_of parts) ≡ Some d →
    IsLeastDifference hash_at (marks_of parts) d
least_difference hash_at parts d is = least_from hash_at 0 parts d is

never_none :
    (hash_at : ℕ → ℕ) (n hash : ℕ) (rest : List (ℕ × ℕ)) → (hash == hash_at n) ≡ false →
    first_difference hash_at ((n, hash) ∷ rest) ≡ None → ⊥
never_none hash_at n hash rest differs none =
    let found : first_difference hash_at ((n, hash) ∷ rest)
    ≡ Some (difference_at hash_at (n, hash)) = rw differs refl in
    let never : None ≡ Some (difference_at hash_at (n, hash)) = sym none ∙ found in
    cc

agree_cons :
    (hash_at : ℕ → ℕ) (first : ℕ × ℕ) (rest : List (ℕ × ℕ)) → first.1 ≡ hash_at first.0 →
    AllAgree hash_at rest → (i : ℕ) (mark : ℕ × ℕ) → slice_get (first ∷ rest) i ≡ Some mark →
    mark.1 ≡ hash_at mark.0
agree_cons hash_at first rest here later zero mark at =
    let same : first ≡ mark = cc in
    subst (λ (m : ℕ × ℕ). m.1 ≡ hash_at m.0) same here
agree_cons hash_at first rest here later (suc i) mark at = later i mark at

nothing_there :
    (hash_at : ℕ → ℕ) (i : ℕ) (mark : ℕ × ℕ) → slice_get [] i ≡ Some mark →
    mark.1 ≡ hash_at mark.0
nothing_there hash_at i mark at = absurd cc

agree_from :
    (hash_at : ℕ → ℕ) (marks : List (ℕ × ℕ)) → first_difference hash_at marks ≡ None →
    AllAgree hash_at marks
agree_from hash_at [] none = nothing_there hash_at
agree_from hash_at ((n, hash) ∷ marks) none =
    by_test (hash == hash_at n) refl (agree_from hash_at marks)
  where
    by_test :
        (same : Bool) → (hash == hash_at n) ≡ same →
        (first_difference hash_at marks ≡ None → AllAgree hash_at marks) →
        AllAgree hash_at ((n, hash) ∷ marks)
    by_test true same rest =
        let equal : hash ≡ hash_at n = grind (arith, nat_tests) in
        agree_cons hash_at (n, hash) marks equal
        (rest (sym (first_agrees hash_at n hash marks same) ∙ none))
    by_test false other rest = absurd (never_none hash_at n hash marks other none)

pub no_difference :
    (hash_at : ℕ → ℕ) (parts : List Part) → first_difference hash_at (marks_of parts) ≡ None →
    AllAgree hash_at (marks_of parts)
no_difference hash_at parts none = agree_from hash_at (marks_of parts) none

-- The marks with so many frames or more before them are those of some parts, after some frames.
late_marks :
    (from n : ℕ) (parts : List Part) →
    (m : ℕ) × (rest : List Part)
    × (filter (λ mark. nat_le from mark.0) (marks_after n parts) ≡ marks_after m rest)
late_marks from n [] = (n, [], refl)
late_marks from n (Frame entries ∷ parts) = late_marks from (n + 1) parts
late_marks from n (Mark hash ∷ parts) =
    by_test (nat_le from n) refl (late_marks from n parts)
  where
    by_test :
        (test : Bool) → nat_le from n ≡ test →
        (m : ℕ) × (rest : List Part)
        × (filter (λ mark. nat_le from mark.0) (marks_after n parts) ≡ marks_after m rest) →
        (m : ℕ) × (rest : List Part)
        × (filter (λ mark. nat_le from mark.0) (marks_after n (Mark hash ∷ parts))
        ≡ marks_after m rest)
    by_test true is later =
        let late : from ≤ n = grind (arith, nat_tests) in
        (n, Mark hash ∷ parts, kept_marks from n (Mark hash ∷ parts) late)
    by_test false is later = (later.0, later.1, rw is later.2)

pub least_later :
    (hash_at : ℕ → ℕ) (from : ℕ) (parts : List Part) (d : Difference) →
    first_difference hash_at (marks_from from parts) ≡ Some d →
    IsLeastDifference hash_at (marks_from from parts) d
least_later hash_at from parts d is =
    let late = late_marks from 0 parts in
    subst (λ (marks : List (ℕ × ℕ)). IsLeastDifference hash_at marks d) (sym late.2)
    (least_from hash_at late.0 late.1 d (ap (first_difference hash_at) (sym late.2) ∙ is))

pub no_later :
    (hash_at : ℕ → ℕ) (from : ℕ) (parts : List Part) →
    first_difference hash_at (marks_from from parts) ≡ None →
    AllAgree hash_at (marks_from from parts)
no_later hash_at from parts none = agree_from hash_at (marks_from from parts) none

pub ruleset difference_laws = (least_difference, no_difference, least_later, no_later)

-- Marks that agree.
none_differs :
    (hash_at : ℕ → ℕ) (marks : List (ℕ × ℕ)) → AllAgree hash_at marks →
    first_difference hash_at marks ≡ None
none_differs hash_at [] agree = refl
none_differs hash_at ((n, hash) ∷ marks) agree =
    let equal : hash ≡ hash_at n = agree 0 (n, hash) refl in
    let test : (hash == hash_at n) ≡ true = grind (arith, nat_tests) in
    first_agrees hash_at n hash marks test
    ∙ none_differs hash_at marks (λ i mark at. agree (suc i) mark at)

-- ---- the record of a match

frames_more :
    (parts : List Part) (frame : List Entry) (hash : ℕ) →
    frames_of ((parts ++ Frame frame ∷ []) ++ Mark hash ∷ []) ≡ frames_of parts ++ frame ∷ []
frames_more [] frame hash = refl
frames_more (Frame entries ∷ parts) frame hash =
    ap (λ (others : List (List Entry)). entries ∷ others) (frames_more parts frame hash)
frames_more (Mark mark ∷ parts) frame hash = frames_more parts frame hash

marks_more :
    (n : ℕ) (parts : List Part) (frame : List Entry) (hash : ℕ) →
    marks_after n ((parts ++ Frame frame ∷ []) ++ Mark hash ∷ [])
    ≡ marks_after n parts ++ (n + length (frames_of parts) + 1, hash) ∷ []
marks_more n [] frame hash = ap (λ (k : ℕ). (k, hash) ∷ []) (omega arith)
marks_more n (Frame entries ∷ parts) frame hash =
    marks_more (n + 1) parts frame hash
    ∙ ap (λ (k : ℕ). marks_after (n + 1) parts ++ (k, hash) ∷ []) (omega arith)
marks_more n (Mark mark ∷ parts) frame hash =
    ap (λ (others : List (ℕ × ℕ)). (n, mark) ∷ others) (marks_more n parts frame hash)

-- The first frames of a source.
abbrev first_frames : (ℕ → List Entry) → ℕ → List (List Entry)
first_frames frames zero = []
first_frames frames (suc n) = first_frames frames n ++ frames n ∷ []

length_added : (xs : List (List Entry)) (x : List Entry) → length (xs ++ x ∷ []) ≡ length xs + 1
length_added [] x = refl
length_added (y ∷ xs) x = omega (arith, length_added xs x)

first_count : (frames : ℕ → List Entry) (n : ℕ) → length (first_frames frames n) ≡ n
first_count frames zero = refl
first_count frames (suc n) =
    omega (arith, length_added (first_frames frames n) (frames n), first_count frames n)

get_before :
    (xs : List (List Entry)) (y : List Entry) (k : ℕ) → k < length xs →
    slice_get (xs ++ y ∷ []) k ≡ slice_get xs k
get_before [] y k below = absurd (omega (arith, below))
get_before (x ∷ xs) y zero below = refl
get_before (x ∷ xs) y (suc k) below = get_before xs y k (omega (arith, below))

get_last : (xs : List (List Entry)) (y : List Entry) → slice_get (xs ++ y ∷ []) (length xs) ≡ Some y
get_last [] y = refl
get_last (x ∷ xs) y = get_last xs y

next_get :
    (frames : ℕ → List Entry) (n k : ℕ) →
    (k < n → slice_get (first_frames frames n) k ≡ Some (frames k)) → (k < n) ⊎ (k ≡ n) →
    slice_get (first_frames frames (suc n)) k ≡ Some (frames k)
next_get frames n k before (inl less) =
    get_before (first_frames frames n) (frames n) k (omega (arith, less, first_count frames n))
    ∙ before less
next_get frames n k before (inr same) =
    let last : k ≡ length (first_frames frames n) = omega (arith, same, first_count frames n) in
    ap (slice_get (first_frames frames (suc n))) last
    ∙ get_last (first_frames frames n) (frames n)
    ∙ ap (λ (i : ℕ). Some (frames i)) (sym same)

first_get :
    (frames : ℕ → List Entry) (n k : ℕ) → k < n →
    slice_get (first_frames frames n) k ≡ Some (frames k)
first_get frames zero k below = absurd (omega (arith, below))
first_get frames (suc n) k below = next_get frames n k (first_get frames n k) (grind arith)

frames_recorded :
    (frames : ℕ → List Entry) (hash : ℕ → ℕ) (n : ℕ) →
    frames_of (recorded frames hash n) ≡ first_frames frames n
frames_recorded frames hash zero = refl
frames_recorded frames hash (suc n) =
    frames_more (recorded frames hash n) (frames n) (hash n)
    ∙ ap (λ (fs : List (List Entry)). fs ++ frames n ∷ []) (frames_recorded frames hash n)

count_recorded :
    (frames : ℕ → List Entry) (hash : ℕ → ℕ) (n : ℕ) →
    length (frames_of (recorded frames hash n)) ≡ n
count_recorded frames hash n =
    ap (λ (fs : List (List Entry)). length fs) (frames_recorded frames hash n)
    ∙ first_count frames n

frame_recorded :
    (frames : ℕ → List Entry) (hash : ℕ → ℕ) (n k : ℕ) → k < n →
    frame_in (recorded frames hash n) k ≡ frames k
frame_recorded frames hash n k below =
    ap (λ (o : Option (List Entry)). unwrap_or o [])
    (ap (λ (fs : List (List Entry)). slice_get fs k) (frames_recorded frames hash n)
    ∙ first_get frames n k below)

agree_more :
    (hash_at : ℕ → ℕ) (marks : List (ℕ × ℕ)) (n hash : ℕ) → AllAgree hash_at marks →
    hash ≡ hash_at n → AllAgree hash_at (marks ++ (n, hash) ∷ [])
agree_more hash_at [] n hash agree here =
    agree_cons hash_at (n, hash) [] here (nothing_there hash_at)
agree_more hash_at (first ∷ marks) n hash agree here =
    agree_cons hash_at first (marks ++ (n, hash) ∷ []) (agree 0 first refl)
    (agree_more hash_at marks n hash (λ i mark at. agree (suc i) mark at) here)

marks_recorded :
    (frames : ℕ → List Entry) (hash hash_at : ℕ → ℕ) (n : ℕ) →
    ((k : ℕ) → k < n → hash k ≡ hash_at (k + 1)) →
    AllAgree hash_at (marks_of (recorded frames hash n))
marks_recorded frames hash hash_at zero same = nothing_there hash_at
marks_recorded frames hash hash_at (suc n) same =
    let before = recorded frames hash n in
    let last : length (frames_of before) + 1 ≡ n + 1 =
    omega (arith, count_recorded frames hash n) in
    let marks : marks_of (recorded frames hash (suc n))
    ≡ marks_of before ++ (n + 1, hash n) ∷ [] =
    marks_more 0 before (frames n) (hash n)
    ∙ ap (λ (k : ℕ). marks_of before ++ (k, hash n) ∷ []) (omega (arith, last)) in
    subst (AllAgree hash_at) (sym marks)
    (agree_more hash_at (marks_of before) (n + 1) (hash n)
    (marks_recorded frames hash hash_at n (λ k below. same k (omega (arith, below))))
    (same n (omega arith)))

-- The worlds of the replay of a match are the agreed ones.
world_recorded :
    {W : Type 0} (m : Match W) (first_hash : W → ℕ) (rules seed : ℕ) (columns : List Column)
    (n k : ℕ) → k ≤ n →
    world_in (rerun_of m first_hash) (replay_of m rules seed columns n).parts k
    ≡ agreed_world m columns k
world_recorded m first_hash rules seed columns n k few =
    folded_same m.after m.start (frame_in (replay_of m rules seed columns n).parts)
    (frame_at columns) k
    (λ j below. frame_recorded (frame_at columns) (hash_after_frame m columns) n j
    (omega (arith, below, few)))

-- The replay of a match gives the agreed world, and no mark of it differs.
pub record_replayed :
    {W : Type 0} (m : Match W) (first_hash : W → ℕ) (rules seed : ℕ) (columns : List Column)
    (n : ℕ) →
    replayed (rerun_of m first_hash) (replay_of m rules seed columns n)
    ≡ agreed_replayed m columns n
record_replayed m first_hash rules seed columns n =
    let run = rerun_of m first_hash in
    let r = replay_of m rules seed columns n in
    let count : frame_count r ≡ n =
    count_recorded (frame_at columns) (hash_after_frame m columns) n in
    let world : world_in run r.parts (frame_count r) ≡ agreed_world m columns n =
    ap (world_in run r.parts) count
    ∙ world_recorded m first_hash rules seed columns n n (omega arith) in
    let agree : AllAgree (hash_in run r) (marks_of r.parts) =
    marks_recorded (frame_at columns) (hash_after_frame m columns) (hash_in run r) n
    (λ k below. ap m.hash
    (sym (world_recorded m first_hash rules seed columns n (k + 1) (omega (arith, below))))) in
    same_replayed (replayed run r) (agreed_replayed m columns n)
    (none_differs (hash_in run r) (marks_of r.parts) agree) count world

-- ---- migrated replays

marks_agree_anew :
    (hash_at other : ℕ → ℕ) (marks : List (ℕ × ℕ)) → ((n : ℕ) → hash_at n ≡ other n) →
    AllAgree other (map (anew hash_at) marks)
marks_agree_anew hash_at other [] same = nothing_there other
marks_agree_anew hash_at other (first ∷ marks) same =
    agree_cons other (anew hash_at first) (map (anew hash_at) marks) (same first.0)
    (marks_agree_anew hash_at other marks same)

-- A migrated replay gives what the old one gives, if no mark of that differs.
pub migrated_replayed :
    {W : Type 0} (run : Rerun W) (r : Replay) → difference_of run r ≡ None →
    replayed run (migrated_over run r) ≡ replayed run r
migrated_replayed run r none =
    let new = migrated_over run r in
    let hash : ℕ → ℕ = λ n. run.hash (world_in run r.parts n) in
    let frames : frames_of new.parts ≡ frames_of r.parts = migrated_frames hash r in
    let world_same : (n : ℕ) → world_in run new.parts n ≡ world_in run r.parts n =
    λ n. folded_same run.after run.start (frame_in new.parts) (frame_in r.parts) n
    (λ k below. ap (λ (fs : List (List Entry)). unwrap_or (slice_get fs k) []) frames) in
    let count : frame_count new ≡ frame_count r =
    ap (λ (fs : List (List Entry)). length fs) frames in
    let agree : AllAgree (hash_in run new) (marks_of new.parts) =
    subst (AllAgree (hash_in run new)) (sym (migrated_marks hash r))
    (marks_agree_anew hash (hash_in run new) (marks_of r.parts)
    (λ n. ap run.hash (sym (world_same n)))) in
    same_replayed (replayed run new) (replayed run r)
    (none_differs (hash_in run new) (marks_of new.parts) agree ∙ sym none) count
    (ap (world_in run new.parts) count ∙ world_same (frame_count r))
