-- Two replays that are gone over frame by frame.
use Rattle.std.specs.Prelude.{◌≡◌, ℕ, zero, suc, ◌+◌, ◌-◌, ◌<◌, ◌≤◌, ◌==◌, nat_lt, true, false}
use Rattle.std.specs.Prelude.{List, [], ◌∷◌, drop, length, slice_get, unwrap_or}
use Rattle.std.specs.Prelude.{Option, None, option_map}
use Rattle.std.specs.List.{find}
use Rattle.std.proofs.Common.{refl, sym, ap, ap₂, ◌∙◌, arith, add-one}
use Rattle.std.proofs.lemmas.Bool.Decides.{nat_tests}
use Rattle.game_orders.specs.declared.entry.Entry.{Entry}
use Rattle.replay_file.specs.declared.part.Part.{Part}
use Rattle.replay_file.specs.declared.part.Part.TheVariants.{Frame, Mark}
use Rattle.replay_file.specs.declared.replay.Replay.{Replay}
use Rattle.replay_file.specs.Frames.{frames_of, marks_after, marks_of}
use Rattle.replay_run.specs.Playing.{after_frame}
use Rattle.replay_run.specs.Rerun.{frame_in}
use Rattle.compare_command.specs.declared.subject.Subject.TheVariants.{Entry as OfEntry, Mark as OfMark}
use Rattle.compare_command.specs.Difference.{Difference, Entries, Hashes, compared_if}
use Rattle.compare_command.specs.Each.{is_any, least, or_else}
use Rattle.compare_command.specs.Found.{FoundState, with_found}
use Rattle.compare_command.specs.Replays.{differences_in, entry_differences, frame_differences}
use Rattle.compare_command.specs.Replays.{mark_at, mark_differences}
use Rattle.compare_command.specs.Walking.{after_frames, first_frame, first_mark}
use Rattle.compare_command.proofs.FoundLemmas.{all_found, next_found}
use Rattle.compare_command.proofs.ListLemmas.{drop_on, first_left}

-- A client's entries.
pub entry_found :
    (n client : ℕ) (frame other : List Entry) (entry entry' : Option Entry) (old new : FoundState) →
    entry ≡ slice_get frame client → entry' ≡ slice_get other client →
    new ≡ with_found old (compared_if (OfEntry n client) Entries entry entry') →
    new ≡ with_found old (entry_differences n frame other client)
entry_found n client frame other entry entry' old new here there found =
    found ∙ ap₂ (λ (a b : Option Entry). with_found old (compared_if (OfEntry n client) Entries a b))
    here there

-- More differences are counted where some were found.
pub any_found :
    (old new : FoundState) (differences : List Difference) → new ≡ with_found old differences →
    nat_lt old.count new.count ≡ is_any differences
any_found old new [] found =
    let same : new.count ≡ old.count + 0 = ap (λ (f : FoundState). f.count) found in
    grind (arith, nat_tests, same)
any_found old new (d ∷ differences) found =
    let more : new.count ≡ old.count + length (d ∷ differences) =
    ap (λ (f : FoundState). f.count) found in
    let less : old.count < new.count = omega (arith, more) in
    grind (arith, nat_tests, less)

-- ---- the least number that has a difference

abbrev pub least_of : (ℕ → List Difference) → (count n : ℕ) → List Difference
least_of found count n = least found n (count - n)

least_step :
    (found : ℕ → List Difference) (count n : ℕ) → n < count →
    least_of found count n ≡ or_else (found n) (least_of found count (n + 1))
least_step found count n below =
    let left : count - n ≡ suc (count - (n + 1)) = omega (arith, below) in
    ap (least found n) left

pub least_all :
    (found : ℕ → List Difference) (count : ℕ) (old : FoundState) →
    with_found old (least_of found count 0) ≡ with_found old (least found 0 count)
least_all found count old =
    let left : count - 0 ≡ count = omega arith in
    ap (λ (n : ℕ). with_found old (least found 0 n)) left

-- The number has none.
pub least_later :
    (found : ℕ → List Difference) (count n : ℕ) (target now new : FoundState)
    (here : List Difference) → n < count → with_found now (least_of found count n) ≡ target →
    here ≡ found n → new ≡ with_found now here → is_any here ≡ false →
    with_found new (least_of found count (n + 1)) ≡ target
least_later found count n target now new [] below so_far is none any =
    let same : least_of found count n ≡ least_of found count (n + 1) =
    least_step found count n below
    ∙ ap (λ (ds : List Difference). or_else ds (least_of found count (n + 1))) (sym is) in
    next_found target now new (least_of found count n) [] (least_of found count (n + 1)) same so_far
    none
least_later found count n target now new (d ∷ here) below so_far is some any = absurd cc

-- It has some.
pub least_here :
    (found : ℕ → List Difference) (count n : ℕ) (target now new : FoundState)
    (here : List Difference) → n < count → with_found now (least_of found count n) ≡ target →
    here ≡ found n → new ≡ with_found now here → is_any here ≡ true → new ≡ target
least_here found count n target now new [] below so_far is none any = absurd cc
least_here found count n target now new (d ∷ here) below so_far is some any =
    let all : least_of found count n ≡ d ∷ here =
    least_step found count n below
    ∙ ap (λ (ds : List Difference). or_else ds (least_of found count (n + 1))) (sym is) in
    some ∙ ap (with_found now) (sym all) ∙ so_far

pub least_over :
    (found : ℕ → List Difference) (count n : ℕ) (target now : FoundState) → count ≤ n →
    with_found now (least_of found count n) ≡ target → now ≡ target
least_over found count n target now past so_far =
    let left : count - n ≡ 0 = omega (arith, past) in
    all_found target now (least_of found count n) (ap (least found n) left) so_far

-- ---- what is left of the parts

pub after_next :
    (n : ℕ) (parts : List Part) → after_frame (after_frames n parts) ≡ after_frames (suc n) parts
after_next zero parts = refl
after_next (suc n) parts = after_next n (after_frame parts)

pub left_after :
    (n : ℕ) (all now new : List Part) → now ≡ after_frames n all → new ≡ after_frame now →
    new ≡ after_frames (n + 1) all
left_after n all now new here is =
    is ∙ ap after_frame here ∙ after_next n all
    ∙ ap (λ (k : ℕ). after_frames k all) (sym (add-one n))

-- Frames.
head_frame :
    (parts : List Part) → first_frame parts ≡ unwrap_or (slice_get (frames_of parts) 0) []
head_frame [] = refl
head_frame (Frame entries ∷ parts) = refl
head_frame (Mark hash ∷ parts) = head_frame parts

tail_frames : (parts : List Part) → frames_of (after_frame parts) ≡ drop 1 (frames_of parts)
tail_frames [] = refl
tail_frames (Frame entries ∷ parts) = refl
tail_frames (Mark hash ∷ parts) = tail_frames parts

frames_after :
    (n : ℕ) (parts : List Part) → frames_of (after_frames n parts) ≡ drop n (frames_of parts)
frames_after zero parts = refl
frames_after (suc n) parts =
    let more : 1 + n ≡ suc n = omega arith in
    frames_after n (after_frame parts) ∙ ap (drop n) (tail_frames parts)
    ∙ drop_on (frames_of parts) 1 n ∙ ap (λ (k : ℕ). drop k (frames_of parts)) more

pub frame_here :
    (parts left : List Part) (n : ℕ) → left ≡ after_frames n parts →
    first_frame left ≡ frame_in parts n
frame_here parts left n is =
    ap first_frame is ∙ head_frame (after_frames n parts)
    ∙ ap (λ (frames : List (List Entry)). unwrap_or (slice_get frames 0) []) (frames_after n parts)
    ∙ ap (λ (o : Option (List Entry)). unwrap_or o []) (first_left (frames_of parts) n)

-- The differences of the next frames.
pub frames_here :
    (r s : Replay) (n : ℕ) (left left' : List Part) (frame frame' : List Entry) →
    left ≡ after_frames n r.parts → left' ≡ after_frames n s.parts → frame ≡ first_frame left →
    frame' ≡ first_frame left' →
    frame_differences n r.clients frame frame' ≡ differences_in r s n
frames_here r s n left left' frame frame' at at' is is' =
    ap₂ (frame_differences n r.clients) (is ∙ frame_here r.parts left n at)
    (is' ∙ frame_here s.parts left' n at')

-- Marks.
abbrev mark_in : (n : ℕ) → List (ℕ × ℕ) → Option ℕ
mark_in n marks = option_map (λ mark. mark.1) (find (λ mark. mark.0 == n) marks)

none_before :
    (parts : List Part) (start n : ℕ) → n < start → mark_in n (marks_after start parts) ≡ None
none_before [] start n before = refl
none_before (Frame entries ∷ parts) start n before =
    none_before parts (start + 1) n (omega (arith, before))
none_before (Mark hash ∷ parts) start n before =
    let other : (start == n) ≡ false = grind (arith, nat_tests, before) in
    rw other (none_before parts start n before)

mark_first :
    (parts : List Part) (start : ℕ) → mark_in start (marks_after start parts) ≡ first_mark parts
mark_first [] start = refl
mark_first (Frame entries ∷ parts) start = none_before parts (start + 1) start (omega arith)
mark_first (Mark hash ∷ parts) start =
    let same : (start == start) ≡ true = grind (arith, nat_tests) in
    rw same refl

mark_later :
    (n start : ℕ) →
    ((parts : List Part) →
    mark_in ((start + 1) + n) (marks_after (start + 1) parts) ≡ first_mark (after_frames n parts)) →
    (parts : List Part) →
    mark_in (start + suc n) (marks_after start parts) ≡ first_mark (after_frames (suc n) parts)
mark_later n start earlier [] = earlier []
mark_later n start earlier (Frame entries ∷ parts) =
    let same : start + suc n ≡ (start + 1) + n = omega arith in
    ap (λ (k : ℕ). mark_in k (marks_after (start + 1) parts)) same ∙ earlier parts
mark_later n start earlier (Mark hash ∷ parts) =
    let other : (start == start + suc n) ≡ false = grind (arith, nat_tests) in
    rw other (mark_later n start earlier parts)

marks_left :
    (n start : ℕ) (parts : List Part) →
    mark_in (start + n) (marks_after start parts) ≡ first_mark (after_frames n parts)
marks_left zero start parts =
    let same : start + 0 ≡ start = omega arith in
    ap (λ (k : ℕ). mark_in k (marks_after start parts)) same ∙ mark_first parts start
marks_left (suc n) start parts = mark_later n start (marks_left n (start + 1)) parts

mark_here :
    (parts left : List Part) (n : ℕ) → left ≡ after_frames n parts →
    first_mark left ≡ mark_at parts n
mark_here parts left n is =
    let same : 0 + n ≡ n = omega arith in
    ap first_mark is ∙ sym (marks_left n 0 parts)
    ∙ ap (λ (k : ℕ). mark_in k (marks_of parts)) same

-- The difference of the next marks.
pub marks_here :
    (r s : Replay) (n : ℕ) (left left' : List Part) (mark mark' : Option ℕ) →
    left ≡ after_frames n r.parts → left' ≡ after_frames n s.parts → mark ≡ first_mark left →
    mark' ≡ first_mark left' →
    compared_if (OfMark n) Hashes mark mark' ≡ mark_differences r s n
marks_here r s n left left' mark mark' at at' is is' =
    ap₂ (compared_if (OfMark n) Hashes) (is ∙ mark_here r.parts left n at)
    (is' ∙ mark_here s.parts left' n at')
