-- The laws of runs from a frame on.
use Rattle.std.specs.Prelude.{◌≡◌, ℕ, zero, suc, ◌+◌, ◌-◌, ◌≤◌, nat_le, nat_lt, Bool, true, false}
use Rattle.std.specs.Prelude.{List, [], ◌∷◌}
use Rattle.std.specs.List.{filter}
use Rattle.std.proofs.Common.{refl, ap, ap₂, ◌∙◌, arith}
use Rattle.std.proofs.lemmas.Bool.Decides.{nat_tests}
use Rattle.game_orders.specs.declared.entry.Entry.{Entry}
use Rattle.frame_core.specs.Fold.{folded}
use Rattle.replay_file.specs.declared.replay.Replay.{Replay}
use Rattle.replay_file.specs.Frames.{marks_of}
use Rattle.replay_run.specs.RecordLaws.{AllAgree}
use Rattle.replay_run.specs.Rerun.{Rerun, differs, first_difference, frame_count}
use Rattle.replay_run.specs.Rerun.{frame_in, hash_from, hash_in, mark_hash, marks_before}
use Rattle.replay_run.specs.Rerun.{replayed, replayed_from, replayed_late, resumed_at, world_from}
use Rattle.replay_run.specs.Rerun.{world_in}
use Rattle.replay_run.proofs.RerunLemmas.{same_differences, same_replayed}

-- A fold over the first frames, and on over the others.
folded_on :
    {W : Type 0} (after : W → List Entry → W) (start : W) (frames : ℕ → List Entry) (k n : ℕ) →
    folded after (folded after start frames k) (λ i. frames (k + i)) n
    ≡ folded after start frames (n + k)
folded_on after start frames k zero =
    let none : k ≡ 0 + k = omega arith in
    ap (folded after start frames) none
folded_on after start frames k (suc n) =
    let next : k + n ≡ n + k = omega arith in
    let count : suc (n + k) ≡ suc n + k = omega arith in
    ap₂ after (folded_on after start frames k n) (ap frames next)
    ∙ ap (folded after start frames) count

-- The worlds of a run that goes on are those of the whole run.
pub resumed_worlds :
    {W : Type 0} (run : Rerun W) (r : Replay) (k m : ℕ) → k ≤ m →
    world_from (resumed_at run k r) k r.parts m ≡ world_in run r.parts m
resumed_worlds run r k m late =
    let count : (m - k) + k ≡ m = omega (arith, late) in
    folded_on run.after run.start (frame_in r.parts) k (m - k)
    ∙ ap (folded run.after run.start (frame_in r.parts)) count

-- What it gives is what the whole run gives of the later marks.
pub resumed_given :
    {W : Type 0} (run : Rerun W) (r : Replay) (k : ℕ) → k ≤ frame_count r →
    replayed_from (resumed_at run k r) k r ≡ replayed_late run k r
resumed_given run r k few =
    same_replayed (replayed_from (resumed_at run k r) k r) (replayed_late run k r)
    (same_differences k (hash_from (resumed_at run k r) k r) (hash_in run r) (marks_of r.parts)
    (λ n late. ap (mark_hash run r.version) (resumed_worlds run r k n late)))
    refl
    (resumed_worlds run r k (frame_count r) few)

-- Where no mark before differs, the first difference is among the later ones.
late_difference :
    (hash_at : ℕ → ℕ) (k : ℕ) (marks : List (ℕ × ℕ)) →
    AllAgree hash_at (filter (λ mark. nat_lt mark.0 k) marks) →
    first_difference hash_at (filter (λ mark. nat_le k mark.0) marks)
    ≡ first_difference hash_at marks
late_difference hash_at k [] agree = refl
late_difference hash_at k (mark ∷ marks) agree =
    by_test (nat_lt mark.0 k) refl (λ rest. late_difference hash_at k marks rest)
  where
    by_agreement :
        (test : Bool) → differs hash_at mark ≡ test → test ≡ false →
        first_difference hash_at marks ≡ first_difference hash_at (mark ∷ marks)
    by_agreement true is same = absurd cc
    by_agreement false is same = rw is refl

    by_difference :
        (test : Bool) → differs hash_at mark ≡ test →
        first_difference hash_at (filter (λ m. nat_le k m.0) marks)
        ≡ first_difference hash_at marks →
        first_difference hash_at (mark ∷ filter (λ m. nat_le k m.0) marks)
        ≡ first_difference hash_at (mark ∷ marks)
    by_difference true is rest = rw is refl
    by_difference false is rest = rw is rest

    by_test :
        (test : Bool) → nat_lt mark.0 k ≡ test →
        (AllAgree hash_at (filter (λ m. nat_lt m.0 k) marks) →
        first_difference hash_at (filter (λ m. nat_le k m.0) marks)
        ≡ first_difference hash_at marks) →
        first_difference hash_at (filter (λ m. nat_le k m.0) (mark ∷ marks))
        ≡ first_difference hash_at (mark ∷ marks)
    by_test true is later =
        let early : nat_le k mark.0 ≡ false = grind (arith, nat_tests) in
        let all : AllAgree hash_at (mark ∷ filter (λ (m : ℕ × ℕ). nat_lt m.0 k) marks) =
        rw is at agree in
        let here : mark.1 ≡ hash_at mark.0 = all 0 mark refl in
        let same : differs hash_at mark ≡ false = grind (arith, nat_tests) in
        rw early
        (later (λ i m at. all (suc i) m at)
        ∙ by_agreement (differs hash_at mark) refl same)
    by_test false is later =
        let late : nat_le k mark.0 ≡ true = grind (arith, nat_tests) in
        let all : AllAgree hash_at (filter (λ (m : ℕ × ℕ). nat_lt m.0 k) marks) =
        rw is at agree in
        rw late
        (by_difference (differs hash_at mark) refl (later all))

-- So where none of those before differs it gives the same.
pub resumed_same :
    {W : Type 0} (run : Rerun W) (r : Replay) (k : ℕ) → k ≤ frame_count r →
    AllAgree (hash_in run r) (marks_before k r.parts) →
    replayed_from (resumed_at run k r) k r ≡ replayed run r
resumed_same run r k few agree =
    resumed_given run r k few
    ∙ same_replayed (replayed_late run k r) (replayed run r)
    (late_difference (hash_in run r) k (marks_of r.parts) agree) refl refl

pub ruleset resumed_laws = (resumed_worlds, resumed_given, resumed_same)
