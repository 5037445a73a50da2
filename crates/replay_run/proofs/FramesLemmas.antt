-- The frames of a replay's parts, taken off one by one.
use Rattle.std.specs.Prelude.{◌≡◌, ℕ, ◌+◌, ◌<◌, ◌≤◌, nat_le, false, List, [], ◌∷◌, length}
use Rattle.std.specs.Prelude.{Option, Some, None}
use Rattle.std.specs.List.{filter}
use Rattle.std.proofs.Common.{refl, sym, ap, subst, ◌∙◌, arith}
use Rattle.std.proofs.lemmas.Bool.Decides.{nat_tests}
use Rattle.game_orders.specs.declared.entry.Entry.{Entry}
use Rattle.replay_file.specs.declared.part.Part.{Part}
use Rattle.replay_file.specs.declared.part.Part.TheVariants.{Frame, Mark}
use Rattle.replay_file.specs.declared.replay.Replay.{Replay}
use Rattle.replay_file.specs.Frames.{frames_of, marks_after}
use Rattle.replay_run.specs.Playing.{after_frame, TakesFrame}
use Rattle.replay_run.specs.Rerun.{frame_count}
use Rattle.replay_run.proofs.RerunLemmas.{next_frame}
use Rattle.replay_run.specs.Skipping.{IsSkipped}

-- No mark that has `from` frames before it stands before the next frame.
marks_stay :
    (from n : ℕ) (parts : List Part) (frame : List Entry) (rest : List (List Entry)) →
    frames_of parts ≡ frame ∷ rest → n < from →
    filter (λ mark. nat_le from mark.0) (marks_after (n + 1) (after_frame parts))
    ≡ filter (λ mark. nat_le from mark.0) (marks_after n parts)
marks_stay from n [] frame rest is few = absurd cc
marks_stay from n (Frame entries ∷ parts) frame rest is few = refl
marks_stay from n (Mark hash ∷ parts) frame rest is few =
    let early : nat_le from n ≡ false = grind (arith, nat_tests) in
    rw early (marks_stay from n parts frame rest is few)

pub skipped_more :
    (r : Replay) (from n : ℕ) (left new : List Part) (taken : Option (List Entry)) →
    IsSkipped r from n left → n < from → from ≤ frame_count r → TakesFrame left new taken →
    IsSkipped r from (n + 1) new
skipped_more r from n left new None is few all takes =
    let none : length (frames_of left) ≡ 0 =
    ap (λ (frames : List (List Entry)). length frames) takes.0 in
    absurd (omega (arith, is.count, none, few, all))
skipped_more r from n left new (Some frame) is few all takes =
    let more : length (frames_of left) ≡ length (frames_of new) + 1 =
    ap (λ (frames : List (List Entry)). length frames) takes.0 ∙ omega arith in
    let next = next_frame (frames_of r.parts) n frame (frames_of new) (is.frames ∙ takes.0) in
    record {
      frames = next.1;
      count = omega (arith, is.count, more);
      marks =
          ap (λ (parts : List Part). filter (λ mark. nat_le from mark.0) (marks_after (n + 1) parts))
          takes.1
          ∙ marks_stay from n left frame (frames_of new) takes.0 few ∙ is.marks;
    }

pub begun : (r : Replay) (from : ℕ) (left : List Part) → left ≡ r.parts → IsSkipped r from 0 left
begun r from left all =
    let here : IsSkipped r from 0 r.parts =
    record { frames = refl; count = omega arith; marks = refl } in
    subst (IsSkipped r from 0) (sym all) here

pub ruleset skip_steps = (skipped_more, begun)
