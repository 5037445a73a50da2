-- A replay played back frame by frame stays the same one.
use Rattle.std.specs.Prelude.{◌≡◌, ℕ, ◌+◌, ◌<◌, Bool, true, false, List, [], ◌∷◌, length, drop}
use Rattle.std.specs.Prelude.{Option, unwrap_or}
use Rattle.std.specs.List.{AllByRecursion}
use Rattle.std.proofs.Common.{sym, ap, ap₂, subst, ◌∙◌, arith}
use Rattle.game_orders.specs.declared.entry.Entry.{Entry}
use Rattle.frame_core.proofs.FoldLemmas.{folded_step}
use Rattle.replay_file.specs.declared.part.Part.{Part}
use Rattle.replay_file.specs.declared.replay.Replay.{Replay}
use Rattle.replay_file.specs.Frames.{frames_of}
use Rattle.replay_file.specs.RuleLaws.{IsFrameOf}
use Rattle.replay_file.proofs.ValidLemmas.{valid_obeys}
use Rattle.replay_file.specs.ValidReplay.{IsValidReplay}
use Rattle.replay_run.specs.Playing.{playback_of, played, FitsPlayback, IsPlayback, PlaybackState}
use Rattle.replay_run.specs.Playing.{PlaysOn, TakesFrame, taken_frame}
use Rattle.replay_run.specs.Rerun.{frame_in}
use Rattle.replay_run.proofs.RerunLemmas.{few_in_all, next_frame}

-- Where a frame was taken it is the first of those that were left.
pub took_frame :
    (old new : List Part) (frame : List Entry) (taken : Bool) →
    TakesFrame old new (taken_frame taken frame) → taken ≡ true →
    frames_of old ≡ frame ∷ frames_of new
took_frame old new frame true takes is = takes.0
took_frame old new frame false takes is = absurd cc

pub plays_on :
    {W : Type 0} (after : W → List Entry → W) (start : W) (r : Replay) (old new : PlaybackState W) →
    PlaysOn after old new true → IsPlayback after start r old → IsPlayback after start r new
plays_on after start r old new (frame, left, frames, world) is =
    let next = next_frame (frames_of r.parts) old.frames frame new.left (is.left ∙ left) in
    let here : frame_in r.parts old.frames ≡ frame =
    ap (λ (o : Option (List Entry)). unwrap_or o []) next.0 in
    let more : length old.left ≡ length new.left + 1 =
    ap (λ (all : List (List Entry)). length all) left ∙ omega arith in
    record {
      world =
          world
          ∙ ap₂ after is.world (sym here)
          ∙ sym (folded_step after start (frame_in r.parts) old.frames)
          ∙ ap (played after start r) (sym frames);
      left = ap (λ (n : ℕ). drop n (frames_of r.parts)) frames ∙ next.1;
      count = omega (arith, is.count, more, frames);
    }

each_fits :
    {W : Type 0} (clients_of : W → ℕ) (world : W) (clients : ℕ) (frames : List (List Entry)) →
    clients_of world ≡ clients → AllByRecursion (IsFrameOf clients) frames →
    AllByRecursion (λ (frame : List Entry). length frame ≡ clients_of world) frames
each_fits clients_of world clients [] same each = tt
each_fits clients_of world clients (frame ∷ frames) same each =
    (each.0.0 ∙ sym same, each_fits clients_of world clients frames same each.1)

-- A valid replay fits an opening world of its clients.
pub begins_fit :
    {W : Type 0} (clients_of steps : W → ℕ) (world : W) (r : Replay) (parts : List Part) →
    IsValidReplay r → clients_of world ≡ r.clients → steps world ≡ 0 → parts ≡ r.parts →
    FitsPlayback clients_of steps (playback_of world (record r { parts = parts }))
begins_fit clients_of steps world r parts valid clients fresh all =
    let obeys = valid_obeys r valid in
    let here : FitsPlayback clients_of steps (playback_of world r) = record {
      each = each_fits clients_of world r.clients (frames_of r.parts) clients obeys.each;
      made = fresh;
      few = omega (arith, few_in_all r valid);
    } in
    subst (λ (parts : List Part).
    FitsPlayback clients_of steps (playback_of world (record r { parts = parts }))) (sym all) here

-- One frame further.
pub played_more :
    {W : Type 0} (after : W → List Entry → W) (start : W) (r : Replay) (old new : PlaybackState W)
    (on : Bool) → PlaysOn after old new on → IsPlayback after start r old →
    old.frames < length (frames_of r.parts) → new.frames ≡ old.frames + 1
played_more after start r old new true plays is more = plays.2
played_more after start r old new false plays is more =
    let none : length old.left ≡ 0 =
    ap (λ (frames : List (List Entry)). length frames) plays.0 in
    absurd (omega (arith, is.count, none, more))

pub ruleset playing_steps = (plays_on, played_more)
