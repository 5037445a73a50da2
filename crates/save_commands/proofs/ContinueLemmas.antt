-- What `continue` answers of the save that `save` writes.
use Rattle.std.specs.Prelude.{◌≡◌, ℕ, ◌≤◌, ◌==◌, nat_lt, ◌&&◌, true, false, List, Result, Ok}
use Rattle.std.proofs.Common.{refl, sym, ap, ap₂, subst, ◌∙◌, arith}
use Rattle.std.proofs.lemmas.Bool.Decides.{nat_tests}
use Rattle.base.specs.Steps.{◌>>=◌}
use Rattle.command_answers.specs.Reply.{Reply}
use Rattle.command_answers.specs.Step.{Step}
use Rattle.game_model.specs.Setup.{Setup}
use Rattle.game_model.specs.World.{clients_of}
use Rattle.game_save.specs.declared.save_fault.SaveFault.{SaveFault}
use Rattle.game_save.specs.declared.saved.Saved.{Saved}
use Rattle.game_save.specs.ReadSave.{read_save_of}
use Rattle.replay_commands.specs.Refusals.{read_step}
use Rattle.replay_commands.specs.SaveRefusals.{read_save_step}
use Rattle.replay_commands.specs.Replays.{game_first_hash, game_rerun, replay_reply, replayed_reply}
use Rattle.replay_file.specs.declared.replay.Replay.{Replay}
use Rattle.replay_file.specs.declared.replay_fault.ReplayFault.{ReplayFault}
use Rattle.replay_file.specs.Reading.{read_of}
use Rattle.replay_run.specs.declared.replayed.Replayed.{Replayed}
use Rattle.replay_run.specs.RecordLaws.{AllAgree}
use Rattle.replay_run.specs.Rerun.{Rerun, frame_count, hash_in, marks_before, replayed, replayed_from}
use Rattle.replay_run.specs.Rerun.{replayed_late, rerun_over, resumed_at}
use Rattle.tick_core.specs.Game.{GameState, game_after, game_hash, game_summary}
use Rattle.save_commands.specs.Continuing.{GoesOn}
use Rattle.save_commands.specs.Refusals.{of_match, with_frames}
use Rattle.save_commands.specs.Saves.{continue_step, continued_reply, game_at, saved_at}
use Rattle.save_commands.proofs.GameLemmas.{game_kept, resumed_is}

-- The reply by the save and by the replay, once both were read.
abbrev continues_with : (name : List ℕ) → Setup → Saved → Replay → Step Reply
continues_with name setup saved r =
    of_match name saved r >>= λ same. with_frames name saved.frames same >>= λ long.
    Ok (continued_reply setup saved long)

abbrev continues_read :
    (save name : List ℕ) → Setup → Result Saved SaveFault → Result Replay ReplayFault → Step Reply
continues_read save name setup read replay =
    read_save_step save read >>= λ saved. read_step name replay >>= λ r.
    continues_with name setup saved r

fits_match :
    (name : List ℕ) (setup : Setup) (frames : ℕ) (r : Replay) →
    of_match name (saved_at setup frames r) r ≡ Ok r
fits_match name setup frames r =
    let kept = game_kept setup r frames in
    let clients : (r.clients == clients_of (game_at setup r frames).world) ≡ true =
    let same : r.clients ≡ clients_of (game_at setup r frames).world = sym kept.count in
    grind (arith, nat_tests) in
    let seed : (r.seed == (game_at setup r frames).world.seed) ≡ true =
    let same : r.seed ≡ (game_at setup r frames).world.seed = sym kept.drawn in
    grind (arith, nat_tests) in
    rw (clients, seed) refl

fits_frames :
    (name : List ℕ) (frames : ℕ) (r : Replay) → frames ≤ frame_count r →
    with_frames name frames r ≡ Ok r
fits_frames name frames r few =
    let enough : nat_lt (frame_count r) frames ≡ false = grind (arith, nat_tests) in
    rw enough refl

abbrev replayed_over : Replay → ℕ → GameState → Replayed GameState
replayed_over r frames game =
    replayed_from (rerun_over game_after game_hash game_first_hash game_summary game) frames r

abbrev replies : Replayed GameState → Step Reply
replies given = Ok (replayed_reply given)

-- The reply is that of a run from the frame on.
continued :
    (rules : ℕ) (setup : Setup) (frames : ℕ) (save name saved bytes : List ℕ) (r : Replay) →
    read_save_of rules setup saved ≡ Ok (saved_at setup frames r) → read_of rules bytes ≡ Ok r →
    frames ≤ frame_count r →
    continue_step save name rules setup saved bytes
    ≡ replies (replayed_from (resumed_at (game_rerun setup r) frames r) frames r)
continued rules setup frames save name saved bytes r read replay few =
    ap₂ (continues_read save name setup) read replay
    ∙ ap (λ (same : Step Replay). same >>= λ s. with_frames name frames s >>= λ long.
    Ok (continued_reply setup (saved_at setup frames r) long)) (fits_match name setup frames r)
    ∙ ap (λ (long : Step Replay). long >>= λ l.
    Ok (continued_reply setup (saved_at setup frames r) l)) (fits_frames name frames r few)
    ∙ ap (λ (game : GameState). replies (replayed_over r frames game)) (resumed_is setup r frames)

-- The reply to `replay` by what was read.
abbrev replay_replies : List ℕ → Setup → Result Replay ReplayFault → Step Reply
replay_replies name setup read = read_step name read >>= λ r. Ok (replay_reply setup r)

pub goes_on :
    (rules : ℕ) (setup : Setup) (frames : ℕ) (save name saved bytes : List ℕ) (r : Replay) →
    ((run : Rerun GameState) (r : Replay) (k : ℕ) → k ≤ frame_count r →
    replayed_from (resumed_at run k r) k r ≡ replayed_late run k r) →
    ((run : Rerun GameState) (r : Replay) (k : ℕ) → k ≤ frame_count r →
    AllAgree (hash_in run r) (marks_before k r.parts) →
    replayed_from (resumed_at run k r) k r ≡ replayed run r) →
    read_save_of rules setup saved ≡ Ok (saved_at setup frames r) → read_of rules bytes ≡ Ok r →
    frames ≤ frame_count r → GoesOn rules setup frames save name saved bytes r
goes_on rules setup frames save name saved bytes r late same read replay few =
    let given = continued rules setup frames save name saved bytes r read replay few in
    record {
      late = given ∙ ap replies (late (game_rerun setup r) r frames few);
      same = λ agree.
          given ∙ ap replies (same (game_rerun setup r) r frames few agree)
          ∙ ap (replay_replies name setup) (sym replay);
    }

-- So it is for each replay of these bytes.
pub all_go_on :
    (rules : ℕ) (setup : Setup) (frames : ℕ) (save name saved bytes : List ℕ) (r other : Replay) →
    ((run : Rerun GameState) (r : Replay) (k : ℕ) → k ≤ frame_count r →
    replayed_from (resumed_at run k r) k r ≡ replayed_late run k r) →
    ((run : Rerun GameState) (r : Replay) (k : ℕ) → k ≤ frame_count r →
    AllAgree (hash_in run r) (marks_before k r.parts) →
    replayed_from (resumed_at run k r) k r ≡ replayed run r) →
    read_save_of rules setup saved ≡ Ok (saved_at setup frames r) → read_of rules bytes ≡ Ok r →
    read_of rules bytes ≡ Ok other → frames ≤ frame_count r →
    GoesOn rules setup frames save name saved bytes other
all_go_on rules setup frames save name saved bytes r other late same read replay again few =
    let both : Ok r ≡ Ok other = sym replay ∙ again in
    let one : r ≡ other = cc in
    subst (GoesOn rules setup frames save name saved bytes) one
    (goes_on rules setup frames save name saved bytes r late same read replay few)
