-- What `continue` answers of the save that `save` writes: a law of both commands.
use Rattle.std.specs.Prelude.{◌≡◌, ℕ, List, Option, Some, None, Ok}
use Rattle.command_answers.specs.FileWrite.{FileWrite}
use Rattle.game_model.specs.Setup.{Setup}
use Rattle.replay_commands.specs.Replays.{game_rerun, replay_step, replayed_reply}
use Rattle.replay_file.specs.declared.replay.Replay.{Replay}
use Rattle.replay_file.specs.Reading.{read_of}
use Rattle.replay_run.specs.RecordLaws.{AllAgree}
use Rattle.replay_run.specs.Rerun.{hash_in, marks_before, replayed_late}
use Rattle.save_commands.specs.Saves.{continue_step}

-- With the same replay `continue` answers of a save after so many frames what `replay` answers, but
-- for marks before the save, which it doesn't compare: its line is that of `replay`. Where no mark
-- before the save differs its answer is that of `replay`.
pub record GoesOn
    (rules : ℕ) (setup : Setup) (frames : ℕ) (save name saved bytes : List ℕ) (r : Replay)
    : Type 0 where
  pub late :
      continue_step save name rules setup saved bytes
      ≡ Ok (replayed_reply (replayed_late (game_rerun setup r) frames r))
  pub same :
      AllAgree (hash_in (game_rerun setup r) r) (marks_before frames r.parts) →
      continue_step save name rules setup saved bytes ≡ replay_step name rules setup bytes

-- So it is with the save that is written, if one is, and the replay of these bytes.
abbrev pub Continues :
    (rules : ℕ) → Setup → (frames : ℕ) → (bytes : List ℕ) → Option FileWrite → Type 0
Continues rules setup frames bytes None = Unit {0}
Continues rules setup frames bytes (Some file) =
    (save name : List ℕ) (r : Replay) → read_of rules bytes ≡ Ok r →
    GoesOn rules setup frames save name file.bytes bytes r
