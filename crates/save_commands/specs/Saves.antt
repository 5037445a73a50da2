-- The replies to the commands on saves.
use Rattle.std.specs.Prelude.{ℕ, List, ◌++◌, length, codes, Some, Ok}
use Rattle.std.specs.Fmt.{decimal}
use Rattle.base.specs.Steps.{◌>>=◌}
use Rattle.command_answers.specs.declared.statuses.TheConstants.{DONE}
use Rattle.command_answers.specs.Reply.{Reply}
use Rattle.command_answers.specs.Step.{Step}
use Rattle.drill.specs.Text.{end_line}
use Rattle.game_model.specs.Setup.{Setup}
use Rattle.game_save.specs.declared.saved.Saved.{Saved}
use Rattle.game_save.specs.ReadSave.{read_save_of}
use Rattle.game_save.specs.SaveBytes.{save_bytes}
use Rattle.replay_commands.specs.Refusals.{read_step}
use Rattle.replay_commands.specs.SaveRefusals.{read_save_step}
use Rattle.replay_commands.specs.Replays.{game_first_hash, replayed_reply, written}
use Rattle.replay_file.specs.declared.replay.Replay.{Replay}
use Rattle.replay_file.specs.Reading.{read_of}
use Rattle.replay_run.specs.Playing.{played}
use Rattle.replay_run.specs.Rerun.{Rerun, rerun_over, replayed_from}
use Rattle.tick_core.specs.Game.{GameState, game_after, game_hash, game_start, game_summary}
use Rattle.save_commands.specs.Refusals.{of_match, with_frames}

-- ---- `save`

-- The game after the first n frames of the replay.
abbrev pub game_at : Setup → Replay → (n : ℕ) → GameState
game_at setup r n = played game_after (game_start setup r.seed r.clients) r n

-- What the save of a game has, and that of the game there.
abbrev pub saved_of : GameState → Saved
saved_of game = record { frames = game.steps; world = game.world }

abbrev pub saved_at : Setup → (frames : ℕ) → Replay → Saved
saved_at setup frames r = record { frames = frames; world = (game_at setup r frames).world }

-- The bytes of the save there.
abbrev pub save_bytes_at : (rules frames : ℕ) → Setup → Replay → List ℕ
save_bytes_at rules frames setup r = save_bytes rules frames (game_at setup r frames).world

unfoldable pub saved_line : (frames bytes : ℕ) → List ℕ
saved_line frames bytes =
    codes "saved frames " ++ decimal frames ++ codes " bytes " ++ decimal bytes ++ codes "\n"

abbrev pub saved_lines : (frames bytes : ℕ) → List ℕ
saved_lines frames bytes = saved_line frames bytes ++ end_line

-- The reply to `save`, which writes the file `to`.
abbrev pub saved_reply : (to : List ℕ) → (frames : ℕ) → (bytes : List ℕ) → Reply
saved_reply to frames bytes =
    record {
      status = DONE;
      text = saved_lines frames (length bytes);
      write = Some (written to bytes);
    }

-- The reply over the bytes of a replay's file with this name, for a match with these rules, or the
-- refusal of the file.
abbrev pub save_step :
    (name : List ℕ) → (frames : ℕ) → (to : List ℕ) → (rules : ℕ) → Setup → (bytes : List ℕ) →
    Step Reply
save_step name frames to rules setup bytes = do
  r ← read_step name (read_of rules bytes)
  long ← with_frames name frames r
  Ok (saved_reply to frames (save_bytes_at rules frames setup long))

-- ---- `continue`

-- The game that goes on from a save.
abbrev pub resumed_game : Setup → Saved → GameState
resumed_game setup saved =
    record { setup = setup; world = saved.world; steps = saved.frames }

-- The game over which the later frames are run.
abbrev pub resumed_rerun : Setup → Saved → Rerun GameState
resumed_rerun setup saved =
    rerun_over game_after game_hash game_first_hash game_summary (resumed_game setup saved)

-- What `replay` answers of what the frames after the save's give.
abbrev pub continued_reply : Setup → Saved → Replay → Reply
continued_reply setup saved r =
    replayed_reply (replayed_from (resumed_rerun setup saved) saved.frames r)

-- The reply over the bytes of a save's file and of a replay's file with these names, or the first
-- refusal. All faults of the save come first.
abbrev pub continue_step :
    (save name : List ℕ) → (rules : ℕ) → Setup → (save_bytes bytes : List ℕ) → Step Reply
continue_step save name rules setup save_bytes bytes = do
  saved ← read_save_step save (read_save_of rules setup save_bytes)
  r ← read_step name (read_of rules bytes)
  same ← of_match name saved r
  long ← with_frames name saved.frames same
  Ok (continued_reply setup saved long)
