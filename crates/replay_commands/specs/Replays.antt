-- The replies to the commands on replays.
use Rattle.std.specs.Prelude.{◌≡◌, ℕ, List, Option, Some, None, Ok}
use Rattle.base.specs.Steps.{◌>>=◌}
use Rattle.command_answers.specs.declared.statuses.TheConstants.{DONE, MARK_DIFFERS}
use Rattle.command_answers.specs.FileWrite.{FileWrite}
use Rattle.command_answers.specs.Reply.{Reply, printed}
use Rattle.command_answers.specs.Step.{Step}
use Rattle.game_model.specs.Setup.{Setup}
use Rattle.replay_commands.specs.Refusals.{read_step}
use Rattle.replay_file.specs.declared.replay.Replay.{Replay}
use Rattle.replay_file.specs.Reading.{read_of}
use Rattle.replay_file.specs.ReplayBytes.{replay_bytes}
use Rattle.replay_run.specs.declared.difference.Difference.{Difference}
use Rattle.replay_run.specs.declared.replayed.Replayed.{Replayed}
use Rattle.replay_run.specs.Rerun.{Rerun, rerun_over, difference_of, frame_count, mark_count}
use Rattle.replay_run.specs.Rerun.{migrated_over, replayed}
use Rattle.replay_run.specs.Shown.{migrated_lines, refused_lines, replay_lines}
use Rattle.sync_hash.specs.WorldHash.{hash_of_1}
use Rattle.tick_core.specs.Game.{GameState, game_after, game_hash, game_start, game_summary}

-- The hash of a game's world in the first version.
abbrev pub game_first_hash : GameState → ℕ
game_first_hash game = hash_of_1 game.world

-- The game over which a replay is run.
abbrev pub game_rerun : Setup → Replay → Rerun GameState
game_rerun setup r =
    rerun_over game_after game_hash game_first_hash game_summary
    (game_start setup r.seed r.clients)

-- The status, by the differing mark, if there is one.
abbrev pub mark_status : Option Difference → ℕ
mark_status None = DONE
mark_status (Some d) = MARK_DIFFERS

-- The reply to `replay`, of what the replay of the file gives.
abbrev pub replayed_reply : Replayed GameState → Reply
replayed_reply given =
    printed (mark_status given.difference) (replay_lines game_hash game_summary given)

abbrev pub replay_reply : Setup → Replay → Reply
replay_reply setup r = replayed_reply (replayed (game_rerun setup r) r)

abbrev pub written : (name bytes : List ℕ) → FileWrite
written name bytes = record { name = name; bytes = bytes }

-- The reply to `migrate`, which writes the file `to`, by the differing mark.
abbrev pub migrated_reply : Setup → (to : List ℕ) → Replay → Option Difference → Reply
migrated_reply setup to r None =
    record {
      status = DONE;
      text = migrated_lines (frame_count r) (mark_count r);
      write = Some (written to (replay_bytes (migrated_over (game_rerun setup r) r)));
    }
migrated_reply setup to r (Some d) = printed MARK_DIFFERS (refused_lines d)

abbrev pub migrate_reply : Setup → (to : List ℕ) → Replay → Reply
migrate_reply setup to r = migrated_reply setup to r (difference_of (game_rerun setup r) r)

-- The reply over the bytes of a file with this name, for a match with these rules, or its refusal.
abbrev pub replay_step : (name : List ℕ) → (rules : ℕ) → Setup → (bytes : List ℕ) → Step Reply
replay_step name rules setup bytes = do
  r ← read_step name (read_of rules bytes)
  Ok (replay_reply setup r)

abbrev pub migrate_step :
    (name to : List ℕ) → (rules : ℕ) → Setup → (bytes : List ℕ) → Step Reply
migrate_step name to rules setup bytes = do
  r ← read_step name (read_of rules bytes)
  Ok (migrate_reply setup to r)

-- Over these rules and this map `replay` answers this of a file with these bytes, whatever its name
-- is.
abbrev pub ReplaysAs :
    (rules : ℕ) → Setup → (bytes : List ℕ) → (answer : List ℕ → Step Reply) → Type 0
ReplaysAs rules setup bytes answer =
    (name : List ℕ) → replay_step name rules setup bytes ≡ answer name

-- It answers of the written file, if there is one, what it answers of these bytes.
abbrev pub ReplaysAgain : (rules : ℕ) → Setup → (bytes : List ℕ) → Option FileWrite → Type 0
ReplaysAgain rules setup bytes None = Unit {0}
ReplaysAgain rules setup bytes (Some file) =
    ReplaysAs rules setup file.bytes (λ name. replay_step name rules setup bytes)
