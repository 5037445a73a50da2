-- The reply to `view`: what a client sees after a replay, and what it has explored in its course.
use Rattle.std.specs.Prelude.{ℕ, ◌+◌, nat_lt, if◌then◌else◌, List, map, codes, Ok, Err}
use Rattle.std.specs.List.{range_with_len}
use Rattle.base.specs.Steps.{◌>>=◌}
use Rattle.command_answers.specs.Reply.{Reply, done, refusal}
use Rattle.command_answers.specs.Step.{Step}
use Rattle.game_model.specs.declared.world.World.{World}
use Rattle.game_model.specs.Setup.{Setup}
use Rattle.replay_commands.specs.Refusals.{read_step}
use Rattle.replay_file.specs.declared.replay.Replay.{Replay}
use Rattle.replay_file.specs.Reading.{read_of}
use Rattle.replay_run.specs.Playing.{played}
use Rattle.replay_run.specs.Rerun.{frame_count}
use Rattle.shroud.specs.Explored.{is_explored}
use Rattle.shroud.specs.Sights.{is_seen}
use Rattle.tick_core.specs.Game.{game_after, game_start}
use Rattle.view_command.specs.ViewText.{view_lines}

-- The world after the first n frames of the replay, over these rules and this map.
abbrev pub world_after : Setup → Replay → (n : ℕ) → World
world_after setup r n = (played game_after (game_start setup r.seed r.clients) r n).world

-- The worlds after the first frames, from the opening one to that after n frames.
abbrev pub worlds_to : Setup → Replay → (n : ℕ) → List World
worlds_to setup r n = map (world_after setup r) (range_with_len 0 (n + 1))

-- What is printed of a client of the match.
abbrev pub view_text : Setup → Replay → (client : ℕ) → List ℕ
view_text setup r client =
    view_lines
    (is_seen setup.rules (world_after setup r (frame_count r)).actors client)
    (is_explored setup.rules (worlds_to setup r (frame_count r)) client)
    client (frame_count r) setup.map.width setup.map.height

-- The refusal of a client that the match has not.
abbrev pub no_such_client : Reply
no_such_client = refusal (codes "view") 0 (codes "NoSuchClient")

-- The text, or the refusal: exactly where the client isn't below the replay's clients.
abbrev pub client_step : Setup → Replay → (client : ℕ) → Step Reply
client_step setup r client =
    if nat_lt client r.clients then Ok (done (view_text setup r client)) else Err no_such_client

-- The reply over the bytes of a replay's file with this name, for a match with these rules, or its
-- refusal. Marks aren't compared.
abbrev pub view_step :
    (name : List ℕ) → (client rules : ℕ) → Setup → (bytes : List ℕ) → Step Reply
view_step name client rules setup bytes = do
  r ← read_step name (read_of rules bytes)
  client_step setup r client
