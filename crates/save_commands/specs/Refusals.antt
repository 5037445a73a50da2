-- The refusals of replays that don't fit what is asked of them.
use Rattle.std.specs.Prelude.{ℕ, ◌==◌, nat_lt, ◌&&◌, if◌then◌else◌, List, Ok, Err, codes}
use Rattle.command_answers.specs.Reply.{refusal}
use Rattle.command_answers.specs.Step.{Step}
use Rattle.game_model.specs.World.{clients_of}
use Rattle.game_save.specs.declared.saved.Saved.{Saved}
use Rattle.replay_file.specs.declared.replay.Replay.{Replay}
use Rattle.replay_run.specs.Rerun.{frame_count}

-- The replay, where it has so many frames.
abbrev pub with_frames : (name : List ℕ) → (frames : ℕ) → Replay → Step Replay
with_frames name frames r =
    if nat_lt (frame_count r) frames then Err (refusal name 0 (codes "TooFewFrames")) else Ok r

-- The replay, where it has the clients and the seed of the save.
abbrev pub of_match : (name : List ℕ) → Saved → Replay → Step Replay
of_match name saved r =
    if (r.clients == clients_of saved.world) && (r.seed == saved.world.seed) then Ok r
    else Err (refusal name 0 (codes "OtherMatch"))
