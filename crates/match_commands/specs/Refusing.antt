-- What the commands on replays and `local` refuse once their files are accepted, and exactly where.
use Rattle.std.specs.Prelude.{◌≡◌, ◌≢◌, ◌⊎◌, ℕ, List, [], Ok, Err, IsOk, codes, false, unwrap_or}
use Rattle.command_words.specs.RequestPlain.{MatchPlain}
use Rattle.drill_words.specs.Script.{ScriptPlain, read_script_of}
use Rattle.game_model.specs.Setup.{Setup}
use Rattle.game_model.specs.World.{clients_of}
use Rattle.game_save.specs.declared.saved.Saved.{Saved}
use Rattle.game_save.specs.ReadSave.{read_save_of}
use Rattle.replay_file.specs.declared.replay.Replay.{Replay}
use Rattle.replay_file.specs.Reading.{read_of}
use Rattle.command_answers.specs.Contents.{Contents}
use Rattle.command_answers.specs.Reply.{Reply, refusal}
use Rattle.command_answers.specs.Step.{Step}
use Rattle.replay_commands.specs.Refusals.{read_step}
use Rattle.rule_commands.specs.Setups.{setup_step}
use Rattle.replay_commands.specs.SaveRefusals.{read_save_step}
use Rattle.rule_commands.specs.Numbers.{numbered_setup_step}

-- The files of a command on a replay are accepted: they are what the match stands on and this
-- replay of it.
pub record Accepts (query : MatchPlain) (contents : Contents) (made : Setup × ℕ) (r : Replay)
    : Type 0 where
  pub stands : numbered_setup_step query.rules query.map_file contents ≡ Ok made
  pub reads : read_step query.file (read_of made.1 (unwrap_or contents.replay [])) ≡ Ok r

-- So is the save of this name, which is read before the replay.
abbrev pub AcceptsSave : (save : List ℕ) → Contents → Setup × ℕ → Saved → Type 0
AcceptsSave save contents made saved =
    read_save_step save (read_save_of made.1 made.0 (unwrap_or contents.first [])) ≡ Ok saved

-- The files of a local match are accepted: they are the rules and the map, and this script.
pub record AcceptsScript
    (query : MatchPlain) (contents : Contents) (setup : Setup) (script : ScriptPlain)
    : Type 0 where
  pub stands :
      setup_step query.rules contents.rules query.map_file contents.map_file ≡ Ok setup
  pub reads : read_script_of false (unwrap_or contents.script []) ≡ Ok script

-- The step is refused with this reply exactly where this is so.
pub record IsRefusedWhere (so : Type 0) (step : Step Reply) (reply : Reply) : Type 0 where
  pub refused : so → step ≡ Err reply
  pub accepted : (so → ⊥) → IsOk step

-- The refusal of a replay of this name that has fewer frames than are asked for.
abbrev pub too_few : List ℕ → Reply
too_few name = refusal name 0 (codes "TooFewFrames")

-- The refusal of a replay of this name that is one of another match than the save.
abbrev pub other_match : List ℕ → Reply
other_match name = refusal name 0 (codes "OtherMatch")

-- The replay has other clients or another seed than the save.
abbrev pub IsOtherMatch : Saved → Replay → Type 0
IsOtherMatch saved r =
    (r.clients ≢ clients_of saved.world) ⊎ (r.seed ≢ saved.world.seed)
