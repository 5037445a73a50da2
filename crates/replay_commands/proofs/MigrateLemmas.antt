-- The replay of a migrated file.
use Rattle.std.specs.Prelude.{◌≡◌, ℕ, List, Some, None, Result, Ok, Err}
use Rattle.std.proofs.Common.{sym, ap, ◌∙◌}
use Rattle.base.specs.Steps.{◌>>=◌}
use Rattle.command_answers.specs.Reply.{Reply}
use Rattle.command_answers.specs.Step.{Step}
use Rattle.game_model.specs.Setup.{Setup}
use Rattle.replay_file.specs.declared.replay.Replay.{Replay}
use Rattle.replay_file.specs.declared.replay_fault.ReplayFault.{ReplayFault}
use Rattle.replay_file.specs.FirstFault.{Spells}
use Rattle.replay_file.specs.Reading.{read_of}
use Rattle.replay_file.proofs.ReadingLemmas.{spelled_read}
use Rattle.replay_run.specs.declared.replayed.Replayed.{Replayed}
use Rattle.replay_run.specs.Rerun.{Rerun, difference_of, migrated_over, replayed}
use Rattle.tick_core.specs.Game.{GameState}
use Rattle.replay_commands.specs.Refusals.{read_step}
use Rattle.replay_commands.specs.Replays.{game_rerun, replay_reply, replayed_reply}
use Rattle.replay_commands.specs.Replays.{written, ReplaysAgain}

-- The reply by what was read, and by what it gave.
abbrev replies : List ℕ → Setup → Result Replay ReplayFault → Step Reply
replies name setup read = read_step name read >>= λ r. Ok (replay_reply setup r)

abbrev replies_given : Replayed GameState → Step Reply
replies_given given = Ok (replayed_reply given)

-- The bytes of the migrated replay are replayed as the old ones are.
pub migrated_again :
    (setup : Setup) (to : List ℕ) (r : Replay) (bytes new : List ℕ) →
    ((run : Rerun GameState) (r : Replay) → difference_of run r ≡ None →
    replayed run (migrated_over run r) ≡ replayed run r) →
    difference_of (game_rerun setup r) r ≡ None →
    Spells r.rules new (migrated_over (game_rerun setup r) r) → read_of r.rules bytes ≡ Ok r →
    ReplaysAgain r.rules setup bytes (Some (written to new))
migrated_again setup to r bytes new law none spells read name =
    ap (replies name setup)
    (spelled_read r.rules new (migrated_over (game_rerun setup r) r) spells)
    ∙ ap replies_given (law (game_rerun setup r) r none)
    ∙ ap (replies name setup) (sym read)

-- Where the step has a replay, it is the one that was read.
pub step_read :
    (name : List ℕ) (read : Result Replay ReplayFault) (r : Replay) → read_step name read ≡ Ok r →
    read ≡ Ok r
step_read name (Ok q) r is = let same : q ≡ r = cc in ap Ok same
step_read name (Err fault) r is = absurd cc
