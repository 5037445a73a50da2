-- The refusal of a replay's file.
use Rattle.std.specs.Prelude.{◌≡◌, ℕ, List, Option, Some, None, Result, Ok, Err, unwrap_or}
use Rattle.command_answers.specs.declared.stop.Stop.{Stop}
use Rattle.command_answers.specs.declared.stop.Stop.TheVariants.{NoMemory}
use Rattle.command_answers.specs.Reply.{refusal}
use Rattle.command_answers.specs.Step.{Step}
use Rattle.command_answers.specs.Stop.{IsRefusal}
use Rattle.replay_file.specs.declared.replay.Replay.{Replay}
use Rattle.replay_file.specs.declared.replay_fault.ReplayFault.{ReplayFault}
use Rattle.replay_file.specs.Fault.{cause_of, place_of}

-- The replay of a file, or its first fault, at a byte's place. Only out of memory has no place, and
-- no definition's fault is that one.
abbrev pub read_step : List ℕ → Result Replay ReplayFault → Step Replay
read_step name (Ok r) = Ok r
read_step name (Err fault) =
    Err (refusal name (unwrap_or (place_of fault) 0) (cause_of fault))

-- The stop of a fault with this place and cause.
abbrev pub IsStopAt : List ℕ → Option ℕ → (cause : List ℕ) → Stop → Type 0
IsStopAt name None cause stop = stop ≡ NoMemory
IsStopAt name (Some place) cause stop = IsRefusal stop (refusal name place cause)

-- The stop of a faulty replay.
abbrev pub IsReplayStop : List ℕ → ReplayFault → Stop → Type 0
IsReplayStop name fault stop = IsStopAt name (place_of fault) (cause_of fault) stop
