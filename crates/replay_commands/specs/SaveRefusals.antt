-- The refusal of a save's file.
use Rattle.std.specs.Prelude.{ℕ, List, Result, Ok, Err, unwrap_or}
use Rattle.command_answers.specs.declared.stop.Stop.{Stop}
use Rattle.command_answers.specs.Reply.{refusal}
use Rattle.command_answers.specs.Step.{Step}
use Rattle.game_save.specs.declared.save_fault.SaveFault.{SaveFault}
use Rattle.game_save.specs.declared.saved.Saved.{Saved}
use Rattle.game_save.specs.Fault.{cause_of, place_of}
use Rattle.replay_commands.specs.Refusals.{IsStopAt}

-- The save of a file, or its first fault, at a byte's place. Only out of memory has no place, and
-- no definition's fault is that one.
abbrev pub read_save_step : List ℕ → Result Saved SaveFault → Step Saved
read_save_step name (Ok saved) = Ok saved
read_save_step name (Err fault) =
    Err (refusal name (unwrap_or (place_of fault) 0) (cause_of fault))

-- The stop of a faulty save.
abbrev pub IsSaveStop : List ℕ → SaveFault → Stop → Type 0
IsSaveStop name fault stop = IsStopAt name (place_of fault) (cause_of fault) stop
