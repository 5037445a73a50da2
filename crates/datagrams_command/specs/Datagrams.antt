-- What the command `datagrams` answers.
use Rattle.std.specs.Prelude.{ℕ, List, Result, Ok, Err}
use Rattle.base.specs.Steps.{◌>>=◌}
use Rattle.drill_words.specs.declared.drill_fault.DrillFault.{DrillFault}
use Rattle.drill_words.specs.DrillFault.{cause_of, line_of}
use Rattle.command_answers.specs.Reply.{Reply, done, refusal}
use Rattle.command_answers.specs.Step.{Step}
use Rattle.datagrams_command.specs.Script.{schedule_of}
use Rattle.datagrams_command.specs.Text.{schedule_text}

-- The text of a script's bytes, or their first fault.
abbrev pub script_text : List ℕ → Result (List ℕ) DrillFault
script_text bytes = schedule_of bytes >>= λ events. Ok (schedule_text events)

-- The text is printed; a faulty script is refused.
abbrev pub answered : List ℕ → Result (List ℕ) DrillFault → Step Reply
answered name (Ok text) = Ok (done text)
answered name (Err fault) = Err (refusal name (line_of fault) (cause_of fault))

-- The reply to `datagrams` of the script with this name and these bytes.
abbrev pub datagrams_step : (name bytes : List ℕ) → Step Reply
datagrams_step name bytes = answered name (script_text bytes)
