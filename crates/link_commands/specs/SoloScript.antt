-- The plays of a script of one client.
use Rattle.std.specs.Prelude.{ℕ, List, true, Result, Ok, Err}
use Rattle.game_orders.specs.declared.order.Order.{Order}
use Rattle.drill_words.specs.declared.drill_fault.DrillFault.{DrillFault}
use Rattle.drill_words.specs.DrillFault.{cause_of, line_of}
use Rattle.drill_words.specs.Script.{ScriptPlain, read_script_of}
use Rattle.drill_words.specs.Scripts.{plays_of}
use Rattle.command_answers.specs.Reply.{refusal}
use Rattle.command_answers.specs.Step.{Step}

-- What the client of a script plays, or the refusal of the script's first fault.
abbrev pub solo_of : (name : List ℕ) → Result ScriptPlain DrillFault → Step (List (List Order))
solo_of name (Ok script) = Ok (plays_of script.scripts 0)
solo_of name (Err fault) = Err (refusal name (line_of fault) (cause_of fault))

-- The same of the script that these bytes write.
abbrev pub solo_step : (name bytes : List ℕ) → Step (List (List Order))
solo_step name bytes = solo_of name (read_script_of true bytes)
