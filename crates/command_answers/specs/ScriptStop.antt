-- The stop of a faulty drill or script in code.
use Rattle.std.specs.Prelude.{◌≡◌, List, ℕ}
use Rattle.drill_words.specs.declared.drill_fault.DrillFault.{DrillFault}
use Rattle.drill_words.specs.declared.drill_fault.DrillFault.TheVariants as drill
use Rattle.drill_words.specs.DrillFault.{cause_of, line_of}
use Rattle.command_answers.specs.declared.stop.Stop.{Stop}
use Rattle.command_answers.specs.declared.stop.Stop.TheVariants.{NoMemory}
use Rattle.command_answers.specs.Reply.{refusal}
use Rattle.command_answers.specs.Stop.{IsRefusal}

-- The stop of a faulty drill.
abbrev pub IsDrillStop : List ℕ → DrillFault → Stop → Type 0
IsDrillStop name drill.NoMemory stop = stop ≡ NoMemory
IsDrillStop name fault stop = IsRefusal stop (refusal name (line_of fault) (cause_of fault))
