-- The stops of faults of rule files and maps in code.
use Rattle.std.specs.Prelude.{◌≡◌, List, ℕ, Option, None, Some}
use Rattle.yaml_lines.specs.declared.place.Place.{Place}
use Rattle.command_answers.specs.declared.stop.Stop.{Stop}
use Rattle.command_answers.specs.declared.stop.Stop.TheVariants.{NoMemory}
use Rattle.command_answers.specs.Stop.{IsRefusal}
use Rattle.rule_commands.specs.RuleFiles.{fault_reply}

-- The stop of a fault with this place and cause: its refusal. Out of memory has no place.
abbrev pub IsFaultStop : List (List ℕ) → Option Place → (cause : List ℕ) → Stop → Type 0
IsFaultStop names None cause stop = stop ≡ NoMemory
IsFaultStop names (Some place) cause stop = IsRefusal stop (fault_reply names (Some place) cause)
