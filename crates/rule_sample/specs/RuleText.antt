-- What one rule text gives when it is read, resolved and typed.
use Rattle.std.specs.Prelude.{ℕ, List, [], ◌∷◌, Option, Some, None, Result, Ok, Err}
use Rattle.yaml_lines.specs.declared.fault.LineFault.{LineFault}
use Rattle.yaml_lines.specs.Trees.{Trees}
use Rattle.yaml_lines.specs.Built.{parsed}
use Rattle.yaml_merge.specs.Resolving.{Outcome, resolved_files}
use Rattle.rule_traits.specs.declared.fault.RuleFault.{RuleFault}
use Rattle.rule_traits.specs.declared.kind.Kind.{Kind}
use Rattle.rule_traits.specs.declared.skipped.Skipped.{Skipped}
use Rattle.rule_traits.specs.Typed.{typed}

-- The kinds, and what is skipped.
abbrev pub Rules : Type 0
Rules = List Kind × List Skipped

abbrev pub if_typed : Result Rules RuleFault → Option Rules
if_typed (Ok rules) = Some rules
if_typed (Err fault) = None

abbrev pub if_resolved : Outcome → Option Rules
if_resolved (Ok trees) = if_typed (typed trees)
if_resolved (Err fault) = None

abbrev pub if_parsed : Result Trees LineFault → Option Rules
if_parsed (Ok trees) = if_resolved (resolved_files (trees ∷ []))
if_parsed (Err fault) = None

-- The rules of a text, the first and only file; none where it has a fault.
abbrev pub rules_of : List ℕ → Option Rules
rules_of text = if_parsed (parsed 0 text)
