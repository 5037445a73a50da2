-- The cause and the place of a fault.
use Rattle.std.specs.Prelude.{ℕ, List, codes, Option, Some, None}
use Rattle.yaml_lines.specs.declared.place.Place.{Place}
use Rattle.rule_traits.specs.declared.fault.RuleFault.{RuleFault}
use Rattle.rule_traits.specs.declared.fault.RuleFault.TheVariants.{BadValue, OutOfRange}
use Rattle.rule_traits.specs.declared.fault.RuleFault.TheVariants.{MissingField}
use Rattle.rule_traits.specs.declared.fault.RuleFault.TheVariants.{UnknownKindName, TooManyKinds}
use Rattle.rule_traits.specs.declared.fault.RuleFault.TheVariants.{NoMemory}

-- The cause is printed as its variant is named.
abbrev pub cause_of : RuleFault → List ℕ
cause_of (BadValue place) = codes "BadValue"
cause_of (OutOfRange place) = codes "OutOfRange"
cause_of (MissingField place) = codes "MissingField"
cause_of (UnknownKindName place) = codes "UnknownKindName"
cause_of (TooManyKinds place) = codes "TooManyKinds"
cause_of NoMemory = codes "NoMemory"

-- The place of the node at fault.
abbrev pub place_of : RuleFault → Option Place
place_of (BadValue place) = Some place
place_of (OutOfRange place) = Some place
place_of (MissingField place) = Some place
place_of (UnknownKindName place) = Some place
place_of (TooManyKinds place) = Some place
place_of NoMemory = None
