-- A fault of lines as it is printed: its place and its cause.
use Rattle.std.specs.Prelude.{ℕ, List, Option, None, Some, codes}
use Rattle.yaml_lines.specs.declared.place.Place.{Place}
use Rattle.yaml_lines.specs.declared.fault.LineFault.{LineFault}
use Rattle.yaml_lines.specs.declared.fault.LineFault.TheVariants.{NotUtf8, BadIndent, TooDeep}
use Rattle.yaml_lines.specs.declared.fault.LineFault.TheVariants.{LineTooLong, TooManyLines}
use Rattle.yaml_lines.specs.declared.fault.LineFault.TheVariants.{NoMemory}

-- The place at fault. Out of memory has none.
abbrev pub place_of : LineFault → Option Place
place_of (NotUtf8 place) = Some place
place_of (BadIndent place) = Some place
place_of (TooDeep place) = Some place
place_of (LineTooLong place) = Some place
place_of (TooManyLines place) = Some place
place_of NoMemory = None

-- The name of the variant.
abbrev pub cause_of : LineFault → List ℕ
cause_of (NotUtf8 place) = codes "NotUtf8"
cause_of (BadIndent place) = codes "BadIndent"
cause_of (TooDeep place) = codes "TooDeep"
cause_of (LineTooLong place) = codes "LineTooLong"
cause_of (TooManyLines place) = codes "TooManyLines"
cause_of NoMemory = codes "NoMemory"
