-- A fault of merging as it is printed: its place and its cause.
use Rattle.std.specs.Prelude.{ℕ, List, Option, None, Some, codes}
use Rattle.yaml_lines.specs.declared.place.Place.{Place}
use Rattle.yaml_merge.specs.declared.fault.MergeFault.{MergeFault}
use Rattle.yaml_merge.specs.declared.fault.MergeFault.TheVariants.{NoParent, Cycle, NothingToRemove}
use Rattle.yaml_merge.specs.declared.fault.MergeFault.TheVariants.{TooLarge, TooDeep, NoMemory}

-- The place at fault. Out of memory has none.
abbrev pub place_of : MergeFault → Option Place
place_of (NoParent place) = Some place
place_of (Cycle place) = Some place
place_of (NothingToRemove place) = Some place
place_of (TooLarge place) = Some place
place_of (TooDeep place) = Some place
place_of NoMemory = None

-- The name of the variant.
abbrev pub cause_of : MergeFault → List ℕ
cause_of (NoParent place) = codes "NoParent"
cause_of (Cycle place) = codes "Cycle"
cause_of (NothingToRemove place) = codes "NothingToRemove"
cause_of (TooLarge place) = codes "TooLarge"
cause_of (TooDeep place) = codes "TooDeep"
cause_of NoMemory = codes "NoMemory"
