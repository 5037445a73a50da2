-- The cause and the place of a fault.
use Rattle.std.specs.Prelude.{ℕ, List, codes, Option, Some, None, Result}
use Rattle.base.specs.Steps.{IsFault}
use Rattle.yaml_lines.specs.declared.place.Place.{Place}
use Rattle.map_grid.specs.declared.fault.MapFault.{MapFault}
use Rattle.map_grid.specs.declared.fault.MapFault.TheVariants.{BadField, BadRow, UnknownTerrain}
use Rattle.map_grid.specs.declared.fault.MapFault.TheVariants.{UnknownKind, CellTaken, BadOwner}
use Rattle.map_grid.specs.declared.fault.MapFault.TheVariants.{TooManyActors, NoMemory}

-- The cause is printed as its variant is named.
abbrev pub cause_of : MapFault → List ℕ
cause_of (BadField place) = codes "BadField"
cause_of (BadRow place) = codes "BadRow"
cause_of (UnknownTerrain place) = codes "UnknownTerrain"
cause_of (UnknownKind place) = codes "UnknownKind"
cause_of (CellTaken place) = codes "CellTaken"
cause_of (BadOwner place) = codes "BadOwner"
cause_of (TooManyActors place) = codes "TooManyActors"
cause_of NoMemory = codes "NoMemory"

-- The place of the node at fault.
abbrev pub place_of : MapFault → Option Place
place_of (BadField place) = Some place
place_of (BadRow place) = Some place
place_of (UnknownTerrain place) = Some place
place_of (UnknownKind place) = Some place
place_of (CellTaken place) = Some place
place_of (BadOwner place) = Some place
place_of (TooManyActors place) = Some place
place_of NoMemory = None

-- A call fails with the fault of this outcome, or it is out of memory.
abbrev pub IsMapFault : {A : Type 0} → MapFault → Result A MapFault → Type 0
IsMapFault fault outcome = IsFault NoMemory fault outcome
