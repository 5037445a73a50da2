-- The first fault of the files of a setup.
use Rattle.std.specs.Prelude.{◌≡◌, ℕ, List, Option, None, Result, Ok, Err, codes}
use Rattle.base.specs.Steps.{IsFault}
use Rattle.yaml_lines.specs.declared.place.Place.{Place}
use Rattle.yaml_lines.specs.declared.fault.LineFault.{LineFault}
use Rattle.yaml_lines.specs.declared.fault.LineFault.TheVariants as line
use Rattle.yaml_lines.specs.Fault as line_fault
use Rattle.yaml_merge.specs.declared.fault.MergeFault.{MergeFault}
use Rattle.yaml_merge.specs.declared.fault.MergeFault.TheVariants as merge
use Rattle.yaml_merge.specs.Fault as merge_fault
use Rattle.rule_traits.specs.declared.fault.RuleFault.{RuleFault}
use Rattle.rule_traits.specs.declared.fault.RuleFault.TheVariants as rule
use Rattle.rule_traits.specs.Fault as rule_fault
use Rattle.map_grid.specs.declared.fault.MapFault.{MapFault}
use Rattle.map_grid.specs.declared.fault.MapFault.TheVariants as grid
use Rattle.map_grid.specs.Fault as grid_fault
use Rattle.setup_files.specs.declared.setup_fault.Part.{Part}
use Rattle.setup_files.specs.declared.setup_fault.Part.TheVariants as part
use Rattle.setup_files.specs.declared.setup_fault.SetupFault.{SetupFault}
use Rattle.setup_files.specs.declared.setup_fault.SetupFault.TheVariants.{Lines, Merging, Rules}
use Rattle.setup_files.specs.declared.setup_fault.SetupFault.TheVariants.{Map, NoMemory}

-- The files at fault.
abbrev pub part_of : SetupFault → Part
part_of (Lines files fault) = files
part_of (Merging files fault) = files
part_of (Rules fault) = part.Rules
part_of (Map fault) = part.Map
part_of NoMemory = part.Rules

-- The line at fault. Out of memory has none.
abbrev pub place_of : SetupFault → Option Place
place_of (Lines files fault) = line_fault.place_of fault
place_of (Merging files fault) = merge_fault.place_of fault
place_of (Rules fault) = rule_fault.place_of fault
place_of (Map fault) = grid_fault.place_of fault
place_of NoMemory = None

-- The cause as it is printed.
abbrev pub cause_of : SetupFault → List ℕ
cause_of (Lines files fault) = line_fault.cause_of fault
cause_of (Merging files fault) = merge_fault.cause_of fault
cause_of (Rules fault) = rule_fault.cause_of fault
cause_of (Map fault) = grid_fault.cause_of fault
cause_of NoMemory = codes "NoMemory"

-- A fault of lines as one of a setup.
abbrev pub lines_fault : Part → LineFault → SetupFault
lines_fault files (line.NotUtf8 place) = Lines files (line.NotUtf8 place)
lines_fault files (line.BadIndent place) = Lines files (line.BadIndent place)
lines_fault files (line.TooDeep place) = Lines files (line.TooDeep place)
lines_fault files (line.LineTooLong place) = Lines files (line.LineTooLong place)
lines_fault files (line.TooManyLines place) = Lines files (line.TooManyLines place)
lines_fault files line.NoMemory = NoMemory

-- A fault of merging as one of a setup.
abbrev pub merging_fault : Part → MergeFault → SetupFault
merging_fault files (merge.NoParent place) = Merging files (merge.NoParent place)
merging_fault files (merge.Cycle place) = Merging files (merge.Cycle place)
merging_fault files (merge.NothingToRemove place) = Merging files (merge.NothingToRemove place)
merging_fault files (merge.TooLarge place) = Merging files (merge.TooLarge place)
merging_fault files (merge.TooDeep place) = Merging files (merge.TooDeep place)
merging_fault files merge.NoMemory = NoMemory

-- A fault of traits as one of a setup.
abbrev pub rules_fault : RuleFault → SetupFault
rules_fault (rule.BadValue place) = Rules (rule.BadValue place)
rules_fault (rule.OutOfRange place) = Rules (rule.OutOfRange place)
rules_fault (rule.MissingField place) = Rules (rule.MissingField place)
rules_fault (rule.UnknownKindName place) = Rules (rule.UnknownKindName place)
rules_fault (rule.TooManyKinds place) = Rules (rule.TooManyKinds place)
rules_fault rule.NoMemory = NoMemory

-- A fault of a map as one of a setup.
abbrev pub map_fault : MapFault → SetupFault
map_fault (grid.BadField place) = Map (grid.BadField place)
map_fault (grid.BadRow place) = Map (grid.BadRow place)
map_fault (grid.UnknownTerrain place) = Map (grid.UnknownTerrain place)
map_fault (grid.UnknownKind place) = Map (grid.UnknownKind place)
map_fault (grid.CellTaken place) = Map (grid.CellTaken place)
map_fault (grid.BadOwner place) = Map (grid.BadOwner place)
map_fault (grid.TooManyActors place) = Map (grid.TooManyActors place)
map_fault grid.NoMemory = NoMemory

-- The code gives what the definition does: its value, seen so, or its fault. Out of memory may take
-- the place of either.
abbrev pub Gives :
    {S T : Type 0} → Result S SetupFault → (view : S → T) → Result T SetupFault → Type 0
Gives (Ok value) view outcome = outcome ≡ Ok (view value)
Gives (Err fault) view outcome = IsFault NoMemory fault outcome
