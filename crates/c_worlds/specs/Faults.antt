-- Faults of files, as C reads them.
use Rattle.std.specs.Prelude.{ℕ, Option, None, Some}
use Rattle.yaml_lines.specs.declared.place.Place.{Place}
use Rattle.yaml_lines.specs.declared.fault.LineFault.{LineFault}
use Rattle.yaml_lines.specs.declared.fault.LineFault.TheVariants as line
use Rattle.yaml_merge.specs.declared.fault.MergeFault.{MergeFault}
use Rattle.yaml_merge.specs.declared.fault.MergeFault.TheVariants as merge
use Rattle.rule_traits.specs.declared.fault.RuleFault.{RuleFault}
use Rattle.rule_traits.specs.declared.fault.RuleFault.TheVariants as rule
use Rattle.map_grid.specs.declared.fault.MapFault.{MapFault}
use Rattle.map_grid.specs.declared.fault.MapFault.TheVariants as grid
use Rattle.setup_files.specs.declared.setup_fault.Part.{Part}
use Rattle.setup_files.specs.declared.setup_fault.Part.TheVariants as part
use Rattle.setup_files.specs.declared.setup_fault.SetupFault.{SetupFault}
use Rattle.setup_files.specs.declared.setup_fault.SetupFault.TheVariants as setup
use Rattle.setup_files.specs.Faults.{part_of, place_of}
use Rattle.c_worlds.specs.declared.fault_at.CFault.{CFault}

-- Out of memory has no number: it is answered by a code.
abbrev pub line_number : LineFault → ℕ
line_number (line.NotUtf8 place) = 1
line_number (line.BadIndent place) = 2
line_number (line.TooDeep place) = 3
line_number (line.LineTooLong place) = 4
line_number (line.TooManyLines place) = 5
line_number line.NoMemory = 0

abbrev pub merge_number : MergeFault → ℕ
merge_number (merge.NoParent place) = 11
merge_number (merge.Cycle place) = 12
merge_number (merge.NothingToRemove place) = 13
merge_number (merge.TooLarge place) = 14
merge_number (merge.TooDeep place) = 15
merge_number merge.NoMemory = 0

abbrev pub rule_number : RuleFault → ℕ
rule_number (rule.BadValue place) = 21
rule_number (rule.OutOfRange place) = 22
rule_number (rule.MissingField place) = 23
rule_number (rule.UnknownKindName place) = 24
rule_number (rule.TooManyKinds place) = 25
rule_number rule.NoMemory = 0

abbrev pub map_number : MapFault → ℕ
map_number (grid.BadField place) = 31
map_number (grid.BadRow place) = 32
map_number (grid.UnknownTerrain place) = 33
map_number (grid.UnknownKind place) = 34
map_number (grid.CellTaken place) = 35
map_number (grid.BadOwner place) = 36
map_number (grid.TooManyActors place) = 37
map_number grid.NoMemory = 0

abbrev pub number_of : SetupFault → ℕ
number_of (setup.Lines files fault) = line_number fault
number_of (setup.Merging files fault) = merge_number fault
number_of (setup.Rules fault) = rule_number fault
number_of (setup.Map fault) = map_number fault
number_of setup.NoMemory = 0

abbrev pub file_at : Option Place → ℕ
file_at None = 0
file_at (Some place) = place.file

abbrev pub line_at : Option Place → ℕ
line_at None = 0
line_at (Some place) = place.line

-- The map's number follows those of the rule files.
abbrev pub file_of : Part → Option Place → (rule_files : ℕ) → ℕ
file_of part.Rules place rule_files = file_at place
file_of part.Map place rule_files = rule_files

abbrev pub fault_of : SetupFault → (rule_files : ℕ) → CFault
fault_of fault rule_files =
    record {
      cause = number_of fault;
      file = file_of (part_of fault) (place_of fault) rule_files;
      place = line_at (place_of fault);
    }
