-- Forests in which nothing is left to resolve.
use Rattle.std.specs.Prelude.{◌≡◌, false}
use Rattle.yaml_lines.specs.declared.forest.Forest.{Forest}
use Rattle.yaml_lines.specs.Trees.{Trees, none, more, trees_of}
use Rattle.yaml_merge.specs.Merging.{Lacks}
use Rattle.yaml_merge.specs.Resolving.{inherits, removes}

-- A list below the top level: each key stands once in it, none is an `Inherits` or a removal, and
-- the same holds of all lists below it.
abbrev pub IsSettled : Trees → Type 0
IsSettled none = Unit {0}
IsSettled (more key value place children rest) =
    Lacks key rest × (inherits key ≡ false) × (removes key ≡ false)
    × IsSettled children × IsSettled rest

-- The top level, where `Inherits` is a name like any other: each key stands once in it, none is a
-- removal, and the lists below it are settled.
abbrev pub IsSettledTop : Trees → Type 0
IsSettledTop none = Unit {0}
IsSettledTop (more key value place children rest) =
    Lacks key rest × (removes key ≡ false) × IsSettled children × IsSettledTop rest

-- Each key stands once in the list, whatever stands below.
abbrev pub IsOnce : Trees → Type 0
IsOnce none = Unit {0}
IsOnce (more key value place children rest) = Lacks key rest × IsOnce rest

-- Each key stands once in the list, and in each list below it.
abbrev pub IsDistinct : Trees → Type 0
IsDistinct none = Unit {0}
IsDistinct (more key value place children rest) =
    Lacks key rest × IsDistinct children × IsDistinct rest

abbrev pub IsSettledForest : Forest → Type 0
IsSettledForest forest = IsSettledTop (trees_of forest)
