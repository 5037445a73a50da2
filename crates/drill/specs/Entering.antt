-- What a column answers to orders, as a report prints it.
use Rattle.frame_core.specs.declared.put.Put.{Put}
use Rattle.frame_core.specs.declared.put.Put.TheVariants as put
use Rattle.drill.specs.declared.entering.Entering.{Entering}
use Rattle.drill.specs.declared.entering.Entering.TheVariants.{Fixed, Repeat, Conflict, Left, Ahead}
use Rattle.drill.specs.declared.entering.Entering.TheVariants.{Full}

-- The answer of a column, without the entry that contradicts.
abbrev pub entering_of : Put → Entering
entering_of put.Fixed = Fixed
entering_of put.Repeat = Repeat
entering_of (put.Conflict kept) = Conflict
entering_of (put.Left at) = Left at
entering_of (put.Ahead length) = Ahead length
entering_of put.Full = Full
