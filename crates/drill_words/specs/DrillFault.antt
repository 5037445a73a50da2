-- The fault of a drill: that of a word, at its line, and how it is printed.
use Rattle.std.specs.Prelude.{ℕ, List, Result, Ok, Err, codes}
use Rattle.drill_words.specs.declared.word_fault.WordFault.{WordFault}
use Rattle.drill_words.specs.declared.word_fault.WordFault.TheVariants as word
use Rattle.drill_words.specs.declared.drill_fault.DrillFault.{DrillFault}
use Rattle.drill_words.specs.declared.drill_fault.DrillFault.TheVariants.{BadWord, BadNumber}
use Rattle.drill_words.specs.declared.drill_fault.DrillFault.TheVariants.{NoSuchClient}
use Rattle.drill_words.specs.declared.drill_fault.DrillFault.TheVariants.{TooManyOrders}
use Rattle.drill_words.specs.declared.drill_fault.DrillFault.TheVariants.{TooManyEvents, NoMemory}

-- A fault of a word is a fault of its line.
abbrev pub at_line : ℕ → WordFault → DrillFault
at_line line word.BadWord = BadWord line
at_line line word.BadNumber = BadNumber line
at_line line word.NoSuchClient = NoSuchClient line
at_line line word.TooManyOrders = TooManyOrders line

abbrev pub on_line : {A : Type 0} → ℕ → Result A WordFault → Result A DrillFault
on_line line (Ok value) = Ok value
on_line line (Err fault) = Err (at_line line fault)

-- The cause of a fault as it is printed.
abbrev pub cause_of : DrillFault → List ℕ
cause_of (BadWord line) = codes "BadWord"
cause_of (BadNumber line) = codes "BadNumber"
cause_of (NoSuchClient line) = codes "NoSuchClient"
cause_of (TooManyOrders line) = codes "TooManyOrders"
cause_of (TooManyEvents line) = codes "TooManyEvents"
cause_of NoMemory = codes "NoMemory"

-- The line of a fault, from 1, or 0 for no line.
abbrev pub line_of : DrillFault → ℕ
line_of (BadWord line) = line
line_of (BadNumber line) = line
line_of (NoSuchClient line) = line
line_of (TooManyOrders line) = line
line_of (TooManyEvents line) = line
line_of NoMemory = 0
