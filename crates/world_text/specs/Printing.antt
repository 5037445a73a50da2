-- Text on its way to a sink, in pieces.
use Rattle.std.specs.Prelude.{◌≤◌, ℕ, List, ◌++◌, Option, None, Some, Result, Ok, Err}
use Rattle.std.specs.Prelude.{string_bytes}
use Rattle.base.specs.Cause.{Increased}
use Rattle.base.specs.Written.{Wrote, WroteUpTo, WrotePrefix}
use Rattle.game_io.specs.SinkState.{SinkState}
use Rattle.world_text.specs.declared.kept_text.KeptText.{KeptText}
use Rattle.world_text.specs.declared.print_fault.PrintFault.{PrintFault}
use Rattle.world_text.specs.declared.print_fault.PrintFault.TheVariants.{Write, NoMemory}
use Rattle.world_text.specs.declared.printer.Printer.{Printer}

-- The text that is kept back, what went wrong, if something did, and the sink.
pub record PrintState : Type 0 where
  pub kept : List ℕ
  pub fault : Option PrintFault
  pub sink : SinkState

abbrev pub printing : (kept : List ℕ) → Option PrintFault → SinkState → PrintState
printing kept fault sink = record { kept = kept; fault = fault; sink = sink }

abbrev pub kept_state : KeptText → SinkState → PrintState
kept_state kept sink = printing (string_bytes kept.text) kept.fault sink

-- A printer and its sink.
abbrev pub state_of : Printer → SinkState → PrintState
state_of printer sink = kept_state printer.kept sink

-- Where nothing went wrong, all of a text but this rest was written to the sink or is kept back.
-- Else a prefix of the text was written. Where a write failed, the sink's count of faults rose.
abbrev pub IsPrintedTo :
    Option PrintFault → (kept : List ℕ) → (first now : SinkState) → (rest whole : List ℕ) → Type 0
IsPrintedTo None kept first now rest whole =
    WroteUpTo first.written now.written (kept ++ rest) whole × (first.faults ≤ now.faults)
IsPrintedTo (Some Write) kept first now rest whole =
    WrotePrefix first.written now.written whole × (first.faults ≤ now.faults)
    × Increased first.faults now.faults
IsPrintedTo (Some NoMemory) kept first now rest whole =
    WrotePrefix first.written now.written whole × (first.faults ≤ now.faults)

-- The same of a state, since the sink was as at first.
abbrev pub IsPrinted : (first : SinkState) → PrintState → (rest whole : List ℕ) → Type 0
IsPrinted first p rest whole = IsPrintedTo p.fault p.kept first p.sink rest whole

-- This text was printed, whatever was printed before it and comes after it.
unfoldable pub Prints : (old new : PrintState) → (text : List ℕ) → Type 0
Prints old new text =
    (first : SinkState) (rest whole : List ℕ) →
    IsPrinted first old (text ++ rest) whole → IsPrinted first new rest whole

-- Of a text this was printed but what is left.
unfoldable pub PrintsBut : (old new : PrintState) → (text left : List ℕ) → Type 0
PrintsBut old new text left =
    (first : SinkState) (rest whole : List ℕ) →
    IsPrinted first old (text ++ rest) whole → IsPrinted first new (left ++ rest) whole

-- The end of printing: exactly the text was written since the sink was as at first, or a prefix.
abbrev pub HasPrinted :
    {T : Type 0} → (first now : SinkState) → (whole : List ℕ) → Result T PrintFault → Type 0
HasPrinted first now whole (Ok done) =
    Wrote first.written now.written whole × (first.faults ≤ now.faults)
HasPrinted first now whole (Err Write) =
    WrotePrefix first.written now.written whole × (first.faults ≤ now.faults)
    × Increased first.faults now.faults
HasPrinted first now whole (Err NoMemory) =
    WrotePrefix first.written now.written whole × (first.faults ≤ now.faults)
