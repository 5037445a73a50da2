-- The answer to a delivery, without the entry that a conflict is with.
use Rattle.peer_core.specs.declared.delivered.Delivered.{Delivered}
use Rattle.peer_core.specs.declared.delivered.Delivered.TheVariants.{Kept as WasKept}
use Rattle.peer_core.specs.declared.delivered.Delivered.TheVariants.{Repeat as WasRepeat}
use Rattle.peer_core.specs.declared.delivered.Delivered.TheVariants.{Conflict as WasConflict}
use Rattle.peer_core.specs.declared.delivered.Delivered.TheVariants.{Past as WasPast}
use Rattle.peer_core.specs.declared.delivered.Delivered.TheVariants.{Beyond as WasBeyond}
use Rattle.peer_core.specs.declared.receipt.Receipt.{Receipt}
use Rattle.peer_core.specs.declared.receipt.Receipt.TheVariants.{Kept, Repeat, Conflict, Past}
use Rattle.peer_core.specs.declared.receipt.Receipt.TheVariants.{Beyond}

-- The receipt of an answer.
abbrev pub receipt_of : Delivered → Receipt
receipt_of WasKept = Kept
receipt_of WasRepeat = Repeat
receipt_of (WasConflict kept) = Conflict
receipt_of (WasPast at) = Past at
receipt_of WasBeyond = Beyond
