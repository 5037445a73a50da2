-- The first packet of bytes that are held, and how many of them it takes.
use Rattle.std.specs.Prelude.{◌≡◌, ◌≤◌, ℕ, List, length, drop, Option, Some, None, Result, Ok, Err}
use Rattle.order_packets.specs.declared.feed_fault.FeedFault.{FeedFault}
use Rattle.order_packets.specs.PacketReading.{FirstPacket}

-- What was found is what the bytes begin with: a packet and its length, or None, or the fault.
abbrev pub GivesFirst :
    {P : Type 0} → List ℕ → Result (Option (P × ℕ)) FeedFault → FirstPacket P → Type 0
GivesFirst bytes (Ok None) first = first ≡ Ok None
GivesFirst bytes (Ok (Some found)) first =
    (first ≡ Ok (Some (found.0, drop found.1 bytes))) × (found.1 ≤ length bytes)
GivesFirst bytes (Err fault) first = first ≡ Err fault

-- The fact holds of the packet that was found and its length.
abbrev pub IfFound :
    {P : Type 0} → Result (Option (P × ℕ)) FeedFault → (P → ℕ → Type 0) → Type 0
IfFound (Ok None) fact = Unit {0}
IfFound (Ok (Some found)) fact = fact found.0 found.1
IfFound (Err fault) fact = Unit {0}

-- The fact holds where nothing was found, and no fault.
abbrev pub IfNotFound : {P : Type 0} → Result (Option (P × ℕ)) FeedFault → Type 0 → Type 0
IfNotFound (Ok None) fact = fact
IfNotFound (Ok (Some found)) fact = Unit {0}
IfNotFound (Err fault) fact = Unit {0}
