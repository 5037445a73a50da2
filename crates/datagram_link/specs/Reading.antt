-- The datagram of bytes, all of them, or the first fault from the left.
use Rattle.std.specs.Prelude.{◌≡◌, ℕ, ◌==◌, nat_lt, nat_le, ◌&&◌, if◌then◌else◌}
use Rattle.std.specs.Prelude.{List, [], ◌∷◌, length, take, drop, Result, Ok, Err}
use Rattle.base.specs.Steps.{◌>>=◌, IsFault}
use Rattle.wire_bytes.specs.Read.{number_at}
use Rattle.datagram_link.specs.declared.datagram.Datagram.{Datagram}
use Rattle.datagram_link.specs.declared.datagram.Datagram.TheVariants.{Data, Ack, Call, Here}
use Rattle.datagram_link.specs.declared.datagram_view.DatagramView.{DatagramView}
use Rattle.datagram_link.specs.declared.datagram_view.DatagramView.TheVariants as view
use Rattle.datagram_link.specs.declared.gram_fault.GramFault.{GramFault}
use Rattle.datagram_link.specs.declared.gram_fault.GramFault.TheVariants.{Short, BadTag, BadLength}
use Rattle.datagram_link.specs.declared.gram_fault.GramFault.TheVariants.{TrailingBytes, NoMemory}
use Rattle.datagram_link.specs.declared.limits.TheConstants.{MAX_PAYLOAD}

-- A value and the bytes after it, or the fault.
abbrev pub GramRead : Type 0 → Type 0
GramRead A = Result (A × List ℕ) GramFault

-- A payload of this length.
unfoldable pub payload_at : ℕ → List ℕ → GramRead (List ℕ)
payload_at size bytes =
    if nat_lt 0 size && nat_le size MAX_PAYLOAD
    then (if nat_lt (length bytes) size then Err Short else Ok (take size bytes, drop size bytes))
    else Err BadLength

-- The fields after the tag of each datagram.
unfoldable pub data_at : List ℕ → GramRead Datagram
data_at bytes = do
  number ← number_at Short 4 bytes
  size ← number_at Short 2 number.1
  payload ← payload_at size.0 size.1
  Ok (Data number.0 payload.0, payload.1)

unfoldable pub ack_at : List ℕ → GramRead Datagram
ack_at bytes = do
  next ← number_at Short 4 bytes
  Ok (Ack next.0, next.1)

unfoldable pub here_at : List ℕ → GramRead Datagram
here_at bytes = do
  port ← number_at Short 2 bytes
  Ok (Here port.0, port.1)

unfoldable pub fields_at : ℕ → List ℕ → GramRead Datagram
fields_at tag bytes =
    if tag == 1 then data_at bytes
    else (if tag == 2 then ack_at bytes
    else (if tag == 3 then Ok (Call, bytes)
    else (if tag == 4 then here_at bytes
    else Err BadTag)))

-- A datagram that the bytes end with.
abbrev pub ended : Datagram → List ℕ → Result Datagram GramFault
ended datagram [] = Ok datagram
ended datagram (byte ∷ more) = Err TrailingBytes

-- The datagram of bytes, all of them, or their first fault.
unfoldable pub gram_of : List ℕ → Result Datagram GramFault
gram_of bytes = do
  tag ← number_at Short 1 bytes
  read ← fields_at tag.0 tag.1
  ended read.0 read.1

-- A reader returns what is read. Out of memory alone may take the place of any answer.
abbrev pub ReturnsGram : Result Datagram GramFault → List ℕ → Type 0
ReturnsGram (Ok datagram) bytes = gram_of bytes ≡ Ok datagram
ReturnsGram (Err fault) bytes = IsFault NoMemory fault (gram_of bytes)

-- ---- in code, with a payload that stands in the bytes

abbrev pub seen : DatagramView → Datagram
seen (view.Data number payload) = Data number payload.now
seen (view.Ack next) = Ack next
seen view.Call = Call
seen (view.Here port) = Here port
