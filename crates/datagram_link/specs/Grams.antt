-- Datagrams as bytes. Each datagram has one spelling: its tag, then its fields in order.
use Rattle.std.specs.Prelude.{ℕ, ◌+◌, ◌≤◌, ◌<◌, ◌^◌, List, [], ◌∷◌, ◌++◌, length}
use Rattle.wire_bytes.specs.Field.{field_bytes}
use Rattle.datagram_link.specs.declared.datagram.Datagram.{Datagram}
use Rattle.datagram_link.specs.declared.datagram.Datagram.TheVariants.{Data, Ack, Call, Here}
use Rattle.datagram_link.specs.declared.limits.TheConstants.{MAX_PAYLOAD}

unfoldable pub data_bytes : (number : ℕ) (payload : List ℕ) → List ℕ
data_bytes number payload =
    field_bytes 1 1 ++ (field_bytes 4 number ++ (field_bytes 2 (length payload) ++ payload))

unfoldable pub ack_bytes : ℕ → List ℕ
ack_bytes next = field_bytes 1 2 ++ field_bytes 4 next

unfoldable pub call_bytes : List ℕ
call_bytes = field_bytes 1 3

unfoldable pub here_bytes : ℕ → List ℕ
here_bytes port = field_bytes 1 4 ++ field_bytes 2 port

-- The spelling of a datagram.
abbrev pub datagram_bytes : Datagram → List ℕ
datagram_bytes (Data number payload) = data_bytes number payload
datagram_bytes (Ack next) = ack_bytes next
datagram_bytes Call = call_bytes
datagram_bytes (Here port) = here_bytes port

-- The bytes of a payload are not none and not too many.
pub record IsPayload (payload : List ℕ) : Type 0 where
  pub some : 1 ≤ length payload
  pub few : length payload ≤ MAX_PAYLOAD

-- The datagram has a spelling: its payload, if it has one, has 1 to `MAX_PAYLOAD` bytes.
abbrev pub IsSendable : Datagram → Type 0
IsSendable (Data number payload) = IsPayload payload
IsSendable (Ack next) = Unit {0}
IsSendable Call = Unit {0}
IsSendable (Here port) = Unit {0}

-- The same, and its numbers fit their fields, as those of every datagram that code holds do.
abbrev pub FitsDatagram : Datagram → Type 0
FitsDatagram (Data number payload) = (number < 2 ^ 32) × IsPayload payload
FitsDatagram (Ack next) = next < 2 ^ 32
FitsDatagram Call = Unit {0}
FitsDatagram (Here port) = port < 2 ^ 16

-- The Data of payloads with the numbers from this one on, in order.
abbrev pub data_grams : (first : ℕ) (payloads : List (List ℕ)) → List (List ℕ)
data_grams first [] = []
data_grams first (payload ∷ payloads) =
    data_bytes first payload ∷ data_grams (first + 1) payloads
