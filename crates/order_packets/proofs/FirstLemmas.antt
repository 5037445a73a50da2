-- The first packet and its length, found behind the two bytes of the length.
use Rattle.std.specs.Prelude.{◌≡◌, ℕ, ◌+◌, ◌≤◌, ◌<◌, nat_lt, Bool, true, false}
use Rattle.std.specs.Prelude.{List, ◌++◌, length, take, drop}
use Rattle.std.specs.Prelude.{Some, Result, Ok, Err, if◌then◌else◌}
use Rattle.std.proofs.Common.{refl, sym, ap, ◌∙◌, arith, append_assoc, inl, inr}
use Rattle.std.proofs.lemmas.Bool.{le-ltb, cases_lt}
use Rattle.std.proofs.lemmas.List.{take-append-drop, drop_at, drop-drop}
use Rattle.std.proofs.lemmas.List.{length-append, length-take-le}
use Rattle.wire_bytes.specs.declared.short.Short.{Short}
use Rattle.wire_bytes.specs.Field.{field_bytes, field_number}
use Rattle.wire_bytes.proofs.FieldLemmas.{field_length}
use Rattle.wire_bytes.specs.Read.{field_at}
use Rattle.order_packets.specs.declared.limits.TheConstants.{MAX_PAYLOAD}
use Rattle.order_packets.specs.PacketBytes.{framed}
use Rattle.order_packets.specs.PacketReading.{PacketRead, behind_length, sized_at}
use Rattle.order_packets.specs.PacketReading.{payload_at, packet_at}

-- What is left behind a length and so many bytes.
behind_payload :
    (bytes rest : List ℕ) (size : ℕ) → bytes ≡ field_bytes 2 size ++ rest →
    drop (2 + size) bytes ≡ drop size rest
behind_payload bytes rest size spelled =
    let behind : drop 2 bytes ≡ rest =
    ap (drop 2) spelled ∙ drop_at (field_bytes 2 size) rest 2 (field_length 2 size) in
    sym (drop-drop size 2 bytes) ∙ ap (drop size) behind

-- The packet is what the bytes begin with.
pub first_found :
    {P : Type 0} (at : List ℕ → PacketRead P) (bytes rest : List ℕ) (size : ℕ) (packet : P) →
    field_at 2 bytes ≡ Ok (size, rest) → bytes ≡ field_bytes 2 size ++ rest →
    size ≤ MAX_PAYLOAD → size ≤ length rest → payload_at at (take size rest) ≡ Ok packet →
    packet_at at bytes ≡ Ok (Some (packet, drop (2 + size) bytes))
unfolding packet_at sized_at
first_found at bytes rest size packet field spelled small enough read =
    let fits : nat_lt MAX_PAYLOAD size ≡ false = le-ltb MAX_PAYLOAD size small in
    let whole : nat_lt (length rest) size ≡ false = le-ltb (length rest) size enough in
    ap (behind_length at) field
    ∙ rw (fits, whole, read, behind_payload bytes rest size spelled) refl

-- It lies within them.
pub first_within :
    (bytes rest : List ℕ) (size : ℕ) → bytes ≡ field_bytes 2 size ++ rest →
    size ≤ length rest → 2 + size ≤ length bytes
first_within bytes rest size spelled enough =
    let all : length bytes ≡ length (field_bytes 2 size) + length rest =
    ap length spelled ∙ length-append (field_bytes 2 size) rest in
    omega (arith, all, field_length 2 size, enough)

-- They are its spelling, and then what is left.
pub first_spelled :
    (bytes rest payload : List ℕ) (size : ℕ) → bytes ≡ field_bytes 2 size ++ rest →
    size ≤ length rest → take size rest ≡ payload →
    bytes ≡ framed payload ++ drop (2 + size) bytes
unfolding framed
first_spelled bytes rest payload size spelled enough is =
    let size_is : size ≡ length payload = sym (length-take-le size rest enough) ∙ ap length is in
    let parts : rest ≡ payload ++ drop (2 + size) bytes =
    sym (take-append-drop size rest)
    ∙ ap (λ (first : List ℕ). first ++ drop size rest) is
    ∙ ap (λ (last : List ℕ). payload ++ last) (sym (behind_payload bytes rest size spelled)) in
    let left : List ℕ = drop (2 + size) bytes in
    spelled ∙ ap (λ (last : List ℕ). field_bytes 2 size ++ last) parts
    ∙ sym (append_assoc (field_bytes 2 size) payload left)
    ∙ ap (λ (n : ℕ). field_bytes 2 n ++ payload ++ left) size_is

-- Bytes without a length are few, and so are a length and less than its payload.
no_failure :
    (test : Bool) (some : ℕ × List ℕ) (short failure : Short) → test ≡ false →
    if◌then◌else◌ {A = Result (ℕ × List ℕ) Short} test (Err failure) (Ok some) ≡ Err short → ⊥
no_failure true some short failure never read = absurd cc
no_failure false some short failure is read = absurd cc

pub few_without_length :
    (bytes : List ℕ) (short : Short) → field_at 2 bytes ≡ Err short → length bytes ≤ 257
unfolding field_at
few_without_length bytes short field =
    elim (cases_lt (length bytes) 2) [
      | inl few ↦ omega (arith, few)
      | inr many ↦
          absurd (no_failure (nat_lt (length bytes) 2) (field_number 2 bytes, drop 2 bytes) short
          (record { need = 2; have = length bytes }) (le-ltb (length bytes) 2 many) field)
    ]

pub few_with_length :
    (bytes rest : List ℕ) (size : ℕ) → bytes ≡ field_bytes 2 size ++ rest → size ≤ 256 →
    length rest < size → length bytes ≤ 257
few_with_length bytes rest size spelled small few =
    let all : length bytes ≡ length (field_bytes 2 size) + length rest =
    ap length spelled ∙ length-append (field_bytes 2 size) rest in
    omega (arith, all, field_length 2 size, small, few)

pub ruleset few_steps = (few_without_length, few_with_length)
