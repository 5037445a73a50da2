-- A field's number and its bytes determine each other.
use Rattle.std.specs.Prelude.{◌≡◌, ℕ, zero, suc, ◌+◌, ◌*◌, ◌/◌, ◌%◌, ◌^◌, ◌<◌, ◌≤◌, List, [], ◌∷◌}
use Rattle.std.specs.Prelude.{◌++◌, length, take, refl}
use Rattle.std.proofs.Common.{sym, ap, ◌∙◌, arith}
use Rattle.std.specs.Int.{byte_at, bytes_low_first}
use Rattle.std.proofs.Math.Nat.{div-one, div-div-eq-div-mul, pow-suc}
use Rattle.byteorder.specs.Endian.{little_from, little_number}
use Rattle.byteorder.specs.Numbers.{little_from-cons, little_from-lt, little_from-append}
use Rattle.byteorder.specs.Numbers.{little_number-reads_back, length-bytes_low_first}
use Rattle.wire_bytes.specs.Field.{field_bytes, field_number, AreBytes}

-- A field has as many bytes as it is wide.
pub field_length : (width number : ℕ) → length (field_bytes width number) ≡ width
unfolding field_bytes
field_length width number = length-bytes_low_first 0 width number

-- The bytes of a number read back as the number, whatever follows them.
pub field_reads_back :
    (width number : ℕ) (rest : List ℕ) → number < 256 ^ width →
    field_number width (field_bytes width number ++ rest) ≡ number
unfolding field_bytes field_number
field_reads_back width number rest fits = little_number-reads_back width number rest fits

-- A field's number fits its width.
pub field_fits :
    (width : ℕ) (bytes : List ℕ) → AreBytes bytes → field_number width bytes < 256 ^ width
unfolding field_number
field_fits width bytes are = little_from-lt 0 width bytes are

-- A field is read of its own bytes alone.
pub field_of_prefix :
    (width : ℕ) (bytes rest : List ℕ) → width ≤ length bytes →
    field_number width (bytes ++ rest) ≡ field_number width bytes
unfolding field_number
field_of_prefix width bytes rest h = little_from-append width bytes rest h

-- The lowest byte of a number, and the number above it.
low_byte : (byte above : ℕ) → byte < 256 → (byte + 256 * above) % 256 ≡ byte
low_byte byte above h = omega arith

above_byte : (byte above : ℕ) → byte < 256 → (byte + 256 * above) / 256 ≡ above
above_byte byte above h = omega arith

-- A byte of a number by its place.
byte_by_place : (place number : ℕ) → byte_at place number ≡ number / 256 ^ place % 256
byte_by_place zero number = ap (λ (x : ℕ). x % 256) (sym (div-one number))
byte_by_place (suc place) number = refl

-- The bytes of a number from a place on are the bytes that its part from there on was read of.
bytes_from :
    (place width number : ℕ) (bytes : List ℕ) → AreBytes bytes → width ≤ length bytes →
    number / 256 ^ place ≡ little_from 0 width bytes →
    bytes_low_first place width number ≡ take width bytes
bytes_from place zero number bytes are enough is = refl
bytes_from place (suc width) number [] are enough is = absurd (omega arith)
bytes_from place (suc width) number (byte ∷ rest) are enough is =
    let fits : byte < 256 = are 0 in
    let split : number / 256 ^ place ≡ byte + 256 * little_from 0 width rest =
    is ∙ ap (λ (x : ℕ). byte + 256 * x) (little_from-cons 0 width byte rest) in
    let first : byte_at place number ≡ byte =
    byte_by_place place number ∙ ap (λ (x : ℕ). x % 256) split
    ∙ low_byte byte (little_from 0 width rest) fits in
    let shift : number / 256 ^ suc place ≡ number / 256 ^ place / 256 =
    ap (λ (p : ℕ). number / p) (pow-suc 256 place)
    ∙ sym (div-div-eq-div-mul number (256 ^ place) 256) in
    let others : number / 256 ^ suc place ≡ little_from 0 width rest =
    shift ∙ ap (λ (x : ℕ). x / 256) split ∙ above_byte byte (little_from 0 width rest) fits in
    let tail = bytes_from (suc place) width number rest (λ i. are (suc i)) (omega arith) others in
    rw (first, tail) refl

-- The bytes of the number that was read are the bytes that were read.
pub field_bytes_back :
    (width : ℕ) (bytes : List ℕ) → AreBytes bytes → width ≤ length bytes →
    field_bytes width (field_number width bytes) ≡ take width bytes
unfolding field_bytes field_number
field_bytes_back width bytes are enough =
    bytes_from 0 width (little_number width bytes) bytes are enough
    (div-one (little_number width bytes))
