-- Reads of enough bytes and of too few.
use Rattle.std.specs.Prelude.{◌≡◌, ℕ, ◌≤◌, nat_lt, List, ◌++◌, length, drop, Ok, Err}
use Rattle.std.proofs.Common.{sym, ap, ◌∙◌, arith, refl, true, false, take, ◌<◌, ◌^◌}
use Rattle.std.proofs.lemmas.Bool.{lt-ltb, le-ltb}
use Rattle.std.proofs.lemmas.List.{take-append-drop, length-take-le, length-append, drop_at}
use Rattle.wire_bytes.specs.declared.short.Short.{Short}
use Rattle.wire_bytes.specs.Field.{field_bytes, field_number}
use Rattle.wire_bytes.specs.Read.{field_at, number_at, with_fault, ReadsField, TakesField}
use Rattle.wire_bytes.proofs.FieldLemmas.{field_of_prefix, field_bytes_back, field_length}
use Rattle.wire_bytes.proofs.FieldLemmas.{field_reads_back}

-- A read of enough bytes.
pub reads_enough :
    (width : ℕ) (old new field : List ℕ) (number : ℕ) →
    TakesField width old new field → number ≡ field_number width field →
    ReadsField width old new (Ok number)
unfolding field_at
reads_enough width old new field number takes is =
    let whole : take width old ++ drop width old ≡ old = take-append-drop width old in
    let length_field : length field ≡ width =
    ap length takes.first ∙ length-take-le width old takes.enough in
    let number_is : number ≡ field_number width old =
    is ∙ sym (field_of_prefix width field (drop width old) (omega (arith, length_field)))
    ∙ ap (field_number width) (ap (λ first. first ++ drop width old) takes.first ∙ whole) in
    let enough : nat_lt (length old) width ≡ false = le-ltb (length old) width takes.enough in
    record {
      answer = rw (enough, number_is, takes.rest) refl;
      spelled =
          sym whole
          ∙ ap (λ first. first ++ drop width old)
          (sym (field_bytes_back width old takes.bytes takes.enough)
          ∙ ap (field_bytes width) (sym number_is))
          ∙ ap (λ rest. field_bytes width number ++ rest) (sym takes.rest);
      stays = tt;
    }

-- A read of too few bytes.
pub reads_short :
    (width : ℕ) (bytes : List ℕ) (short : Short) → length bytes < width →
    short ≡ record { need = width; have = length bytes } →
    ReadsField width bytes bytes (Err short)
unfolding field_at
reads_short width bytes short few is =
    let lack : nat_lt (length bytes) width ≡ true = lt-ltb (length bytes) width few in
    record {
      answer = rw (lack, is) refl;
      spelled = tt;
      stays = refl;
    }

-- Reading what was written gives it back, whatever follows it.
pub written_is_read :
    (width number : ℕ) (rest : List ℕ) → number < 256 ^ width →
    field_at width (field_bytes width number ++ rest) ≡ Ok (number, rest)
unfolding field_at
written_is_read width number rest fits =
    let bytes = field_bytes width number in
    let enough : width ≤ length (bytes ++ rest) =
    rw (length-append bytes rest, field_length width number) (omega arith) in
    let some : nat_lt (length (bytes ++ rest)) width ≡ false =
    le-ltb (length (bytes ++ rest)) width enough in
    rw (
      some,
      field_reads_back width number rest fits,
      drop_at bytes rest width (field_length width number),
    ) refl

-- The same with the fault of another reader.
pub number_again :
    {F : Type 0} (short : F) (width number : ℕ) (rest : List ℕ) → number < 256 ^ width →
    number_at short width (field_bytes width number ++ rest) ≡ Ok (number, rest)
number_again short width number rest fits =
    ap (with_fault short) (written_is_read width number rest fits)
