-- What a read does to the bytes that are left.
use Rattle.std.specs.Prelude.{◌≡◌, ℕ, ◌≤◌, nat_lt, if◌then◌else◌, List, ◌++◌, length, take, drop}
use Rattle.std.specs.Prelude.{Result, Ok, Err, IfOk, OnErr}
use Rattle.wire_bytes.specs.declared.short.Short.{Short}
use Rattle.wire_bytes.specs.Field.{field_bytes, field_number, AreBytes}

-- The number of the first field of the bytes and the bytes after it, or that there are fewer bytes
-- than the field is wide.
unfoldable pub field_at : ℕ → List ℕ → Result (ℕ × List ℕ) Short
field_at width bytes =
    if nat_lt (length bytes) width then Err (record { need = width; have = length bytes })
    else Ok (field_number width bytes, drop width bytes)

-- The outcome, with this fault in place of its own.
abbrev pub with_fault : {A E F : Type 0} → F → Result A E → Result A F
with_fault fault (Ok value) = Ok value
with_fault fault (Err own) = Err fault

-- The first field of the bytes and the bytes after it, or this fault where they are too few.
abbrev pub number_at : {F : Type 0} → F → ℕ → List ℕ → Result (ℕ × List ℕ) F
number_at short width bytes = with_fault short (field_at width bytes)

-- `old` and `new` are the bytes left before and after a read, and `at` is what bytes give: a value
-- and the bytes after it, or a fault. The read answers just that.
abbrev pub Reads :
    {A F : Type 0} → (List ℕ → Result (A × List ℕ) F) → (old new : List ℕ) → Result A F → Type 0
Reads at old new (Ok value) = at old ≡ Ok (value, new)
Reads at old new (Err fault) = at old ≡ Err fault

-- A read of a field: what was left is the field of the answer and then what is left, and after a
-- refusal all is still left.
pub record ReadsField (width : ℕ) (old new : List ℕ) (result : Result ℕ Short) : Type 0 where
  pub answer : Reads (field_at width) old new result
  pub spelled : IfOk result (λ number. old ≡ field_bytes width number ++ new)
  pub stays : OnErr result (new ≡ old)

-- The bytes of the first field were taken.
pub record TakesField (width : ℕ) (old new field : List ℕ) : Type 0 where
  pub enough : width ≤ length old
  pub first : field ≡ take width old
  pub rest : new ≡ drop width old
  pub bytes : AreBytes old
