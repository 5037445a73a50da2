-- Fields of a save, read one after the other: each is its value and the bytes after it, or the
-- fault at its place.
use Rattle.std.specs.Prelude.{◌≡◌, ◌<◌, ◌≤◌, ℕ, zero, suc, ◌-◌, nat_le, nat_lt, ◌&&◌, Bool}
use Rattle.std.specs.Prelude.{if◌then◌else◌, List, [], ◌∷◌, ◌++◌, length, Result, Ok, Err}
use Rattle.base.specs.Steps.{◌>>=◌, IsFault}
use Rattle.wire_bytes.specs.Read.{number_at}
use Rattle.game_save.specs.declared.save_fault.SaveFault.{SaveFault}
use Rattle.game_save.specs.declared.save_fault.SaveFault.TheVariants.{BadWorld, NoMemory, Torn}

-- The bytes that are left, of so many.
pub record Left : Type 0 where
  pub total : ℕ
  pub bytes : List ℕ

-- None is read yet.
abbrev pub all_of : List ℕ → Left
all_of bytes = record { total = length bytes; bytes = bytes }

-- The place of the next byte, from 0.
abbrev pub place_in : Left → ℕ
place_in left = left.total - length left.bytes

-- A value and what is left after it, or the fault.
abbrev pub SaveRead : Type 0 → Type 0
SaveRead A = Result (A × Left) SaveFault

abbrev pub onwards : {A : Type 0} → (total : ℕ) → Result (A × List ℕ) SaveFault → SaveRead A
onwards total (Ok read) = Ok (read.0, record { total = total; bytes = read.1 })
onwards total (Err fault) = Err fault

-- The number in a field of this width. A field that runs past the end is torn at its place.
unfoldable pub field_in : (width : ℕ) → Left → SaveRead ℕ
field_in width left = onwards left.total (number_at (Torn (place_in left)) width left.bytes)

-- A number from the least on and below the end.
pub record IsWithin (least end number : ℕ) : Type 0 where
  pub from : least ≤ number
  pub below : number < end

-- The same as a test.
abbrev pub is_within : (least end number : ℕ) → Bool
is_within least end number = nat_le least number && nat_lt number end

-- A field whose number is from the least on and below the end. Another number is refused at its
-- place.
unfoldable pub range_in : (width least end : ℕ) → Left → SaveRead ℕ
range_in width least end left = do
  number ← field_in width left
  if is_within least end number.0 then Ok number else Err (BadWorld (place_in left))

-- So many more values after those that are held. What each may be depends on those before it.
unfoldable pub each_after :
    {A : Type 0} → (List A → Left → SaveRead A) → List A → (more : ℕ) → Left → SaveRead (List A)
each_after read held zero left = Ok (held, left)
each_after read held (suc more) left =
    read held left >>= λ next. each_after read (held ++ next.0 ∷ []) more next.1

-- `old` and `new` are what is left before and after a read, and `at` is what bytes give. The read
-- answers just that.
abbrev pub Reads :
    {A : Type 0} → (Left → SaveRead A) → (old new : Left) → Result A SaveFault → Type 0
Reads at old new (Ok value) = at old ≡ Ok (value, new)
Reads at old new (Err fault) = at old ≡ Err fault

-- The same of a read that may be out of memory.
abbrev pub Gives :
    {A : Type 0} → (Left → SaveRead A) → (old new : Left) → Result A SaveFault → Type 0
Gives at old new (Ok value) = at old ≡ Ok (value, new)
Gives at old new (Err fault) = IsFault NoMemory fault (at old)
