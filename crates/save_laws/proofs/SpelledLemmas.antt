-- What was read is spelled so: the bytes that a read took are the bytes of its value.
use Rattle.std.proofs.Common.{◌≡◌, ℕ, zero, suc, ◌+◌, ◌<◌, ◌≤◌, Bool, true, false, ◌&&◌, if◌then◌else◌}
use Rattle.std.proofs.Common.{List, [], ◌∷◌, ◌++◌, length, drop, Result, Ok, Err, nat_lt, nat_le}
use Rattle.std.proofs.Common.{refl, sym, ap, subst, ◌∙◌, arith, append_assoc}
use Rattle.std.specs.List.{flat_map}
use Rattle.std.proofs.lemmas.Bool.{leb-true, ltb-false, ltb-true}
use Rattle.std.proofs.lemmas.List.{append-nil, get_or-drop, take-append-drop, length-append}
use Rattle.base.specs.Steps.{◌>>=◌}
use Rattle.wire_bytes.specs.Field.{field_bytes, field_number, AreBytes}
use Rattle.wire_bytes.proofs.FieldLemmas.{field_bytes_back}
use Rattle.wire_bytes.specs.Read.{field_at, with_fault}
use Rattle.game_save.specs.declared.save_fault.SaveFault.{SaveFault}
use Rattle.game_save.specs.declared.save_fault.SaveFault.TheVariants.{BadWorld}
use Rattle.game_save.specs.Fields.{IsWithin, Left, SaveRead, each_after, field_in, is_within, place_in, range_in}

-- After these bytes a read took on: with what it took they are the bytes of its value, and bytes are
-- left.
unfoldable pub Spells : {A : Type 0} → (front : List ℕ) → Left → (A → List ℕ) → SaveRead A → Type 0
Spells front left whole (Ok read) =
    (front ++ left.bytes ≡ whole read.0 ++ read.1.bytes) × AreBytes read.1.bytes
Spells front left whole (Err fault) = Unit {0}

-- Nothing more is read.
pub done :
    {A : Type 0} (front : List ℕ) (left : Left) (whole : A → List ℕ) (value : A) →
    front ≡ whole value → AreBytes left.bytes → Spells front left whole (Ok (value, left))
unfolding Spells
done front left whole value same are = (ap (λ (bs : List ℕ). bs ++ left.bytes) same, are)

pub refused :
    {A : Type 0} (front : List ℕ) (left : Left) (whole : A → List ℕ) (fault : SaveFault) →
    Spells front left whole (Err fault)
unfolding Spells
refused front left whole fault = tt

-- Bytes of the front or of what is left.
moved :
    {A : Type 0} (front other : List ℕ) (left mid : Left) (whole : A → List ℕ) (r : SaveRead A) →
    front ++ left.bytes ≡ other ++ mid.bytes → Spells other mid whole r → Spells front left whole r
unfolding Spells
moved front other left mid whole (Ok read) same is = (same ∙ is.0, is.1)
moved front other left mid whole (Err fault) same is = tt

-- One read after another.
pub after_read :
    {A B : Type 0} (front : List ℕ) (left : Left) (r : SaveRead A) (f : (A × Left) → SaveRead B)
    (first : A → List ℕ) (whole : B → List ℕ) → Spells front left first r →
    ((x : A) (mid : Left) → r ≡ Ok (x, mid) → AreBytes mid.bytes →
    Spells (first x) mid whole (f (x, mid))) →
    Spells front left whole (r >>= f)
unfolding Spells
after_read front left (Ok read) f first whole own rest =
    moved front (first read.0) left read.1 whole (f read) own.0 (rest read.0 read.1 refl own.1)
after_read front left (Err fault) f first whole own rest = tt

-- The same of a read with a spelling of its own.
pub fronted :
    {A : Type 0} (front : List ℕ) (left : Left) (first : A → List ℕ) (r : SaveRead A) →
    Spells [] left first r → Spells front left (λ (x : A). front ++ first x) r
unfolding Spells
fronted front left first (Ok read) own = (
  ap (λ (bs : List ℕ). front ++ bs) own.0
      ∙ sym (append_assoc front (first read.0) read.1.bytes),
  own.1,
)
fronted front left first (Err fault) own = tt

pub next :
    {A B : Type 0} (front : List ℕ) (left : Left) (r : SaveRead A) (f : (A × Left) → SaveRead B)
    (first : A → List ℕ) (whole : B → List ℕ) → Spells [] left first r →
    ((x : A) (mid : Left) → r ≡ Ok (x, mid) → AreBytes mid.bytes →
    Spells (front ++ first x) mid whole (f (x, mid))) →
    Spells front left whole (r >>= f)
next {A} front left r f first whole own rest =
    after_read front left r f (λ (x : A). front ++ first x) whole (fronted front left first r own)
    rest

-- A step that reads nothing.
pub known :
    {K B : Type 0} (front : List ℕ) (left : Left) (r : Result K SaveFault) (f : K → SaveRead B)
    (whole : B → List ℕ) → ((k : K) → Spells front left whole (f k)) →
    Spells front left whole (r >>= f)
unfolding Spells
known front left (Ok k) f whole rest = rest k
known front left (Err fault) f whole rest = tt

-- Another spelling that is the same of what was read.
pub because :
    {A : Type 0} (front : List ℕ) (left : Left) (whole other : A → List ℕ) (r : SaveRead A) →
    ((x : A) (after : Left) → r ≡ Ok (x, after) → other x ≡ whole x) →
    Spells front left other r → Spells front left whole r
unfolding Spells
because front left whole other (Ok read) same is =
    (is.0 ∙ ap (λ (bs : List ℕ). bs ++ read.1.bytes) (same read.0 read.1 refl), is.1)
because front left whole other (Err fault) same is = tt

-- Another fault.
pub faulted :
    {A : Type 0} (front : List ℕ) (left : Left) (whole : A → List ℕ) (fault : SaveFault)
    (r : SaveRead A) → Spells front left whole r → Spells front left whole (with_fault fault r)
unfolding Spells
faulted front left whole fault (Ok read) is = is
faulted front left whole fault (Err own) is = tt

-- A choice.
pub choose :
    {A : Type 0} (front : List ℕ) (left : Left) (whole : A → List ℕ) (b : Bool)
    (x y : SaveRead A) → (b ≡ true → Spells front left whole x) →
    (b ≡ false → Spells front left whole y) → Spells front left whole (if b then x else y)
choose front left whole true x y met fails = met refl
choose front left whole false x y met fails = fails refl

-- The value of what was read.
abbrev gave : {A : Type 0} → A × Left → SaveRead A
gave read = Ok read

gave_one : {A : Type 0} (x y : A × Left) → gave x ≡ gave y → x ≡ y
gave_one x y same = cc

pub first_of : {A : Type 0} (x y : A × Left) → gave x ≡ gave y → x.0 ≡ y.0
first_of {A} x y same = ap (λ (read : A × Left). read.0) (gave_one x y same)

first_byte : (byte : ℕ) (rest : List ℕ) → field_number 1 (byte ∷ rest) ≡ byte
unfolding field_number
first_byte byte rest = omega arith

-- A field.
are_dropped : (n : ℕ) (bytes : List ℕ) → AreBytes bytes → AreBytes (drop n bytes)
are_dropped n bytes are = λ i. subst (λ (b : ℕ). b < 256) (sym (get_or-drop n bytes i 0)) (are (n + i))

field_by :
    (width : ℕ) (left : Left) (short : Bool) → nat_lt (length left.bytes) width ≡ short →
    AreBytes left.bytes → Spells [] left (field_bytes width) (field_in width left)
unfolding Spells field_in field_at
field_by width left true is are = rw is tt
field_by width left false is are =
    let enough : width ≤ length left.bytes = ltb-false (length left.bytes) width is in
    rw is (
      sym (take-append-drop width left.bytes)
          ∙ ap (λ (bs : List ℕ). bs ++ drop width left.bytes)
          (sym (field_bytes_back width left.bytes are enough)),
      are_dropped width left.bytes are,
    )

pub field_spells :
    (width : ℕ) (left : Left) → AreBytes left.bytes →
    Spells [] left (field_bytes width) (field_in width left)
field_spells width left are = field_by width left (nat_lt (length left.bytes) width) refl are

-- A byte.
abbrev pub one_byte : ℕ → List ℕ
one_byte byte = byte ∷ []

first_split : (bytes : List ℕ) → 1 ≤ length bytes → bytes ≡ field_number 1 bytes ∷ drop 1 bytes
first_split [] some = absurd (omega arith)
first_split (byte ∷ rest) some = ap (λ (b : ℕ). b ∷ rest) (sym (first_byte byte rest))

byte_by :
    (left : Left) (short : Bool) → nat_lt (length left.bytes) 1 ≡ short → AreBytes left.bytes →
    Spells [] left one_byte (field_in 1 left)
unfolding Spells field_in field_at
byte_by left true is are = rw is tt
byte_by left false is are =
    rw is (
      first_split left.bytes (ltb-false (length left.bytes) 1 is),
      are_dropped 1 left.bytes are,
    )

pub byte_spells :
    (left : Left) → AreBytes left.bytes → Spells [] left one_byte (field_in 1 left)
byte_spells left are = byte_by left (nat_lt (length left.bytes) 1) refl are

within_range :
    (width least end : ℕ) (left : Left) (whole : ℕ → List ℕ) →
    Spells [] left whole (field_in width left) → Spells [] left whole (range_in width least end left)
unfolding range_in
within_range width least end left whole own =
    next [] left (field_in width left) _ whole whole own
    (λ number mid is are.
    choose (whole number) mid whole (is_within least end number) (Ok (number, mid)) (Err _)
    (λ met. done (whole number) mid whole number refl are) (λ fails. refused (whole number) mid whole _))

pub range_spells :
    (width least end : ℕ) (left : Left) → AreBytes left.bytes →
    Spells [] left (field_bytes width) (range_in width least end left)
range_spells width least end left are =
    within_range width least end left (field_bytes width) (field_spells width left are)

pub byte_range_spells :
    (least end : ℕ) (left : Left) → AreBytes left.bytes →
    Spells [] left one_byte (range_in 1 least end left)
byte_range_spells least end left are = within_range 1 least end left one_byte (byte_spells left are)

-- The number that was read is within its range.
pub range_within :
    (width least end : ℕ) (left after : Left) (number : ℕ) →
    range_in width least end left ≡ Ok (number, after) → IsWithin least end number
unfolding range_in
range_within width least end left after number is = within_by (field_in width left) is
  where
    told :
        (n : ℕ) (a b : Bool) → nat_le least n ≡ a → nat_lt n end ≡ b → (a && b) ≡ true →
        IsWithin least end n
    told n true true low high both =
        record { from = leb-true least n low; below = ltb-true n end high }
    told n true false low high both = absurd cc
    told n false b low high both = absurd cc

    chosen :
        (n : ℕ × Left) (b : Bool) → is_within least end n.0 ≡ b →
        (if b then Ok n else Err (BadWorld (place_in left))) ≡ Ok (number, after) →
        IsWithin least end number
    chosen n true test same =
        subst (λ (m : ℕ). IsWithin least end m) (first_of n (number, after) same)
        (told n.0 (nat_le least n.0) (nat_lt n.0 end) refl refl test)
    chosen n false test same = absurd cc

    within_by :
        (r : SaveRead ℕ) →
        (r >>= (λ (n : ℕ × Left). if is_within least end n.0 then Ok n else Err (BadWorld (place_in left))))
        ≡ Ok (number, after) → IsWithin least end number
    within_by (Ok n) same = chosen n (is_within least end n.0) refl same
    within_by (Err fault) same = absurd cc

-- Values that are read one after the other.
pub flat_more :
    {A : Type 0} (bytes_of : A → List ℕ) (held : List A) (x : A) →
    flat_map bytes_of held ++ bytes_of x ≡ flat_map bytes_of (held ++ x ∷ [])
flat_more bytes_of [] x = sym (append-nil (bytes_of x))
flat_more bytes_of (y ∷ held) x =
    append_assoc (bytes_of y) (flat_map bytes_of held) (bytes_of x)
    ∙ ap (λ (bs : List ℕ). bytes_of y ++ bs) (flat_more bytes_of held x)

pub each_spells :
    {A : Type 0} (read : List A → Left → SaveRead A) (bytes_of : A → List ℕ)
    (front_of : ℕ → List ℕ) (total : ℕ) (held : List A) (count : ℕ) (left : Left) →
    ((xs : List A) (at : Left) → AreBytes at.bytes → Spells [] at bytes_of (read xs at)) →
    length held + count ≡ total → AreBytes left.bytes →
    Spells (front_of total ++ flat_map bytes_of held) left
    (λ (xs : List A). front_of (length xs) ++ flat_map bytes_of xs) (each_after read held count left)
unfolding each_after
each_spells {A} read bytes_of front_of total held zero left own many are =
    let all : total ≡ length held = omega arith in
    done (front_of total ++ flat_map bytes_of held) left
    (λ (xs : List A). front_of (length xs) ++ flat_map bytes_of xs) held
    (ap (λ (n : ℕ). front_of n ++ flat_map bytes_of held) all) are
each_spells {A} read bytes_of front_of total held (suc count) left own many are =
    let front = front_of total in
    next (front ++ flat_map bytes_of held) left (read held left) _ bytes_of
    (λ (xs : List A). front_of (length xs) ++ flat_map bytes_of xs) (own held left are)
    (λ x mid is rest.
    let grown : front ++ flat_map bytes_of (held ++ x ∷ [])
    ≡ (front ++ flat_map bytes_of held) ++ bytes_of x =
    ap (λ (bs : List ℕ). front ++ bs) (sym (flat_more bytes_of held x))
    ∙ sym (append_assoc front (flat_map bytes_of held) (bytes_of x)) in
    subst (λ (bs : List ℕ). Spells bs mid
    (λ (xs : List A). front_of (length xs) ++ flat_map bytes_of xs)
    (each_after read (held ++ x ∷ []) count mid)) grown
    (each_spells read bytes_of front_of total (held ++ x ∷ []) count mid own
    (omega (arith, length-append held (x ∷ []))) rest))
