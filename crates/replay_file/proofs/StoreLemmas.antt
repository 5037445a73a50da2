-- Stored parts are read back.
use Rattle.std.specs.Prelude.{◌≡◌, ℕ, zero, suc, ◌+◌, ◌<◌, ◌≤◌, false}
use Rattle.std.specs.Prelude.{List, [], ◌∷◌, ◌++◌, length, drop, replicate, Result, Ok, Err, OnOk}
use Rattle.std.specs.Prelude.{OnErr}
use Rattle.std.specs.List.{AllByRecursion}
use Rattle.std.proofs.Common.{refl, sym, ap, ap₂, subst, ◌∙◌, arith, append_assoc}
use Rattle.std.proofs.lemmas.Bool.{le-ltb}
use Rattle.std.proofs.lemmas.List.{append-nil, drop_at, length-append}
use Rattle.wire_bytes.specs.Field.{field_bytes}
use Rattle.wire_bytes.proofs.FieldLemmas.{field_length}
use Rattle.wire_bytes.specs.Read.{field_at}
use Rattle.wire_bytes.proofs.ReadLemmas.{written_is_read}
use Rattle.game_orders.specs.declared.entry.Entry.{Entry}
use Rattle.game_orders.specs.declared.limits.TheConstants.{MAX_CLIENTS}
use Rattle.replay_file.specs.declared.limits.TheConstants.{GREATEST_TAG}
use Rattle.replay_file.specs.declared.part.Part.{Part}
use Rattle.replay_file.specs.declared.part.Part.TheVariants.{Frame, Mark}
use Rattle.replay_file.specs.declared.part_fault.PartFault.{PartFault}
use Rattle.replay_file.specs.declared.part_fault.PartFault.TheVariants.{Short}
use Rattle.replay_file.proofs.EntriesLemmas.{entries_again, entries_known, nobody_stays}
use Rattle.replay_file.specs.Frames.{frames_of}
use Rattle.replay_file.proofs.OrdersLemmas.{all_added}
use Rattle.replay_file.specs.PartReading.{PartRead, mark_in}
use Rattle.replay_file.specs.PartStore.{stored_bytes, all_stored, counted_frame, stored_at}
use Rattle.replay_file.specs.PartStore.{parts_up_to, parts_in, EndsStore, IsCountedStore, IsSmall}
use Rattle.replay_file.specs.PartStore.{IsStore}
use Rattle.replay_file.specs.PartBytes.{entries_bytes, FitsEntry, FitsPart}

-- Parts in a row, and what follows them.
regroup_3 : (a b c rest : List ℕ) → (a ++ (b ++ c)) ++ rest ≡ a ++ (b ++ (c ++ rest))
regroup_3 a b c rest = simp append_assoc

frame_again :
    (entries : List Entry) (rest : List ℕ) → AllByRecursion FitsEntry entries →
    length entries ≤ MAX_CLIENTS →
    counted_frame (length entries) (entries_bytes entries ++ rest) ≡ Ok (Frame entries, rest)
unfolding counted_frame
frame_again entries rest fits small =
    rw (
      le-ltb MAX_CLIENTS (length entries) small,
      entries_again GREATEST_TAG (replicate (length entries) false) [] entries rest
          (nobody_stays entries) fits (entries_known entries),
    ) refl

-- The stored bytes of a part read as the part, whatever follows them.
pub stored_again : (part : Part) (rest : List ℕ) → FitsPart part → IsSmall part →
    stored_at (stored_bytes part ++ rest) ≡ Ok (part, rest)
unfolding stored_at stored_bytes mark_in
stored_again (Frame entries) rest fits small =
    let count = field_bytes 1 (length entries) in
    ap stored_at (regroup_3 (field_bytes 1 1) count (entries_bytes entries) rest)
    ∙ rw (
      written_is_read 1 1 (count ++ (entries_bytes entries ++ rest)) (omega arith),
      written_is_read 1 (length entries) (entries_bytes entries ++ rest)
          (omega (arith, small)),
    ) (frame_again entries rest fits small)
stored_again (Mark hash) rest fits small =
    ap stored_at (append_assoc (field_bytes 1 2) (field_bytes 8 hash) rest)
    ∙ rw (
      written_is_read 1 2 (field_bytes 8 hash ++ rest) (omega arith),
      written_is_read 8 hash rest fits,
    ) refl

-- Nothing is stored in no bytes.
nothing_stored : stored_at [] ≡ Err Short
unfolding stored_at field_at
nothing_stored = refl

up_to_again :
    (most : ℕ) (parts : List Part) → length parts ≤ most → AllByRecursion FitsPart parts →
    AllByRecursion IsSmall parts → parts_up_to most (all_stored parts) ≡ parts
unfolding parts_up_to
up_to_again zero [] few fits small = refl
up_to_again zero (part ∷ parts) few fits small = absurd (omega arith)
up_to_again (suc most) [] few fits small = rw nothing_stored refl
up_to_again (suc most) (part ∷ parts) few fits small =
    rw (stored_again part (all_stored parts) fits.0 small.0)
    (ap (λ (others : List Part). part ∷ others)
    (up_to_again most parts (omega arith) fits.1 small.1))

-- A stored part has bytes.
stored_long : (part : Part) → 1 ≤ length (stored_bytes part)
unfolding stored_bytes
stored_long (Frame entries) =
    let more = field_bytes 1 (length entries) ++ entries_bytes entries in
    omega (arith, length-append (field_bytes 1 1) more, field_length 1 1)
stored_long (Mark hash) =
    omega (arith, length-append (field_bytes 1 2) (field_bytes 8 hash), field_length 1 2)

all_long : (parts : List Part) → length parts ≤ length (all_stored parts)
all_long [] = omega arith
all_long (part ∷ parts) =
    omega (
      arith,
      length-append (stored_bytes part) (all_stored parts),
      stored_long part,
      all_long parts,
    )

-- The parts that were stored are read.
parts_again : (parts : List Part) → AllByRecursion FitsPart parts → AllByRecursion IsSmall parts →
    parts_in (all_stored parts) ≡ parts
unfolding parts_in
parts_again parts fits small =
    up_to_again (length (all_stored parts)) parts (all_long parts) fits small

is_store : (bytes : List ℕ) (parts : List Part) → bytes ≡ all_stored parts →
    AllByRecursion FitsPart parts → AllByRecursion IsSmall parts → IsStore bytes
is_store bytes parts stored fits small =
    let are : parts_in bytes ≡ parts = ap parts_in stored ∙ parts_again parts fits small in
    record {
      stored = stored ∙ ap all_stored (sym are);
      fits = subst (AllByRecursion FitsPart) (sym are) fits;
      small = subst (AllByRecursion IsSmall) (sym are) small;
    }

-- No bytes store no parts.
pub store_begins : IsStore []
store_begins = is_store [] [] refl tt tt

pub no_parts : parts_in [] ≡ []
no_parts = parts_again [] tt tt

all_more : (parts : List Part) (part : Part) →
    all_stored (parts ++ part ∷ []) ≡ all_stored parts ++ stored_bytes part
all_more [] part = append-nil (stored_bytes part)
all_more (first ∷ parts) part =
    ap (λ (bytes : List ℕ). stored_bytes first ++ bytes) (all_more parts part)
    ∙ sym (append_assoc (stored_bytes first) (all_stored parts) (stored_bytes part))

-- One more part is stored.
stored_more : (old new : List ℕ) (part : Part) → IsStore old → new ≡ old ++ stored_bytes part →
    new ≡ all_stored (parts_in old ++ part ∷ [])
stored_more old new part is added =
    added ∙ ap (λ (bytes : List ℕ). bytes ++ stored_bytes part) is.stored
    ∙ sym (all_more (parts_in old) part)

pub store_grows :
    (old new : List ℕ) (part : Part) → IsStore old → FitsPart part → IsSmall part →
    new ≡ old ++ stored_bytes part → IsStore new
store_grows old new part is fits small added =
    is_store new (parts_in old ++ part ∷ []) (stored_more old new part is added)
    (all_added FitsPart (parts_in old) part is.fits fits)
    (all_added IsSmall (parts_in old) part is.small small)

pub parts_grow :
    (old new : List ℕ) (part : Part) → IsStore old → FitsPart part → IsSmall part →
    new ≡ old ++ stored_bytes part → parts_in new ≡ parts_in old ++ part ∷ []
parts_grow old new part is fits small added =
    ap parts_in (stored_more old new part is added)
    ∙ parts_again (parts_in old ++ part ∷ [])
    (all_added FitsPart (parts_in old) part is.fits fits)
    (all_added IsSmall (parts_in old) part is.small small)

-- A part was stored.
pub parts_after :
    {A E : Type 0} (old new : List ℕ) (part : Part) (result : Result A E) → IsStore old →
    FitsPart part → IsSmall part → OnOk result (new ≡ old ++ stored_bytes part) →
    OnOk result (parts_in new ≡ parts_in old ++ part ∷ [])
parts_after old new part (Ok done) is fits small added =
    parts_grow old new part is fits small added
parts_after old new part (Err fault) is fits small added = tt

-- ---- the number of frames

-- One more frame is one more, and one more mark none.
frames_more :
    (parts : List Part) (entries : List Entry) →
    length (frames_of (parts ++ Frame entries ∷ [])) ≡ length (frames_of parts) + 1
frames_more [] entries = refl
frames_more (Frame first ∷ parts) entries = omega (arith, frames_more parts entries)
frames_more (Mark hash ∷ parts) entries = frames_more parts entries

marks_none :
    (parts : List Part) (hash : ℕ) → frames_of (parts ++ Mark hash ∷ []) ≡ frames_of parts
marks_none [] hash = refl
marks_none (Frame first ∷ parts) hash =
    ap (λ (frames : List (List Entry)). first ∷ frames) (marks_none parts hash)
marks_none (Mark other ∷ parts) hash = marks_none parts hash

frames_few : (parts : List Part) → length (frames_of parts) ≤ length parts
frames_few [] = omega arith
frames_few (Frame first ∷ parts) = omega (arith, frames_few parts)
frames_few (Mark other ∷ parts) = omega (arith, frames_few parts)

-- There are no more frames than stored bytes.
pub count_few : (bytes : List ℕ) (frames : ℕ) → IsCountedStore bytes frames →
    frames ≤ length bytes
count_few bytes frames is =
    omega (
      arith,
      is.count,
      frames_few (parts_in bytes),
      all_long (parts_in bytes),
      ap length is.store.stored,
    )

-- After one more frame.
pub frame_counted :
    (old new : List ℕ) (entries : List Entry) (frames count : ℕ) → IsCountedStore old frames →
    AllByRecursion FitsEntry entries → length entries ≤ MAX_CLIENTS →
    new ≡ old ++ stored_bytes (Frame entries) → count ≡ frames + 1 → IsCountedStore new count
frame_counted old new entries frames count is fits small added more =
    record {
      store = store_grows old new (Frame entries) is.store fits small added;
      count =
          omega (
            arith,
            more,
            is.count,
            ap (λ (parts : List Part). length (frames_of parts))
                (parts_grow old new (Frame entries) is.store fits small added),
            frames_more (parts_in old) entries,
          );
    }

-- There is room for the count of one more frame.
pub room_for_frame :
    (old new : List ℕ) (entries : List Entry) (frames : ℕ) → IsCountedStore old frames →
    new ≡ old ++ stored_bytes (Frame entries) → frames < length new
room_for_frame old new entries frames is added =
    omega (
      arith,
      count_few old frames is,
      ap length added,
      length-append old (stored_bytes (Frame entries)),
      stored_long (Frame entries),
    )

-- After one more mark, or out of memory.
pub mark_counted :
    {A E : Type 0} (old new : List ℕ) (hash frames : ℕ) (result : Result A E) →
    IsCountedStore old frames → FitsPart (Mark hash) →
    OnOk result (new ≡ old ++ stored_bytes (Mark hash)) → OnErr result (new ≡ old) →
    IsCountedStore new frames
mark_counted old new hash frames (Ok done) is fits added same =
    record {
      store = store_grows old new (Mark hash) is.store fits tt added;
      count =
          is.count
          ∙ sym (ap (λ (parts : List Part). length (frames_of parts))
          (parts_grow old new (Mark hash) is.store fits tt added)
          ∙ ap (λ (all : List (List Entry)). length all) (marks_none (parts_in old) hash));
    }
mark_counted old new hash frames (Err fault) is fits added same =
    subst (λ (bytes : List ℕ). IsCountedStore bytes frames) (sym same) is

-- No bytes store no frames.
pub count_begins : IsCountedStore [] 0
count_begins =
    record {
      store = store_begins;
      count = sym (ap (λ (parts : List Part). length (frames_of parts)) no_parts);
    }

-- The first part was read.
pub record TakenFrom (view : List Part) (left new : List ℕ) (part : Part) : Type 0 where
  pub first : view ≡ part ∷ parts_in new
  pub ends : EndsStore left new

same_read : (part other : Part) (rest more : List ℕ) (read : PartRead Part) →
    read ≡ Ok (part, rest) → read ≡ Ok (other, more) → (part ≡ other) × (rest ≡ more)
same_read part other rest more read is also =
    let both : (part, rest) ≡ (other, more) = cc in
    (ap (λ (pair : Part × List ℕ). pair.0) both, ap (λ (pair : Part × List ℕ). pair.1) both)

-- What follows a part is the last of the bytes.
ends_after :
    (left front new : List ℕ) → IsStore new → left ≡ front ++ new → EndsStore left new
ends_after left front new store is =
    let count : length left ≡ length front + length new =
    ap length is ∙ length-append front new in
    record {
      store = store;
      few = omega (arith, count);
      last =
          ap₂ (λ (n : ℕ) (bytes : List ℕ). drop n bytes)
          (omega (arith, count)) is
          ∙ drop_at front new (length front) refl;
    }

taken_of :
    (left new : List ℕ) (part : Part) (view : List Part) → left ≡ all_stored view →
    AllByRecursion FitsPart view → AllByRecursion IsSmall view → 0 < length left →
    stored_at left ≡ Ok (part, new) → TakenFrom view left new part
taken_of left new part [] stored fits small some read =
    absurd (omega (arith, ap length stored))
taken_of left new part (first ∷ others) stored fits small some read =
    let again : stored_at left ≡ Ok (first, all_stored others) =
    ap stored_at stored ∙ stored_again first (all_stored others) fits.0 small.0 in
    let same = same_read part first new (all_stored others) (stored_at left) read again in
    let are : parts_in new ≡ others =
    ap parts_in same.1 ∙ parts_again others fits.1 small.1 in
    record {
      first = ap (λ (p : Part). p ∷ others) (sym same.0)
          ∙ ap (λ (rest : List Part). part ∷ rest) (sym are);
      ends = ends_after left (stored_bytes first) new (is_store new others same.1 fits.1 small.1)
          (stored ∙ ap (λ (rest : List ℕ). stored_bytes first ++ rest) (sym same.1));
    }

pub part_taken :
    (left new : List ℕ) (part : Part) → IsStore left → 0 < length left →
    stored_at left ≡ Ok (part, new) → TakenFrom (parts_in left) left new part
part_taken left new part is some read =
    taken_of left new part (parts_in left) is.stored is.fits is.small some read

never_bad_of :
    (left : List ℕ) (fault : PartFault) (view : List Part) → left ≡ all_stored view →
    AllByRecursion FitsPart view → AllByRecursion IsSmall view → 0 < length left →
    stored_at left ≡ Err fault → ⊥
never_bad_of left fault [] stored fits small some read =
    absurd (omega (arith, ap length stored))
never_bad_of left fault (first ∷ others) stored fits small some read =
    let again : stored_at left ≡ Ok (first, all_stored others) =
    ap stored_at stored ∙ stored_again first (all_stored others) fits.0 small.0 in
    cc

-- Stored bytes are never bad.
pub never_bad :
    (left : List ℕ) (fault : PartFault) → IsStore left → 0 < length left →
    stored_at left ≡ Err fault → ⊥
never_bad left fault is some read =
    never_bad_of left fault (parts_in left) is.stored is.fits is.small some read

no_bytes_of : (bytes : List ℕ) → length bytes ≡ 0 → parts_in bytes ≡ []
no_bytes_of [] none = no_parts
no_bytes_of (byte ∷ bytes) none = absurd (omega arith)

-- Where no bytes are left no part is.
pub none_left : (bytes : List ℕ) → length bytes ≡ 0 → parts_in bytes ≡ []
none_left bytes none = no_bytes_of bytes none
