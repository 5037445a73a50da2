-- Valid replays are read back, and bytes have one reading.
use Rattle.std.specs.Prelude.{◌≡◌, ℕ, false}
use Rattle.std.specs.Prelude.{List, [], ◌∷◌, ◌++◌, Option, Some, None, Ok}
use Rattle.std.specs.List.{AllByRecursion}
use Rattle.std.proofs.Common.{refl, sym, ap, subst, ◌∙◌, arith, append_assoc}
use Rattle.std.proofs.lemmas.Bool.{lt-ltb}
use Rattle.std.proofs.lemmas.List.{append-nil}
use Rattle.wire_bytes.specs.Field.{field_bytes}
use Rattle.wire_bytes.proofs.ReadLemmas.{written_is_read}
use Rattle.game_orders.specs.declared.entry.Entry.{Entry}
use Rattle.replay_file.specs.declared.part.Part.{Part}
use Rattle.replay_file.specs.declared.part.Part.TheVariants.{Frame, Mark}
use Rattle.replay_file.specs.declared.standing.Standing.{Standing}
use Rattle.replay_file.proofs.EntriesLemmas.{entries_again}
use Rattle.replay_file.specs.PartBytes.{part_bytes, parts_bytes, entries_bytes, end_bytes}
use Rattle.replay_file.specs.PartBytes.{FitsEntry, FitsPart}
use Rattle.replay_file.specs.PartReading.{PartRead, frame_in, mark_in, part_in, next_in, some_part}
use Rattle.replay_file.specs.PartRules.{after_part, after_parts, most_frames, greatest_tag}
use Rattle.replay_file.specs.PartRules.{FrameMayFollow, MayFollow, EachMayFollow}

frame_again :
    (version : ℕ) (s : Standing) (entries : List Entry) (rest : List ℕ) →
    FrameMayFollow version s entries → AllByRecursion FitsEntry entries →
    part_in version s 1 (entries_bytes entries ++ rest) ≡ Ok (Frame entries, rest)
unfolding part_in frame_in
frame_again version s entries rest follows fits =
    rw (
      lt-ltb s.frames (most_frames version) follows.room,
      entries_again (greatest_tag version) s.departed [] entries rest follows.departed fits
          follows.orders,
      follows.play,
    ) refl

mark_again : (version : ℕ) (s : Standing) (hash : ℕ) (rest : List ℕ) → s.marked ≡ false →
    FitsPart (Mark hash) → part_in version s 2 (field_bytes 8 hash ++ rest) ≡ Ok (Mark hash, rest)
unfolding part_in mark_in
mark_again version s hash rest unmarked fits =
    rw (unmarked, written_is_read 8 hash rest fits) refl

-- The spelling of a part that may follow reads as the part, whatever follows it.
pub part_again :
    (version : ℕ) (s : Standing) (part : Part) (rest : List ℕ) → MayFollow version s part →
    FitsPart part → next_in version s (part_bytes part ++ rest) ≡ Ok (Some part, rest)
unfolding next_in part_bytes
part_again version s (Frame entries) rest follows fits =
    ap (next_in version s) (append_assoc (field_bytes 1 1) (entries_bytes entries) rest)
    ∙ rw (written_is_read 1 1 (entries_bytes entries ++ rest) (omega arith))
    (ap some_part (frame_again version s entries rest follows fits))
part_again version s (Mark hash) rest follows fits =
    ap (next_in version s) (append_assoc (field_bytes 1 2) (field_bytes 8 hash) rest)
    ∙ rw (written_is_read 1 2 (field_bytes 8 hash ++ rest) (omega arith))
    (ap some_part (mark_again version s hash rest follows fits))

-- The end reads as the end.
pub end_again : (version : ℕ) (s : Standing) (rest : List ℕ) →
    next_in version s (end_bytes ++ rest) ≡ Ok (None, rest)
unfolding next_in
end_again version s rest = rw (written_is_read 1 0 rest (omega arith)) refl

-- No part begins there.
abbrev pub HasNoPart : PartRead (Option Part) → Type 0
HasNoPart read = (part : Part) (rest : List ℕ) → read ≡ Ok (Some part, rest) → ⊥

same_part :
    (part other : Part) (rest more : List ℕ) (read : PartRead (Option Part)) →
    read ≡ Ok (Some part, rest) → read ≡ Ok (Some other, more) → (part ≡ other) × (rest ≡ more)
same_part part other rest more read is also =
    let both : (Some part, rest) ≡ (Some other, more) = cc in
    let some : Some part ≡ Some other = ap (λ (pair : Option Part × List ℕ). pair.0) both in
    let same : part ≡ other = cc in
    (same, ap (λ (pair : Option Part × List ℕ). pair.1) both)

-- Parts that follow one another up to where none is are read one way.
pub one_reading :
    (version : ℕ) (s : Standing) (parts others : List Part) (left more : List ℕ) →
    EachMayFollow version s parts → EachMayFollow version s others →
    AllByRecursion FitsPart parts → AllByRecursion FitsPart others →
    HasNoPart (next_in version (after_parts s parts) left) →
    HasNoPart (next_in version (after_parts s others) more) →
    parts_bytes parts ++ left ≡ parts_bytes others ++ more →
    (parts ≡ others) × (left ≡ more)
one_reading version s [] [] left more follow also fits fits_too none none_too same = (refl, same)
one_reading version s [] (other ∷ others) left more follow also fits fits_too none none_too same =
    absurd (none other (parts_bytes others ++ more)
    (ap (next_in version s)
    (same ∙ append_assoc (part_bytes other) (parts_bytes others) more)
    ∙ part_again version s other (parts_bytes others ++ more) also.0 fits_too.0))
one_reading version s (part ∷ parts) [] left more follow also fits fits_too none none_too same =
    absurd (none_too part (parts_bytes parts ++ left)
    (ap (next_in version s)
    (sym same ∙ append_assoc (part_bytes part) (parts_bytes parts) left)
    ∙ part_again version s part (parts_bytes parts ++ left) follow.0 fits.0))
one_reading version s (part ∷ parts) (other ∷ others) left more follow also fits fits_too none none_too same =
    let regrouped : part_bytes part ++ (parts_bytes parts ++ left)
    ≡ part_bytes other ++ (parts_bytes others ++ more) =
    sym (append_assoc (part_bytes part) (parts_bytes parts) left) ∙ same
    ∙ append_assoc (part_bytes other) (parts_bytes others) more in
    let first = part_again version s part (parts_bytes parts ++ left) follow.0 fits.0 in
    let second = ap (next_in version s) regrouped
    ∙ part_again version s other (parts_bytes others ++ more) also.0 fits_too.0 in
    let both = same_part part other (parts_bytes parts ++ left) (parts_bytes others ++ more)
    (next_in version s (part_bytes part ++ (parts_bytes parts ++ left))) first second in
    let again : after_part s part ≡ after_part s other = ap (after_part s) both.0 in
    let rest = one_reading version (after_part s part) parts others left more follow.1
    (subst (λ (t : Standing). EachMayFollow version t others) (sym again) also.1)
    fits.1 fits_too.1 none
    (subst (λ (t : Standing). HasNoPart (next_in version (after_parts t others) more)) (sym again)
    none_too) both.1 in
    (ap (λ (p : Part). p ∷ parts) both.0 ∙ ap (λ (ps : List Part). other ∷ ps) rest.0, rest.1)

-- One more part follows.
pub follow_more :
    (version : ℕ) (s : Standing) (parts : List Part) (part : Part) →
    EachMayFollow version s parts → MayFollow version (after_parts s parts) part →
    EachMayFollow version s (parts ++ part ∷ [])
follow_more version s [] part follow next = (next, tt)
follow_more version s (first ∷ parts) part follow next =
    (follow.0, follow_more version (after_part s first) parts part follow.1 next)

-- The bytes of one more part.
pub bytes_more : (parts : List Part) (part : Part) →
    parts_bytes (parts ++ part ∷ []) ≡ parts_bytes parts ++ part_bytes part
bytes_more [] part = append-nil (part_bytes part)
bytes_more (first ∷ parts) part =
    ap (λ (bytes : List ℕ). part_bytes first ++ bytes) (bytes_more parts part)
    ∙ sym (append_assoc (part_bytes first) (parts_bytes parts) (part_bytes part))

pub parts_spelled :
    (parts : List Part) (part : Part) (all bytes after : List ℕ) →
    all ≡ parts_bytes parts ++ bytes → bytes ≡ part_bytes part ++ after →
    all ≡ parts_bytes (parts ++ part ∷ []) ++ after
parts_spelled parts part all bytes after so_far spelled =
    so_far ∙ ap (λ (rest : List ℕ). parts_bytes parts ++ rest) spelled
    ∙ sym (append_assoc (parts_bytes parts) (part_bytes part) after)
    ∙ ap (λ (front : List ℕ). front ++ after) (sym (bytes_more parts part))

-- The standing after one more part.
pub standing_more : (s : Standing) (parts : List Part) (part : Part) →
    after_parts s (parts ++ part ∷ []) ≡ after_part (after_parts s parts) part
standing_more s [] part = refl
standing_more s (first ∷ parts) part = standing_more (after_part s first) parts part

-- One more part was written.
pub writing_step :
    (mid new after : List ℕ) (parts others : List Part) (part : Part) →
    parts ≡ part ∷ others → new ≡ mid ++ part_bytes part →
    mid ++ parts_bytes parts ≡ after → new ++ parts_bytes others ≡ after
writing_step mid new after parts others part taken written so_far =
    ap (λ (front : List ℕ). front ++ parts_bytes others) written
    ∙ append_assoc mid (part_bytes part) (parts_bytes others)
    ∙ ap (λ (ps : List Part). mid ++ parts_bytes ps) (sym taken) ∙ so_far
