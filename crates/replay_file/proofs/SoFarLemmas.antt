-- The parts of a replay read one by one.
use Rattle.std.specs.Prelude.{◌≡◌, ℕ, ◌-◌, ◌<◌, ◌≤◌, ◌==◌, Bool, true, false}
use Rattle.std.specs.Prelude.{if◌then◌else◌, List, [], ◌∷◌, ◌++◌, length, Option, Some, None}
use Rattle.std.specs.Prelude.{Ok}
use Rattle.std.proofs.Common.{refl, sym, ap, subst, ◌∙◌, arith}
use Rattle.std.proofs.lemmas.List.{append-nil, length-append}
use Rattle.wire_bytes.specs.Field.{field_bytes}
use Rattle.wire_bytes.proofs.FieldLemmas.{field_length}
use Rattle.game_orders.specs.declared.limits.TheConstants.{MAX_FRAMES}
use Rattle.replay_file.specs.declared.limits.TheConstants.{FIRST_VERSION}
use Rattle.replay_file.specs.declared.part.Part.{Part}
use Rattle.replay_file.specs.declared.part.Part.TheVariants.{Frame, Mark}
use Rattle.replay_file.specs.declared.replay_fault.ReplayFault.{ReplayFault}
use Rattle.replay_file.specs.declared.replay_fault.ReplayFault.TheVariants.{TrailingBytes}
use Rattle.replay_file.specs.declared.standing.Standing.{Standing}
use Rattle.replay_file.specs.FirstFault.{fault_at, IsFaultInParts}
use Rattle.replay_file.proofs.OrdersLemmas.{all_added}
use Rattle.replay_file.specs.PartBytes.{part_bytes, parts_bytes, entries_bytes, end_bytes, FitsPart}
use Rattle.replay_file.specs.PartReading.{PartRead, next_in}
use Rattle.replay_file.specs.PartRules.{opening, after_part, most_frames}
use Rattle.replay_file.specs.PartRules.{MayFollow}
use Rattle.replay_file.specs.ReadClauses.{ReadSoFar, SpellsParts, SpellsNext}
use Rattle.replay_file.proofs.ReplayLemmas.{follow_more, parts_spelled, standing_more}

-- Nothing was read yet.
pub read_begins : (version clients : ℕ) (bytes : List ℕ) →
    ReadSoFar version clients bytes bytes [] (opening clients)
read_begins version clients bytes =
    record { spelled = refl; follow = tt; fits = tt; standing = refl; few = omega arith }

pub few_frames : (version : ℕ) → most_frames version ≤ MAX_FRAMES
few_frames version = by_test (version == FIRST_VERSION)
  where
    by_test : (old : Bool) → (if◌then◌else◌ old 65536 262144) ≤ MAX_FRAMES
    by_test true = omega arith
    by_test false = omega arith

few_more : (version : ℕ) (s : Standing) (part : Part) → MayFollow version s part →
    s.frames ≤ MAX_FRAMES → (after_part s part).frames ≤ MAX_FRAMES
few_more version s (Frame entries) follows few =
    omega (arith, follows.room, few_frames version)
few_more version s (Mark hash) follows few = few

-- One more part was read.
pub read_more :
    (version clients : ℕ) (bytes left new : List ℕ) (parts : List Part) (s : Standing)
    (part : Part) → ReadSoFar version clients bytes left parts s →
    left ≡ part_bytes part ++ new → MayFollow version s part → FitsPart part →
    ReadSoFar version clients bytes new (parts ++ part ∷ []) (after_part s part)
read_more version clients bytes left new parts s part so_far spelled follows fits =
    record {
      spelled = parts_spelled parts part bytes left new so_far.spelled spelled;
      follow =
          follow_more version (opening clients) parts part so_far.follow
          (subst (λ (t : Standing). MayFollow version t part) so_far.standing follows);
      fits = all_added FitsPart parts part so_far.fits fits;
      standing =
          ap (λ (t : Standing). after_part t part) so_far.standing
          ∙ sym (standing_more (opening clients) parts part);
      few = few_more version s part follows so_far.few;
    }

-- A part has bytes.
pub part_shrinks :
    (part : Part) (left new : List ℕ) → left ≡ part_bytes part ++ new → length new < length left
unfolding part_bytes
part_shrinks (Frame entries) left new spelled =
    omega (
      arith,
      ap length spelled,
      length-append (field_bytes 1 1 ++ entries_bytes entries) new,
      length-append (field_bytes 1 1) (entries_bytes entries),
      field_length 1 1,
    )
part_shrinks (Mark hash) left new spelled =
    omega (
      arith,
      ap length spelled,
      length-append (field_bytes 1 2 ++ field_bytes 8 hash) new,
      length-append (field_bytes 1 2) (field_bytes 8 hash),
      field_length 1 2,
    )

-- A fault stands where the next part should.
pub fault_found :
    (version clients total : ℕ) (bytes left : List ℕ) (parts : List Part) (s : Standing)
    (fault : ReplayFault) → ReadSoFar version clients bytes left parts s →
    fault_at total left (next_in version s left) ≡ Some fault →
    IsFaultInParts version clients total bytes fault
fault_found version clients total bytes left parts s fault so_far found =
    record {
      parts = parts;
      left = left;
      fits = so_far.fits;
      follow = so_far.follow;
      spelled = so_far.spelled;
      found =
          subst (λ (t : Standing). fault_at total left (next_in version t left) ≡ Some fault)
          so_far.standing found;
    }

trailing_at :
    (total : ℕ) (left new : List ℕ) (read : PartRead (Option Part)) → read ≡ Ok (None, new) →
    0 < length new → fault_at total left read ≡ Some (TrailingBytes (total - length new))
trailing_at total left [] read is some = absurd (omega arith)
trailing_at total left (byte ∷ more) read is some = ap (fault_at total left) is

-- Bytes follow the end.
pub trailing_found :
    (version clients total : ℕ) (bytes left new : List ℕ) (parts : List Part) (s : Standing) →
    ReadSoFar version clients bytes left parts s → next_in version s left ≡ Ok (None, new) →
    0 < length new →
    IsFaultInParts version clients total bytes (TrailingBytes (total - length new))
trailing_found version clients total bytes left new parts s so_far read some =
    fault_found version clients total bytes left parts s (TrailingBytes (total - length new))
    so_far (trailing_at total left new (next_in version s left) read some)

no_more : (bytes front new : List ℕ) → bytes ≡ front ++ new → length new ≡ 0 → bytes ≡ front
no_more bytes front [] is none = is ∙ append-nil front
no_more bytes front (byte ∷ more) is none = absurd (omega arith)

-- All was read.
pub all_read :
    (version clients : ℕ) (bytes left new : List ℕ) (parts : List Part) (s : Standing) →
    ReadSoFar version clients bytes left parts s → left ≡ end_bytes ++ new → length new ≡ 0 →
    SpellsParts version clients bytes parts
all_read version clients bytes left new parts s so_far spelled none =
    record {
      spelled =
          so_far.spelled
          ∙ ap (λ (rest : List ℕ). parts_bytes parts ++ rest) (no_more left end_bytes new spelled none);
      follow = so_far.follow;
      fits = so_far.fits;
    }

-- One more part was read, stored and passed.
pub read_step :
    (version clients : ℕ) (bytes left new : List ℕ) (parts grown : List Part) (s t : Standing)
    (next : Option Part) (part : Part) → ReadSoFar version clients bytes left parts s →
    SpellsNext version s left new next → next ≡ Some part → FitsPart part →
    grown ≡ parts ++ part ∷ [] → t ≡ after_part s part →
    ReadSoFar version clients bytes new grown t
read_step version clients bytes left new parts grown s t next part so_far spells is fits pushed passed =
    let spelled : SpellsNext version s left new (Some part) =
    subst (SpellsNext version s left new) is spells in
    let more = read_more version clients bytes left new parts s part so_far spelled.0 spelled.1 fits in
    subst (λ (all : List Part). ReadSoFar version clients bytes new all t) (sym pushed)
    (subst (λ (u : Standing). ReadSoFar version clients bytes new (parts ++ part ∷ []) u) (sym passed)
    more)

pub step_shrinks :
    (version : ℕ) (left new : List ℕ) (s : Standing) (next : Option Part) (part : Part) →
    SpellsNext version s left new next → next ≡ Some part → length new < length left
step_shrinks version left new s next part spells is =
    let spelled : SpellsNext version s left new (Some part) =
    subst (SpellsNext version s left new) is spells in
    part_shrinks part left new spelled.0
