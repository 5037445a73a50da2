-- What bytes are read as is the replay that they spell, or their first fault.
use Rattle.std.specs.Prelude.{◌≡◌, ℕ, zero, suc, ◌+◌, ◌<◌, ◌≤◌, List, [], ◌∷◌, ◌++◌, length}
use Rattle.std.specs.Prelude.{Option, Some, None, Result, Ok, Err}
use Rattle.std.specs.List.{AllByRecursion}
use Rattle.base.specs.Steps.{◌>>=◌}
use Rattle.std.proofs.Common.{refl, sym, ap, ◌∙◌, arith, append_assoc, inl, inr}
use Rattle.std.proofs.lemmas.List.{append-nil, length-append}
use Rattle.wire_bytes.specs.Field.{field_bytes}
use Rattle.wire_bytes.proofs.FieldLemmas.{field_length}
use Rattle.replay_file.specs.declared.header.Header.{Header}
use Rattle.replay_file.specs.declared.part.Part.{Part}
use Rattle.replay_file.specs.declared.part.Part.TheVariants.{Frame, Mark}
use Rattle.replay_file.specs.declared.replay.Replay.{Replay}
use Rattle.replay_file.specs.declared.replay_fault.ReplayFault.{ReplayFault}
use Rattle.replay_file.specs.declared.standing.Standing.{Standing}
use Rattle.replay_file.specs.FirstFault.{HeaderRead, header_at, fault_at, IsFaultInParts}
use Rattle.replay_file.specs.FirstFault.{IsFaultAfter, IsFirstFault, Spells}
use Rattle.replay_file.specs.PartBytes.{part_bytes, parts_bytes, entries_bytes, end_bytes, FitsPart}
use Rattle.replay_file.specs.PartReading.{PartRead, next_in}
use Rattle.replay_file.specs.PartRules.{opening, after_part, after_parts, EachMayFollow}
use Rattle.replay_file.specs.Reading.{with_part, parts_by, parts_from, parts_after, with_parts}
use Rattle.replay_file.specs.Reading.{read_of, ReturnsRead}
use Rattle.replay_file.specs.ReadClauses.{AnswersTo}
use Rattle.replay_file.proofs.ReplayLemmas.{part_again, end_again}
use Rattle.replay_file.proofs.WholeLemmas.{header_of, spelled_header}

-- A part takes a byte at least.
part_has_byte : (part : Part) → 1 ≤ length (part_bytes part)
unfolding part_bytes
part_has_byte (Frame entries) =
    omega (arith, field_length 1 1, length-append (field_bytes 1 1) (entries_bytes entries))
part_has_byte (Mark hash) =
    omega (arith, field_length 1 2, length-append (field_bytes 1 2) (field_bytes 8 hash))

few_parts : (parts : List Part) (left : List ℕ) →
    length parts ≤ length (parts_bytes parts ++ left)
few_parts [] left = omega arith
few_parts (part ∷ parts) left =
    let whole : length (parts_bytes (part ∷ parts) ++ left)
    ≡ length (part_bytes part ++ (parts_bytes parts ++ left)) =
    ap length (append_assoc (part_bytes part) (parts_bytes parts) left) in
    omega (
      arith,
      whole,
      part_has_byte part,
      few_parts parts left,
      length-append (part_bytes part) (parts_bytes parts ++ left),
    )

-- Where a part was read, it comes before what is read of the rest.
by_part :
    (more total version : ℕ) (s : Standing) (part : Part) (bytes left : List ℕ) →
    next_in version s bytes ≡ Ok (Some part, left) →
    parts_from (suc more) total version s bytes
    ≡ with_part part (parts_from more total version (after_part s part) left)
unfolding parts_from
by_part more total version s part bytes left next =
    ap (λ (read : PartRead (Option Part)). parts_by (fault_at total bytes read) read
    (λ p rest. parts_from more total version (after_part s p) rest)) next

-- Parts before others that are read after them.
abbrev before : List Part → Result (List Part) ReplayFault → Result (List Part) ReplayFault
before [] rest = rest
before (part ∷ parts) rest = with_part part (before parts rest)

-- Parts that follow one another are read, and then what is read after them.
parts_on :
    (most total version : ℕ) (s : Standing) (parts : List Part) (left : List ℕ)
    (rest : Result (List Part) ReplayFault) → length parts < most →
    EachMayFollow version s parts → AllByRecursion FitsPart parts →
    ((more : ℕ) → parts_from (suc more) total version (after_parts s parts) left ≡ rest) →
    parts_from most total version s (parts_bytes parts ++ left) ≡ before parts rest
parts_on zero total version s parts left rest few follow fits is = absurd (omega arith)
parts_on (suc more) total version s [] left rest few follow fits is = is more
parts_on (suc more) total version s (part ∷ parts) left rest few follow fits is =
    let next : next_in version s (parts_bytes (part ∷ parts) ++ left)
    ≡ Ok (Some part, parts_bytes parts ++ left) =
    ap (next_in version s) (append_assoc (part_bytes part) (parts_bytes parts) left)
    ∙ part_again version s part (parts_bytes parts ++ left) follow.0 fits.0 in
    by_part more total version s part (parts_bytes (part ∷ parts) ++ left)
    (parts_bytes parts ++ left) next
    ∙ ap (with_part part)
    (parts_on more total version (after_part s part) parts left rest (omega (arith, few)) follow.1
    fits.1 is)

before_fault : (parts : List Part) (fault : ReplayFault) → before parts (Err fault) ≡ Err fault
before_fault [] fault = refl
before_fault (part ∷ parts) fault = ap (with_part part) (before_fault parts fault)

before_end : (parts : List Part) → before parts (Ok []) ≡ Ok parts
before_end [] = refl
before_end (part ∷ parts) = ap (with_part part) (before_end parts)

-- At a fault nothing is read but the fault.
at_fault :
    (total version : ℕ) (s : Standing) (left : List ℕ) (fault : ReplayFault) (more : ℕ) →
    fault_at total left (next_in version s left) ≡ Some fault →
    parts_from (suc more) total version s left ≡ Err fault
unfolding parts_from
at_fault total version s left fault more found =
    ap (λ (f : Option ReplayFault). parts_by f (next_in version s left)
    (λ p rest. parts_from more total version (after_part s p) rest)) found

at_end : (total version : ℕ) (s : Standing) (more : ℕ) →
    parts_from (suc more) total version s end_bytes ≡ Ok []
unfolding parts_from
at_end total version s more =
    let end : next_in version s end_bytes ≡ Ok (None, []) =
    ap (next_in version s) (sym (append-nil end_bytes)) ∙ end_again version s [] in
    ap (λ (read : PartRead (Option Part)). parts_by (fault_at total end_bytes read) read
    (λ p rest. parts_from more total version (after_part s p) rest)) end

fault_read :
    (total : ℕ) (h : Header) (bytes : List ℕ) (fault : ReplayFault) →
    IsFaultInParts h.version h.clients total bytes fault → parts_after total h bytes ≡ Err fault
fault_read total h bytes fault is =
    let few : length is.parts < length bytes + 1 =
    omega (arith, few_parts is.parts is.left, ap length is.spelled) in
    ap (parts_from (length bytes + 1) total h.version (opening h.clients)) is.spelled
    ∙ parts_on (length bytes + 1) total h.version (opening h.clients) is.parts is.left (Err fault)
    few is.follow is.fits
    (λ more. at_fault total h.version (after_parts (opening h.clients) is.parts) is.left fault more
    is.found)
    ∙ before_fault is.parts fault

end_read :
    (total : ℕ) (h : Header) (parts : List Part) → EachMayFollow h.version (opening h.clients) parts →
    AllByRecursion FitsPart parts → parts_after total h (parts_bytes parts ++ end_bytes) ≡ Ok parts
end_read total h parts follow fits =
    let bytes = parts_bytes parts ++ end_bytes in
    let few : length parts < length bytes + 1 = omega (arith, few_parts parts end_bytes) in
    parts_on (length bytes + 1) total h.version (opening h.clients) parts end_bytes (Ok []) few
    follow fits (λ more. at_end total h.version (after_parts (opening h.clients) parts) more)
    ∙ before_end parts

-- The rest of reading, after the header was read.
abbrev after_header : ℕ → HeaderRead Header → Result Replay ReplayFault
after_header total read =
    read >>= λ header. (parts_after total header.0 header.1
    >>= λ parts. Ok (with_parts header.0 parts))

-- Bytes that spell a replay are read as it.
pub spelled_read : (here : ℕ) (bytes : List ℕ) (r : Replay) → Spells here bytes r →
    read_of here bytes ≡ Ok r
unfolding read_of
spelled_read here bytes r spells =
    ap (after_header (length bytes)) (spelled_header here bytes r spells)
    ∙ ap (λ (read : Result (List Part) ReplayFault). read
    >>= λ parts. Ok (with_parts (header_of r) parts))
    (end_read (length bytes) (header_of r) r.parts spells.valid.parts spells.fits.parts)

read_faulty :
    (total : ℕ) (read : HeaderRead Header) (fault : ReplayFault) → IsFaultAfter total read fault →
    after_header total read ≡ Err fault
read_faulty total (Ok (h, left)) fault is =
    ap (λ (read : Result (List Part) ReplayFault). read >>= λ parts. Ok (with_parts h parts))
    (fault_read total h left fault is)
read_faulty total (Err first) fault is = ap (λ (f : ReplayFault). Err f) (sym is)

-- Bytes with a first fault are read as it.
pub faulty_read : (here : ℕ) (bytes : List ℕ) (fault : ReplayFault) →
    IsFirstFault here bytes fault → read_of here bytes ≡ Err fault
unfolding read_of
faulty_read here bytes fault is = read_faulty (length bytes) (header_at here bytes) fault is

-- What is answered is what is read.
pub answer_read :
    (here : ℕ) (bytes : List ℕ) (result : Result Replay ReplayFault) →
    AnswersTo here bytes result → ReturnsRead result (read_of here bytes)
answer_read here bytes (Ok r) spells = spelled_read here bytes r spells
answer_read here bytes (Err fault) found =
    elim found [
      | inl none ↦ inl none
      | inr first ↦ inr (faulty_read here bytes fault first)
    ]

pub ruleset reading_laws = (spelled_read, faulty_read)
