-- Whole replays: a valid one is read back, and bytes have one answer.
use Rattle.std.specs.Prelude.{◌≡◌, ◌⊎◌, ℕ, ◌<◌, ◌≤◌, ◌^◌, ◌==◌, nat_le, Bool, true, false, ◌&&◌}
use Rattle.std.specs.Prelude.{if◌then◌else◌, List, [], ◌++◌, length, Option, Some, None}
use Rattle.std.specs.Prelude.{Result, Ok, Err}
use Rattle.std.specs.List.{AllByRecursion}
use Rattle.std.proofs.Common.{refl, sym, ap, subst, ◌∙◌, arith, append_assoc, inl, inr}
use Rattle.std.proofs.lemmas.Bool.Decides.{nat_tests}
use Rattle.std.proofs.lemmas.List.{append-nil, length-append}
use Rattle.wire_bytes.specs.Field.{field_bytes}
use Rattle.wire_bytes.proofs.ReadLemmas.{written_is_read}
use Rattle.game_orders.specs.declared.limits.TheConstants.{MAX_CLIENTS}
use Rattle.replay_file.specs.declared.header.Header.{Header}
use Rattle.replay_file.specs.declared.limits.TheConstants.{FIRST_VERSION, MAGIC}
use Rattle.replay_file.specs.declared.part.Part.{Part}
use Rattle.replay_file.specs.declared.replay.Replay.{Replay}
use Rattle.replay_file.specs.declared.replay_fault.ReplayFault.{ReplayFault}
use Rattle.replay_file.specs.declared.replay_fault.ReplayFault.TheVariants.{NoMemory}
use Rattle.replay_file.specs.declared.standing.Standing.{Standing}
use Rattle.replay_file.specs.FirstFault.{HeaderRead, version_at, is_client_count, header_at, fault_at}
use Rattle.replay_file.specs.FirstFault.{IsFaultInParts, IsFaultAfter, IsFirstFault, IsReadFault}
use Rattle.replay_file.specs.FirstFault.{Spells, IsReadOf}
use Rattle.replay_file.specs.HeaderClauses.{IsHeader}
use Rattle.replay_file.specs.PartBytes.{parts_bytes, end_bytes, FitsPart}
use Rattle.replay_file.specs.PartReading.{PartRead, next_in}
use Rattle.replay_file.specs.PartRules.{is_known, most_clients, opening, after_parts, EachMayFollow}
use Rattle.replay_file.specs.ReadClauses.{SpellsParts, AnswersTo}
use Rattle.replay_file.specs.ReplayBytes.{header_bytes, replay_bytes, FitsReplay}
use Rattle.replay_file.proofs.ReplayLemmas.{HasNoPart, end_again, one_reading}
use Rattle.replay_file.specs.ValidReplay.{IsValidReplay}

-- A number of clients is at least 1 and within the version.
count_least : (low high : Bool) → (low && high) ≡ true → low ≡ true
count_least true high both = refl
count_least false high both = both

count_most : (low high : Bool) → (low && high) ≡ true → high ≡ true
count_most true high both = both
count_most false high both = absurd cc

least_of : (version clients : ℕ) → is_client_count version clients ≡ true → 1 ≤ clients
least_of version clients is =
    let low : nat_le 1 clients ≡ true =
    count_least (nat_le 1 clients) (nat_le clients (most_clients version)) is in
    grind (arith, nat_tests)

most_of : (version clients : ℕ) → is_client_count version clients ≡ true →
    clients ≤ most_clients version
most_of version clients is =
    let high : nat_le clients (most_clients version) ≡ true =
    count_most (nat_le 1 clients) (nat_le clients (most_clients version)) is in
    within clients (most_clients version) high
  where
    within : (a b : ℕ) → nat_le a b ≡ true → a ≤ b
    within a b test = grind (arith, nat_tests)

pub few_clients : (version : ℕ) → most_clients version ≤ MAX_CLIENTS
few_clients version = by_test (version == FIRST_VERSION)
  where
    by_test : (old : Bool) → (if◌then◌else◌ old 8 16) ≤ MAX_CLIENTS
    by_test true = omega arith
    by_test false = omega arith

-- What read_header promises is enough for the parts.
pub header_few : (here : ℕ) (old new : List ℕ) (h : Header) → IsHeader here old new h →
    h.clients ≤ MAX_CLIENTS
header_few here old new h is =
    omega (arith, most_of h.version h.clients is.clients, few_clients h.version)

pub header_within : (here : ℕ) (old new : List ℕ) (h : Header) → IsHeader here old new h →
    length new ≤ length old
header_within here old new h is =
    omega (
      arith,
      ap length is.spelled,
      length-append (header_bytes h.version h.rules h.seed h.clients) new,
    )

abbrev replay_with : Header → List Part → Replay
replay_with h parts =
    record {
      version = h.version;
      rules = h.rules;
      seed = h.seed;
      clients = h.clients;
      parts = parts;
    }

-- A header and parts that were read are a replay's spelling.
pub whole_read :
    (here : ℕ) (bytes left : List ℕ) (h : Header) (parts : List Part) →
    IsHeader here bytes left h → SpellsParts h.version h.clients left parts →
    Spells here bytes (replay_with h parts)
unfolding replay_bytes
whole_read here bytes left h parts is spells =
    record {
      rules = is.rules;
      valid = record {
        version = is.version;
        least = least_of h.version h.clients is.clients;
        most = most_of h.version h.clients is.clients;
        parts = spells.follow;
      };
      fits = record {
        version = is.version_fits;
        rules = is.rules_fit;
        seed = is.seed_fits;
        clients = is.clients_fit;
        parts = spells.fits;
      };
      spelled =
          is.spelled
          ∙ ap (λ (rest : List ℕ). header_bytes h.version h.rules h.seed h.clients ++ rest)
          spells.spelled;
    }

-- A fault in the parts is the first one.
pub whole_faulty :
    (here : ℕ) (bytes left : List ℕ) (h : Header) (fault : ReplayFault) →
    header_at here bytes ≡ Ok (h, left) →
    (fault ≡ NoMemory) ⊎ IsFaultInParts h.version h.clients (length bytes) left fault →
    IsReadFault here bytes fault
whole_faulty here bytes left h fault read found =
    elim found [
      | inl none ↦ inl none
      | inr some ↦
          inr (subst (λ (r : HeaderRead Header). IsFaultAfter (length bytes) r fault) (sym read) some)
    ]

pub header_faulty :
    (here : ℕ) (bytes : List ℕ) (fault : ReplayFault) → header_at here bytes ≡ Err fault →
    IsReadFault here bytes fault
header_faulty here bytes fault read =
    inr (subst (λ (r : HeaderRead Header). IsFaultAfter (length bytes) r fault) (sym read) refl)

pub ruleset reading_steps = (header_few, header_within, whole_read, whole_faulty, header_faulty)

abbrev pub header_of : Replay → Header
header_of r =
    record { version = r.version; rules = r.rules; seed = r.seed; clients = r.clients }

version_again : (version : ℕ) (rest : List ℕ) → version < 2 ^ 16 → is_known version ≡ true →
    version_at (field_bytes 4 MAGIC ++ (field_bytes 2 version ++ rest)) ≡ Ok (version, rest)
unfolding version_at
version_again version rest fits known =
    rw (
      written_is_read 4 MAGIC (field_bytes 2 version ++ rest) (omega arith),
      written_is_read 2 version rest fits,
      known,
    ) refl

regroup : (a b c d e rest : List ℕ) →
    (a ++ (b ++ (c ++ (d ++ e)))) ++ rest ≡ a ++ (b ++ (c ++ (d ++ (e ++ rest))))
regroup a b c d e rest = simp append_assoc

same_number : (n : ℕ) → (n == n) ≡ true
same_number n = grind (arith, nat_tests)

count_again : (version clients : ℕ) → 1 ≤ clients → clients ≤ most_clients version →
    is_client_count version clients ≡ true
count_again version clients least most = both clients (most_clients version) least most
  where
    both : (a b : ℕ) → 1 ≤ a → a ≤ b → (nat_le 1 a && nat_le a b) ≡ true
    both a b low high =
        let first : nat_le 1 a ≡ true = grind (arith, nat_tests) in
        let second : nat_le a b ≡ true = grind (arith, nat_tests) in
        rw (first, second) refl

-- The header of a valid replay is read back, whatever follows it.
pub header_again : (r : Replay) (rest : List ℕ) → IsValidReplay r → FitsReplay r →
    header_at r.rules (header_bytes r.version r.rules r.seed r.clients ++ rest)
    ≡ Ok (header_of r, rest)
unfolding header_at header_bytes
header_again r rest valid fits =
    let clients = field_bytes 1 r.clients ++ rest in
    let seed = field_bytes 4 r.seed ++ clients in
    let rules = field_bytes 8 r.rules ++ seed in
    ap (header_at r.rules)
    (regroup (field_bytes 4 MAGIC) (field_bytes 2 r.version) (field_bytes 8 r.rules)
    (field_bytes 4 r.seed) (field_bytes 1 r.clients) rest)
    ∙ rw (
      version_again r.version rules fits.version valid.version,
      written_is_read 8 r.rules seed fits.rules,
      written_is_read 4 r.seed clients fits.seed,
      written_is_read 1 r.clients rest fits.clients,
      same_number r.rules,
      count_again r.version r.clients valid.least valid.most,
    ) refl

-- What a spelling's bytes begin with.
pub spelled_header : (here : ℕ) (bytes : List ℕ) (r : Replay) → Spells here bytes r →
    header_at here bytes ≡ Ok (header_of r, parts_bytes r.parts ++ end_bytes)
unfolding replay_bytes
spelled_header here bytes r spells =
    ap (header_at here) spells.spelled
    ∙ ap (λ (n : ℕ). header_at n (header_bytes r.version r.rules r.seed r.clients
    ++ (parts_bytes r.parts ++ end_bytes))) (sym spells.rules)
    ∙ header_again r (parts_bytes r.parts ++ end_bytes) spells.valid spells.fits

none_at_end : (version : ℕ) (s : Standing) → HasNoPart (next_in version s end_bytes)
none_at_end version s part rest is =
    let end : next_in version s end_bytes ≡ Ok (None, []) =
    ap (next_in version s) (sym (append-nil end_bytes)) ∙ end_again version s [] in
    no_end part rest (next_in version s end_bytes) end is
  where
    no_end : (part : Part) (rest : List ℕ) (read : PartRead (Option Part)) →
        read ≡ Ok (None, []) → read ≡ Ok (Some part, rest) → ⊥
    no_end part rest read end is =
        let both : (None, []) ≡ (Some part, rest) = cc in
        let first : None ≡ Some part = ap (λ (pair : Option Part × List ℕ). pair.0) both in
        cc

none_at_fault : (total : ℕ) (left : List ℕ) (fault : ReplayFault) (read : PartRead (Option Part)) →
    fault_at total left read ≡ Some fault → HasNoPart read
none_at_fault total left fault read found part rest is =
    let none : fault_at total left read ≡ None = ap (fault_at total left) is in
    cc

same_header :
    (h g : Header) (rest more : List ℕ) (read : HeaderRead Header) → read ≡ Ok (h, rest) →
    read ≡ Ok (g, more) → (h ≡ g) × (rest ≡ more)
same_header h g rest more read is also =
    let both : (h, rest) ≡ (g, more) = cc in
    (ap (λ (pair : Header × List ℕ). pair.0) both, ap (λ (pair : Header × List ℕ). pair.1) both)

-- Bytes spell at most one replay.
pub one_replay : (here : ℕ) (bytes : List ℕ) (r q : Replay) → Spells here bytes r →
    Spells here bytes q → r ≡ q
one_replay here bytes r q first second =
    let heads =
    same_header (header_of r) (header_of q) (parts_bytes r.parts ++ end_bytes)
    (parts_bytes q.parts ++ end_bytes) (header_at here bytes) (spelled_header here bytes r first)
    (spelled_header here bytes q second) in
    let version : q.version ≡ r.version = ap (λ (h : Header). h.version) (sym heads.0) in
    let clients : q.clients ≡ r.clients = ap (λ (h : Header). h.clients) (sym heads.0) in
    let follow : EachMayFollow r.version (opening r.clients) q.parts =
    subst (λ (v : ℕ). EachMayFollow v (opening r.clients) q.parts) version
    (subst (λ (n : ℕ). EachMayFollow q.version (opening n) q.parts) clients second.valid.parts) in
    let parts =
    one_reading r.version (opening r.clients) r.parts q.parts end_bytes end_bytes
    first.valid.parts follow first.fits.parts second.fits.parts
    (none_at_end r.version (after_parts (opening r.clients) r.parts))
    (none_at_end r.version (after_parts (opening r.clients) q.parts)) heads.1 in
    ap (λ (h : Header). replay_with h r.parts) heads.0
    ∙ ap (λ (ps : List Part). replay_with (header_of q) ps) parts.0

no_end_fault : (total : ℕ) (left : List ℕ) (fault : ReplayFault) (read : PartRead (Option Part)) →
    fault_at total left read ≡ Some fault → read ≡ Ok (None, []) → ⊥
no_end_fault total left fault read found is =
    let none : fault_at total left read ≡ None = ap (fault_at total left) is in
    cc

-- A fault among the parts is none of a spelling.
no_fault_among :
    (version clients total : ℕ) (parts : List Part) (fault : ReplayFault) →
    EachMayFollow version (opening clients) parts → AllByRecursion FitsPart parts →
    IsFaultInParts version clients total (parts_bytes parts ++ end_bytes) fault → ⊥
no_fault_among version clients total parts fault follow fits found =
    let s = after_parts (opening clients) parts in
    let t = after_parts (opening clients) found.parts in
    let same =
    one_reading version (opening clients) parts found.parts end_bytes found.left follow
    found.follow fits found.fits (none_at_end version s)
    (none_at_fault total found.left fault (next_in version t found.left) found.found)
    found.spelled in
    let end : next_in version t found.left ≡ Ok (None, []) =
    ap (next_in version t) (sym same.1 ∙ sym (append-nil end_bytes)) ∙ end_again version t [] in
    no_end_fault total found.left fault (next_in version t found.left) found.found end

-- Bytes that spell a replay have no fault.
pub no_fault : (here : ℕ) (bytes : List ℕ) (r : Replay) (fault : ReplayFault) →
    Spells here bytes r → IsFirstFault here bytes fault → ⊥
no_fault here bytes r fault spells first =
    no_fault_among r.version r.clients (length bytes) r.parts fault spells.valid.parts
    spells.fits.parts
    (subst (λ (read : HeaderRead Header). IsFaultAfter (length bytes) read fault)
    (spelled_header here bytes r spells) first)

-- The answer to a spelling is its replay.
pub only_reading :
    (here : ℕ) (bytes : List ℕ) (result : Result Replay ReplayFault) →
    AnswersTo here bytes result → (r : Replay) → Spells here bytes r → IsReadOf r result
only_reading here bytes (Ok q) answers r spells = one_replay here bytes q r answers spells
only_reading here bytes (Err fault) answers r spells =
    elim answers [
      | inl none ↦ none
      | inr first ↦ absurd (no_fault here bytes r fault spells first)
    ]

-- Two faults at one place are one.
same_fault : (fault other : ReplayFault) (found : Option ReplayFault) → found ≡ Some fault →
    found ≡ Some other → fault ≡ other
same_fault fault other found is also = cc

one_fault_among :
    (version clients total : ℕ) (bytes : List ℕ) (fault other : ReplayFault) →
    IsFaultInParts version clients total bytes fault →
    IsFaultInParts version clients total bytes other → fault ≡ other
one_fault_among version clients total bytes fault other first second =
    let start = opening clients in
    let s = after_parts start first.parts in
    let t = after_parts start second.parts in
    let same =
    one_reading version start first.parts second.parts first.left second.left first.follow
    second.follow first.fits second.fits
    (none_at_fault total first.left fault (next_in version s first.left) first.found)
    (none_at_fault total second.left other (next_in version t second.left) second.found)
    (sym first.spelled ∙ second.spelled) in
    let there : fault_at total second.left (next_in version t second.left) ≡ Some fault =
    subst (λ (ps : List Part). fault_at total second.left
    (next_in version (after_parts start ps) second.left) ≡ Some fault) same.0
    (subst (λ (left : List ℕ). fault_at total left (next_in version s left) ≡ Some fault) same.1
    first.found) in
    same_fault fault other (fault_at total second.left (next_in version t second.left)) there
    second.found

one_fault_after :
    (total : ℕ) (read : HeaderRead Header) (fault other : ReplayFault) →
    IsFaultAfter total read fault → IsFaultAfter total read other → fault ≡ other
one_fault_after total (Ok (h, left)) fault other first second =
    one_fault_among h.version h.clients total left fault other first second
one_fault_after total (Err found) fault other first second = first ∙ sym second

-- Bytes have at most one first fault.
pub one_fault : (here : ℕ) (bytes : List ℕ) (fault other : ReplayFault) →
    IsFirstFault here bytes fault → IsFirstFault here bytes other → fault ≡ other
one_fault here bytes fault other first second =
    one_fault_after (length bytes) (header_at here bytes) fault other first second

pub ruleset fault_laws = (no_fault, one_fault)
