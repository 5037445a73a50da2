-- Replays without a difference, and the first frame that differs.
use Rattle.std.specs.Prelude.{◌≡◌, ℕ, zero, suc, ◌+◌, ◌<◌, ◌≤◌, ◌==◌, Bool, true, false}
use Rattle.std.specs.Prelude.{List, [], ◌∷◌, ◌++◌, length, slice_get, unwrap_or, if◌then◌else◌}
use Rattle.std.specs.Prelude.{Option, Some, None, option_map}
use Rattle.std.specs.List.{AllByRecursion, find}
use Rattle.std.proofs.Common.{refl, sym, ap, ap₂, subst, ◌∙◌, arith, get_or}
use Rattle.std.proofs.lemmas.Bool.Decides.{nat_tests}
use Rattle.std.proofs.lemmas.List.{same_lists}
use Rattle.std.proofs.lemmas.Option.{slice_get-get_or, unwrap_or-slice_get}
use Rattle.game_orders.specs.declared.entry.Entry.{Entry}
use Rattle.replay_file.specs.declared.part.Part.{Part}
use Rattle.replay_file.specs.declared.part.Part.TheVariants.{Frame, Mark}
use Rattle.replay_file.specs.declared.replay.Replay.{Replay}
use Rattle.replay_file.specs.Frames.{frames_of, marks_after}
use Rattle.replay_file.specs.RuleLaws.{IsFrameOf}
use Rattle.replay_file.proofs.ValidLemmas.{valid_obeys}
use Rattle.replay_file.specs.ValidReplay.{IsValidReplay}
use Rattle.replay_run.specs.Rerun.{frame_count, frame_in}
use Rattle.compare_command.specs.declared.subject.Subject.TheVariants.{Frames, Seed, Clients}
use Rattle.compare_command.specs.declared.subject.Subject.TheVariants.{Entry as OfEntry, Mark as OfMark}
use Rattle.compare_command.specs.Difference.{Difference, Numbers, Entries, Hashes, compared}
use Rattle.compare_command.specs.Difference.{compared_if}
use Rattle.compare_command.specs.Each.{each, least, or_else}
use Rattle.compare_command.specs.Laws.{AreOfLeastFrame, AreOneMatch}
use Rattle.compare_command.specs.Replays.{common_frames, differences_in, entries_differences}
use Rattle.compare_command.specs.Replays.{entry_differences, frame_differences, mark_at}
use Rattle.compare_command.specs.Replays.{mark_differences, marks_differences, match_differences}
use Rattle.compare_command.specs.Replays.{replay_differences}
use Rattle.compare_command.proofs.NoneLemmas.{both_none, each_none, equal_when, none_both, none_each}
use Rattle.compare_command.proofs.NoneLemmas.{none_if, none_when, same_items}

-- ---- the least number that has a difference

-- It is this number, of so many from another one on.
record IsLeast (found : ℕ → List Difference) (from count n : ℕ) : Type 0 where
  least : from ≤ n
  within : n < from + count
  before : (m : ℕ) → from ≤ m → m < n → found m ≡ []

-- Which differences the least number has.
abbrev AreOfLeast : (found : ℕ → List Difference) → (from count : ℕ) → List Difference → Type 0
AreOfLeast found from count [] = (n : ℕ) → from ≤ n → n < from + count → found n ≡ []
AreOfLeast found from count (d ∷ ds) =
    (n : ℕ) × IsLeast found from count n × (d ∷ ds ≡ found n)

none_until :
    (found : ℕ → List Difference) (from n m : ℕ) → found from ≡ [] →
    ((k : ℕ) → from + 1 ≤ k → k < n → found k ≡ []) → from ≤ m → m < n → found m ≡ []
none_until found from n m here later above below = by_test (m == from) refl
  where
    by_test : (same : Bool) → (m == from) ≡ same → found m ≡ []
    by_test true is =
        let same : m ≡ from = grind (arith, nat_tests, is) in
        ap found same ∙ here
    by_test false is =
        let more : from + 1 ≤ m = grind (arith, nat_tests, is, above) in
        later m more below

later_least :
    (found : ℕ → List Difference) (from count : ℕ) (rest : List Difference) → found from ≡ [] →
    AreOfLeast found (from + 1) count rest → AreOfLeast found from (suc count) rest
later_least found from count [] none later =
    λ n above below.
    none_until found from (from + suc count) n none
    (λ k more less. later k more (omega (arith, less))) above below
later_least found from count (d ∷ rest) none later =
    let n = later.0 in
    let is = later.1 in (
      n,
      record {
        least = omega (arith, is.least);
        within = omega (arith, is.within);
        before = λ m above below. none_until found from n m none is.before above below;
      },
      later.2,
    )

first_least :
    (found : ℕ → List Difference) (from count : ℕ) (here : List Difference) → found from ≡ here →
    AreOfLeast found (from + 1) count (least found (from + 1) count) →
    AreOfLeast found from (suc count) (or_else here (least found (from + 1) count))
first_least found from count [] is later =
    later_least found from count (least found (from + 1) count) is later
first_least found from count (d ∷ ds) is later = (
  from,
  record {
    least = omega arith;
    within = omega arith;
    before = λ m above below. absurd (omega (arith, above, below));
  },
  sym is,
)

least_found :
    (found : ℕ → List Difference) (from count : ℕ) →
    AreOfLeast found from count (least found from count)
least_found found from zero = λ n above below. absurd (omega (arith, above, below))
least_found found from (suc count) =
    first_least found from count (found from) refl (least_found found (from + 1) count)

-- Where it has none, no number has one.
least_none :
    (found : ℕ → List Difference) (count n : ℕ) → least found 0 count ≡ [] → n < count →
    found n ≡ []
least_none found count n none below =
    let all : AreOfLeast found 0 count [] =
    subst (AreOfLeast found 0 count) none (least_found found 0 count) in
    all n (omega arith) (omega (arith, below))

none_least :
    (found : ℕ → List Difference) (from count : ℕ) → ((n : ℕ) → found n ≡ []) →
    least found from count ≡ []
none_least found from zero none = refl
none_least found from (suc count) none =
    ap (λ (here : List Difference). or_else here (least found (from + 1) count)) (none from)
    ∙ none_least found (from + 1) count none

-- ---- frames

entries_equal :
    (n client : ℕ) (a b : Entry) → compared (OfEntry n client) (Entries a b) ≡ [] → a ≡ b
entries_equal n client a b none = equal_when (OfEntry n client) (Entries a b) none

-- Two frames of so many clients without a difference are equal.
frames_equal :
    (n clients : ℕ) (frame other : List Entry) → length frame ≡ clients →
    length other ≡ clients → frame_differences n clients frame other ≡ [] → frame ≡ other
frames_equal n clients frame other long long' none =
    same_items (λ (c : ℕ). OfEntry n c) Entries frame other (entries_equal n) (long ∙ sym long')
    (λ k within. let here : 0 + k ≡ k = omega arith in
    subst (λ (c : ℕ). entry_differences n frame other c ≡ []) here
    (each_none (entry_differences n frame other) 0 clients k none (omega (arith, within, long))))

frame_none :
    (n clients : ℕ) (frame : List Entry) → frame_differences n clients frame frame ≡ []
frame_none n clients frame =
    none_each (entry_differences n frame frame) 0 clients
    (λ c. none_if (OfEntry n c) Entries (slice_get frame c)
    (λ e. none_when (OfEntry n c) (Entries e e) refl))

-- Each of the frames of a valid replay has an entry for each client.
long_at :
    (clients : ℕ) (frames : List (List Entry)) (n : ℕ) →
    AllByRecursion (IsFrameOf clients) frames → n < length frames →
    length (unwrap_or (slice_get frames n) []) ≡ clients
long_at clients [] n each within = absurd (omega (arith, within))
long_at clients (frame ∷ frames) zero each within = each.0.0
long_at clients (frame ∷ frames) (suc n) each within =
    long_at clients frames n each.1 (omega (arith, within))

long_frame :
    (r : Replay) (n : ℕ) → IsValidReplay r → n < frame_count r →
    length (frame_in r.parts n) ≡ r.clients
long_frame r n valid within =
    long_at r.clients (frames_of r.parts) n (valid_obeys r valid).each within

-- Frames that have no difference are equal.
common_equal :
    (r s : Replay) (n : ℕ) → IsValidReplay r → IsValidReplay s → r.clients ≡ s.clients →
    n < common_frames r s → differences_in r s n ≡ [] → frame_in r.parts n ≡ frame_in s.parts n
common_equal r s n valid valid' same within none =
    frames_equal n r.clients (frame_in r.parts n) (frame_in s.parts n)
    (long_frame r n valid (omega (arith, within)))
    (long_frame s n valid' (omega (arith, within)) ∙ sym same) none

equal_common :
    (r s : Replay) (n : ℕ) → frame_in r.parts n ≡ frame_in s.parts n → differences_in r s n ≡ []
equal_common r s n same =
    subst (λ (f : List Entry). frame_differences n r.clients (frame_in r.parts n) f ≡ []) same
    (frame_none n r.clients (frame_in r.parts n))

got_any :
    {T : Type 0} (xs : List T) (k : ℕ) (c d : T) → k < length xs → get_or xs k c ≡ get_or xs k d
got_any xs k c d within =
    let same : Some (get_or xs k c) ≡ Some (get_or xs k d) =
    sym (slice_get-get_or xs k c within) ∙ slice_get-get_or xs k d within in
    cc

-- Lists of frames that agree at each number are equal.
frames_agree :
    (xs ys : List (List Entry)) → length xs ≡ length ys →
    ((n : ℕ) → n < length xs →
    unwrap_or (slice_get xs n) [] ≡ unwrap_or (slice_get ys n) []) →
    xs ≡ ys
frames_agree xs ys many agree =
    same_lists xs ys many (λ k d within.
    got_any xs k d [] within
    ∙ sym (unwrap_or-slice_get xs k []) ∙ agree k within ∙ unwrap_or-slice_get ys k []
    ∙ got_any ys k [] d (omega (arith, within, many)))

-- ---- marks

abbrev mark_in : (n : ℕ) → List (ℕ × ℕ) → Option ℕ
mark_in n marks = option_map (λ mark. mark.1) (find (λ mark. mark.0 == n) marks)

-- No mark has more frames before it than there are.
mark_within :
    (parts : List Part) (start n h : ℕ) → mark_in n (marks_after start parts) ≡ Some h →
    n ≤ start + length (frames_of parts)
mark_within [] start n h is = absurd cc
mark_within (Frame entries ∷ parts) start n h is =
    omega (arith, mark_within parts (start + 1) n h is)
mark_within (Mark hash ∷ parts) start n h is =
    by_test (start == n) refl is (λ more. mark_within parts start n h more)
  where
    by_test : (same : Bool) → (start == n) ≡ same →
        option_map (λ (mark : ℕ × ℕ). mark.1)
        (if same then Some (start, hash) else find (λ mark. mark.0 == n) (marks_after start parts))
        ≡ Some h →
        (mark_in n (marks_after start parts) ≡ Some h → n ≤ start + length (frames_of parts)) →
        n ≤ start + length (frames_of parts)
    by_test true same at later =
        let here : start ≡ n = grind (arith, nat_tests, same) in omega (arith, here)
    by_test false same at later = later at

marks_equal :
    (n a b : ℕ) (mark mark' : Option ℕ) → mark ≡ Some a → mark' ≡ Some b →
    compared_if (OfMark n) Hashes mark mark' ≡ [] → a ≡ b
marks_equal n a b mark mark' here there none =
    equal_when (OfMark n) (Hashes a b)
    (sym (ap₂ (compared_if (OfMark n) Hashes) here there) ∙ none)

marks_none :
    (n : ℕ) (mark mark' : Option ℕ) →
    ((a b : ℕ) → mark ≡ Some a → mark' ≡ Some b → a ≡ b) →
    compared_if (OfMark n) Hashes mark mark' ≡ []
marks_none n None None agree = refl
marks_none n None (Some b) agree = refl
marks_none n (Some a) None agree = refl
marks_none n (Some a) (Some b) agree = none_when (OfMark n) (Hashes a b) (agree a b refl refl)

-- ---- the laws

pub one_match :
    (r s : Replay) → IsValidReplay r → IsValidReplay s → replay_differences r s ≡ [] →
    AreOneMatch r s
one_match r s valid valid' none =
    let seed = compared Seed (Numbers r.seed s.seed) in
    let clients = compared Clients (Numbers r.clients s.clients) in
    let frames = compared Frames (Numbers (frame_count r) (frame_count s)) in
    let entries = entries_differences r s in
    let marks = marks_differences r s in
    let one = both_none (match_differences r s) (entries ++ marks) none in
    let two = both_none entries marks one.1 in
    let three = both_none seed (clients ++ frames) one.0 in
    let four = both_none clients frames three.1 in
    let count : frame_count r ≡ frame_count s =
    equal_when Frames (Numbers (frame_count r) (frame_count s)) four.1 in
    let same : r.clients ≡ s.clients = equal_when Clients (Numbers r.clients s.clients) four.0 in
    let test : (r.clients == s.clients) ≡ true = grind (arith, nat_tests, same) in
    let all : least (differences_in r s) 0 (common_frames r s) ≡ [] = rw test at two.0 in
    record {
      seed = equal_when Seed (Numbers r.seed s.seed) three.0;
      clients = same;
      frames =
          frames_agree (frames_of r.parts) (frames_of s.parts) count (λ n within.
          common_equal r s n valid valid' same (omega (arith, within, count))
          (least_none (differences_in r s) (common_frames r s) n all (omega (arith, within, count))));
      marks = λ n a b here there.
          let below = mark_within r.parts 0 n a here in
          let beside = mark_within s.parts 0 n b there in
          marks_equal n a b (mark_at r.parts n) (mark_at s.parts n) here there
          (least_none (mark_differences r s) (common_frames r s + 1) n two.1
          (omega (arith, below, beside)));
    }

pub match_none : (r s : Replay) → AreOneMatch r s → replay_differences r s ≡ []
match_none r s is =
    let seed = compared Seed (Numbers r.seed s.seed) in
    let clients = compared Clients (Numbers r.clients s.clients) in
    let frames = compared Frames (Numbers (frame_count r) (frame_count s)) in
    let count : frame_count r ≡ frame_count s =
    ap (λ (xs : List (List Entry)). length xs) is.frames in
    let test : (r.clients == s.clients) ≡ true = grind (arith, nat_tests, is.clients) in
    let heads : match_differences r s ≡ [] =
    none_both seed (clients ++ frames) (none_when Seed (Numbers r.seed s.seed) is.seed)
    (none_both clients frames (none_when Clients (Numbers r.clients s.clients) is.clients)
    (none_when Frames (Numbers (frame_count r) (frame_count s)) count)) in
    let all : least (differences_in r s) 0 (common_frames r s) ≡ [] =
    none_least (differences_in r s) 0 (common_frames r s)
    (λ n. equal_common r s n
    (ap (λ (xs : List (List Entry)). unwrap_or (slice_get xs n) []) is.frames)) in
    let entries : entries_differences r s ≡ [] = rw test all in
    let marks : marks_differences r s ≡ [] =
    none_least (mark_differences r s) 0 (common_frames r s + 1)
    (λ n. marks_none n (mark_at r.parts n) (mark_at s.parts n) (is.marks n)) in
    none_both (match_differences r s) (entries_differences r s ++ marks_differences r s) heads
    (none_both (entries_differences r s) (marks_differences r s) entries marks)

pub ruleset match_laws = (one_match, match_none)

frame_least :
    (r s : Replay) (differences : List Difference) → IsValidReplay r → IsValidReplay s →
    r.clients ≡ s.clients →
    AreOfLeast (differences_in r s) 0 (common_frames r s) differences →
    AreOfLeastFrame r s differences
frame_least r s [] valid valid' same least =
    λ n within. common_equal r s n valid valid' same within
    (least n (omega arith) (omega (arith, within)))
frame_least r s (d ∷ differences) valid valid' same least =
    let n = least.0 in
    let is = least.1 in
    let within : n < common_frames r s = omega (arith, is.within) in (
      n,
      record {
        within = within;
        differs = λ equal. some_differ (least.2 ∙ equal_common r s n equal);
        before = λ m below. common_equal r s m valid valid' same (omega (arith, below, within))
            (is.before m (omega arith) below);
      },
      least.2,
    )
  where
    some_differ : d ∷ differences ≡ [] → ⊥
    some_differ none = cc

pub least_frame :
    (r s : Replay) → IsValidReplay r → IsValidReplay s → r.clients ≡ s.clients →
    AreOfLeastFrame r s (entries_differences r s)
least_frame r s valid valid' same =
    let test : (r.clients == s.clients) ≡ true = grind (arith, nat_tests, same) in
    rw test (frame_least r s (least (differences_in r s) 0 (common_frames r s)) valid valid' same
    (least_found (differences_in r s) 0 (common_frames r s)))
