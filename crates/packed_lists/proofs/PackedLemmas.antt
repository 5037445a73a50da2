-- Lists packed into words, read, set and compared.
use Rattle.std.proofs.Common.{◌≡◌, ℕ, zero, suc, ◌+◌, ◌-◌, ◌*◌, ◌/◌, ◌%◌, ◌^◌, ◌<◌, ◌≤◌, List, [], ◌∷◌, ◌++◌, length, set}
use Rattle.std.proofs.Common.{Some, refl, sym, ap, ◌∙◌, subst, arith, take, drop, replicate, map, Bool, true, false}
use Rattle.std.specs.Prelude.{slice_get, slice_index}
use Rattle.std.specs.List.{All}
use Rattle.std.proofs.lemmas.List.{length-append, length-set, length-replicate, set-append_left, set-append_right}
use Rattle.std.proofs.lemmas.List.{drop-set-lt, take-replicate, take-append-drop, replicate-append-replicate}
use Rattle.std.proofs.lemmas.List.Elements.{All-set, All-replicate, All-head, All-tail, All-get_or}
use Rattle.std.proofs.lemmas.List.Elements.{All-nil, All-cons, All-append, All-take}
use Rattle.std.proofs.Math.Seq.{take-set-lt, take-append_seam}
use Rattle.std.proofs.Math.Nat.{mul-suc, mul-zero, lt-div-mul-add, mul_comm, mod-lt}
use Rattle.std.proofs.lemmas.Nat.{div_below}
use Rattle.packed_lists.specs.Digits.{digit, with_digit, digits, all_digits, unpacked, ArePacked, is_one}
use Rattle.packed_lists.proofs.DigitLemmas.{length-digits, digit_at, digits_set, with_digit_below, same_number}

pub length-all_digits :
    (base count : ℕ) (words : List ℕ) → length (all_digits base count words) ≡ count * length words
unfolding all_digits
length-all_digits base count [] = sym (mul-zero count)
length-all_digits base count (word ∷ words) =
    let first = length-digits base count word in
    let later = length-all_digits base count words in
    omega (arith, first, later, length-append (digits base count word) (all_digits base count words), mul-suc count (length words))

get_left : (xs ys : List ℕ) (i : ℕ) → i < length xs → slice_get (xs ++ ys) i ≡ slice_get xs i
get_left [] ys i within = absurd (omega arith)
get_left (x ∷ xs) ys zero within = refl
get_left (x ∷ xs) ys (suc i) within = get_left xs ys i (omega arith)

get_right : (xs ys : List ℕ) (n i : ℕ) → n ≡ length xs + i → slice_get (xs ++ ys) n ≡ slice_get ys i
get_right [] ys n i is = let same : n ≡ i = omega arith in ap (slice_get ys) same
get_right (x ∷ xs) ys zero i is = absurd (omega arith)
get_right (x ∷ xs) ys (suc n) i is = get_right xs ys n i (omega arith)

get_taken : (n : ℕ) (xs : List ℕ) (i : ℕ) → i < n → slice_get (take n xs) i ≡ slice_get xs i
get_taken zero xs i within = absurd (omega arith)
get_taken (suc n) [] i within = refl
get_taken (suc n) (x ∷ xs) zero within = refl
get_taken (suc n) (x ∷ xs) (suc i) within = get_taken n xs i (omega arith)

-- The digit at a place of a word of the list.
pub all_at :
    (base count : ℕ) (words : List ℕ) (word place i : ℕ) → word < length words → place < count →
    i ≡ word * count + place →
    slice_get (all_digits base count words) i ≡ Some (digit base place (slice_index words word))
unfolding all_digits
all_at base count [] word place i there within is = absurd (omega arith)
all_at base count (w ∷ words) zero place i there within is =
    let len = length-digits base count w in
    let at : i ≡ place = omega (arith, is) in
    ap (slice_get (digits base count w ++ all_digits base count words)) at
    ∙ get_left (digits base count w) (all_digits base count words) place (omega (arith, len))
    ∙ digit_at base count place w within
all_at base count (w ∷ words) (suc word) place i there within is =
    let len = length-digits base count w in
    get_right (digits base count w) (all_digits base count words) i (word * count + place) (omega (arith, len, is))
    ∙ all_at base count words word place (word * count + place) (omega arith) within refl

-- The list with another digit at a place of a word.
all_set :
    (base count : ℕ) (words : List ℕ) (word place value i : ℕ) → value < base →
    word < length words → place < count → i ≡ word * count + place →
    all_digits base count (set words word (with_digit base place (slice_index words word) value))
    ≡ set (all_digits base count words) i value
unfolding all_digits
all_set base count [] word place value i small there within is = absurd (omega arith)
all_set base count (w ∷ words) zero place value i small there within is =
    let len = length-digits base count w in
    let at : i ≡ place = omega (arith, is) in
    ap (λ ds. ds ++ all_digits base count words) (digits_set base count place w value small within)
    ∙ sym (set-append_left (digits base count w) (all_digits base count words) place value (omega (arith, len)))
    ∙ ap (λ k. set (digits base count w ++ all_digits base count words) k value) (sym at)
all_set base count (w ∷ words) (suc word) place value i small there within is =
    let len = length-digits base count w in
    let back : i - count ≡ word * count + place = omega (arith, is) in
    ap (λ ds. digits base count w ++ ds) (all_set base count words word place value (i - count) small (omega arith) within back)
    ∙ sym (set-append_right (digits base count w) (all_digits base count words) count i value len (omega (arith, is)))

-- The i-th of a packed list.
pub packed_get :
    (base count len : ℕ) (words : List ℕ) (word place i : ℕ) → i < len → word < length words →
    place < count → i ≡ word * count + place →
    slice_get (unpacked base count len words) i ≡ Some (digit base place (slice_index words word))
unfolding unpacked
packed_get base count len words word place i inside there within is =
    get_taken len (all_digits base count words) i inside
    ∙ all_at base count words word place i there within is

-- A packed list with another number at a place.
pub packed_set :
    (base count len : ℕ) (words : List ℕ) (word place value i : ℕ) → value < base → i < len →
    word < length words → place < count → i ≡ word * count + place →
    unpacked base count len (set words word (with_digit base place (slice_index words word) value))
    ≡ set (unpacked base count len words) i value
unfolding unpacked
packed_set base count len words word place value i small inside there within is =
    ap (take len) (all_set base count words word place value i small there within is)
    ∙ take-set-lt len (all_digits base count words) i value inside

-- It stays packed.
pub set_packed :
    (base count len : ℕ) (words : List ℕ) (word place value i : ℕ) → value < base → i < len →
    word < length words → place < count → i ≡ word * count + place →
    ArePacked base count len words →
    ArePacked base count len (set words word (with_digit base place (slice_index words word) value))
set_packed base count len words word place value i small inside there within is packed =
    let new : ℕ = with_digit base place (slice_index words word) value in
    let some : 0 < base = omega arith in
    let as_many : length (set words word new) ≡ length words = length-set words word new in
    record {
      count_of = as_many ∙ packed.count_of;
      below =
          All-set (λ w. w < base ^ count) words word new
          (with_digit_below base place count (slice_index words word) value some small within (All-get_or (λ w. w < base ^ count) words word 0 there packed.below)) packed.below;
      rest =
          ap (drop len) (all_set base count words word place value i small there within is)
          ∙ drop-set-lt len (all_digits base count words) i value inside ∙ packed.rest
          ∙ ap (λ n. replicate (count * n - len) 0) (sym as_many);
    }

zero_digits : (base count : ℕ) → 0 < base → digits base count 0 ≡ replicate count 0
unfolding digits
zero_digits base zero some = refl
zero_digits base (suc count) some =
    let low : 0 % base ≡ 0 = omega arith in
    let high : 0 / base ≡ 0 = omega arith in
    cc (low, ap (digits base count) high, zero_digits base count some)

all_zeros :
    (base count n : ℕ) → 0 < base → all_digits base count (replicate n 0) ≡ replicate (count * n) 0
unfolding all_digits
all_zeros base count zero some = ap (λ k. replicate k 0) (sym (mul-zero count))
all_zeros base count (suc n) some =
    ap (λ ds. ds ++ all_digits base count (replicate n 0)) (zero_digits base count some)
    ∙ ap (λ ds. replicate count 0 ++ ds) (all_zeros base count n some)
    ∙ replicate-append-replicate count (count * n) 0
    ∙ ap (λ k. replicate k 0) (omega (arith, mul-suc count n))

drop_zeros : (m n : ℕ) → drop {A = ℕ} m (replicate n 0) ≡ replicate (n - m) 0
drop_zeros zero n = let same : n ≡ n - 0 = omega arith in ap (λ k. replicate k 0) same
drop_zeros (suc m) zero = let same : 0 ≡ zero - suc m = omega arith in ap (λ k. replicate k 0) same
drop_zeros (suc m) (suc n) =
    let same : n - m ≡ suc n - suc m = omega arith in drop_zeros m n ∙ ap (λ k. replicate k 0) same

-- Words of zeros hold a list of zeros.
pub zeros_unpacked :
    (base count len n : ℕ) → 0 < base → len ≤ count * n →
    unpacked base count len (replicate n 0) ≡ replicate len 0
unfolding unpacked
zeros_unpacked base count len n some room =
    ap (take len) (all_zeros base count n some) ∙ take-replicate len (count * n) 0 room

pub zeros_packed :
    (base count len n : ℕ) → 0 < base → 0 < base ^ count → n ≡ (len + (count - 1)) / count →
    ArePacked base count len (replicate n 0)
zeros_packed base count len n some power is =
    let made : length (replicate n 0) ≡ n = length-replicate n 0 in
    record {
      count_of = made ∙ is;
      below = All-replicate (λ w. w < base ^ count) n 0 power;
      rest =
          ap (drop len) (all_zeros base count n some) ∙ drop_zeros len (count * n)
          ∙ ap (λ k. replicate (count * k - len) 0) (sym made);
    }

append_same :
    (xs ys us vs : List ℕ) → length xs ≡ length us → xs ++ ys ≡ us ++ vs → (xs ≡ us) × (ys ≡ vs)
append_same [] ys [] vs len same = (refl, same)
append_same [] ys (u ∷ us) vs len same = absurd (omega arith)
append_same (x ∷ xs) ys [] vs len same = absurd (omega arith)
append_same (x ∷ xs) ys (u ∷ us) vs len same =
    let rest : xs ++ ys ≡ us ++ vs = cc in
    let (heads, tails) = append_same xs ys us vs (omega arith) rest in
    let first : x ≡ u = cc in
    (cc (first, heads), tails)

-- Words are told by their digits.
words_same :
    (base count : ℕ) (ws vs : List ℕ) → 0 < base → length ws ≡ length vs →
    All (λ w. w < base ^ count) ws → All (λ w. w < base ^ count) vs →
    all_digits base count ws ≡ all_digits base count vs → ws ≡ vs
unfolding all_digits
words_same base count [] [] some len below less same = refl
words_same base count [] (v ∷ vs) some len below less same = absurd (omega arith)
words_same base count (w ∷ ws) [] some len below less same = absurd (omega arith)
words_same base count (w ∷ ws) (v ∷ vs) some len below less same =
    let sizes = length-digits base count w ∙ sym (length-digits base count v) in
    let (heads, tails) = append_same (digits base count w) (all_digits base count ws) (digits base count v) (all_digits base count vs) sizes same in
    let first = same_number base count w v some (All-head (λ n. n < base ^ count) w ws below) (All-head (λ n. n < base ^ count) v vs less) heads in
    let later = words_same base count ws vs some (omega arith) (All-tail (λ n. n < base ^ count) w ws below) (All-tail (λ n. n < base ^ count) v vs less) tails in
    cc (first, later)

-- Packed lists of one length that hold the same have the same words.
pub packed_same :
    (base count len : ℕ) (ws vs : List ℕ) → 0 < base → ArePacked base count len ws →
    ArePacked base count len vs → unpacked base count len ws ≡ unpacked base count len vs → ws ≡ vs
unfolding unpacked
packed_same base count len ws vs some packed other same =
    let sizes : length ws ≡ length vs = packed.count_of ∙ sym other.count_of in
    let rest : drop len (all_digits base count ws) ≡ drop len (all_digits base count vs) =
    packed.rest ∙ ap (λ n. replicate (count * n - len) 0) sizes ∙ sym other.rest in
    let all : all_digits base count ws ≡ all_digits base count vs =
    sym (take-append-drop len (all_digits base count ws)) ∙ ap (λ ds. ds ++ drop len (all_digits base count ws)) same
    ∙ ap (λ ds. take len (all_digits base count vs) ++ ds) rest
    ∙ take-append-drop len (all_digits base count vs) in
    words_same base count ws vs some sizes packed.below other.below all

pub length-unpacked :
    (base count len : ℕ) (words : List ℕ) → len ≤ count * length words →
    length (unpacked base count len words) ≡ len
unfolding unpacked
length-unpacked base count len words room =
    taken len (all_digits base count words) (omega (arith, length-all_digits base count words)) where
      taken : (n : ℕ) (xs : List ℕ) → n ≤ length xs → length (take n xs) ≡ n
      taken zero xs within = refl
      taken (suc n) [] within = absurd (omega arith)
      taken (suc n) (x ∷ xs) within = ap suc (taken n xs (omega arith))

-- As many words as it takes have room for the list.
pub room :
    (count len n : ℕ) → 0 < count → n ≡ (len + (count - 1)) / count → len ≤ count * n
room count len n some is =
    let above : len + (count - 1) < (len + (count - 1)) / count * count + count = lt-div-mul-add some in
    let same = ap (λ k. k * count) is in
    omega (arith, above, same, mul_comm count n)

-- A place of the list is in one of the words.
pub in_words :
    (count len n i : ℕ) → 0 < count → n ≡ (len + (count - 1)) / count → i < len → i / count < n
in_words count len n i some is within =
    div_below i count n some (omega (arith, room count len n some is, mul_comm count n))

-- The length of what words hold.
pub length_held :
    (base count len : ℕ) (words : List ℕ) → 0 < count → ArePacked base count len words →
    length (unpacked base count len words) ≡ len
length_held base count len words some packed =
    length-unpacked base count len words (room count len (length words) some packed.count_of)

-- Packed lists that hold the same have the same length and the same words.
pub unpacked_told :
    (base count len other : ℕ) (ws vs : List ℕ) → 0 < base → 0 < count →
    ArePacked base count len ws → ArePacked base count other vs →
    unpacked base count len ws ≡ unpacked base count other vs → (len ≡ other) × (ws ≡ vs)
unpacked_told base count len other ws vs some many packed packs same =
    let lens : len ≡ other = sym (length_held base count len ws many packed) ∙ ap length same ∙ length_held base count other vs many packs in
    let moved : ArePacked base count other ws = subst (λ (l : ℕ). ArePacked base count l ws) lens packed in
    let held : unpacked base count other ws ≡ unpacked base count other vs = ap (λ l. unpacked base count l ws) (sym lens) ∙ same in
    (lens, packed_same base count other ws vs some moved packs held)

-- A list that was written whole.
pub whole_written :
    (n : ℕ) (new rest : List ℕ) → n ≡ length new → take n (new ++ rest) ≡ new
whole_written n new rest is = ap (λ k. take k (new ++ rest)) is ∙ take-append_seam new rest

flag_number : Bool → ℕ
flag_number true = 1
flag_number false = 0

flag_back : (d : ℕ) → d < 2 → flag_number (is_one d) ≡ d
unfolding flag_number
flag_back zero small = refl
flag_back (suc zero) small = refl
flag_back (suc (suc d)) small = absurd (omega arith)

flags_back : (ds : List ℕ) → All (λ d. d < 2) ds → map flag_number (map is_one ds) ≡ ds
flags_back [] small = refl
flags_back (d ∷ ds) small =
    let first = flag_back d (All-head (λ n. n < 2) d ds small) in
    let later = flags_back ds (All-tail (λ n. n < 2) d ds small) in
    cc (first, later)

digits_small : (base count n : ℕ) → 0 < base → All (λ d. d < base) (digits base count n)
unfolding digits
digits_small base zero n some = All-nil (λ d. d < base)
digits_small base (suc count) n some =
    All-cons (λ d. d < base) (n % base) (digits base count (n / base)) (mod-lt n some) (digits_small base count (n / base) some)

all_small : (base count : ℕ) (words : List ℕ) → 0 < base → All (λ d. d < base) (all_digits base count words)
unfolding all_digits
all_small base count [] some = All-nil (λ d. d < base)
all_small base count (word ∷ words) some =
    All-append (λ d. d < base) (digits base count word) (all_digits base count words) (digits_small base count word some)
    (all_small base count words some)

held_small :
    (base count len : ℕ) (words : List ℕ) → 0 < base → All (λ d. d < base) (unpacked base count len words)
unfolding unpacked
held_small base count len words some =
    All-take (λ d. d < base) len (all_digits base count words) (all_small base count words some)

-- Packed flags that are the same have the same length and the same words.
pub flags_told :
    (count len other : ℕ) (ws vs : List ℕ) → 0 < count → ArePacked 2 count len ws →
    ArePacked 2 count other vs →
    map is_one (unpacked 2 count len ws) ≡ map is_one (unpacked 2 count other vs) →
    (len ≡ other) × (ws ≡ vs)
flags_told count len other ws vs many packed packs same =
    let small : 0 < 2 = omega arith in
    let held : unpacked 2 count len ws ≡ unpacked 2 count other vs =
    sym (flags_back (unpacked 2 count len ws) (held_small 2 count len ws small)) ∙ ap (map flag_number) same
    ∙ flags_back (unpacked 2 count other vs) (held_small 2 count other vs small) in
    unpacked_told 2 count len other ws vs small many packed packs held

-- Words of zeros hold flags that are all false.
pub clear_unpacked :
    (count len n : ℕ) → len ≤ count * n →
    map is_one (unpacked 2 count len (replicate n 0)) ≡ replicate len false
clear_unpacked count len n has_room =
    ap (map is_one) (zeros_unpacked 2 count len n (omega arith) has_room) ∙ none_set len where
      none_set : (k : ℕ) → map is_one (replicate k 0) ≡ replicate k false
      none_set zero = refl
      none_set (suc k) = ap (λ bs. false ∷ bs) (none_set k)
