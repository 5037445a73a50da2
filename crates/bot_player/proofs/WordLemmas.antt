-- Flags that are held 64 to a word.
use Rattle.std.proofs.Common.{◌≡◌, ℕ, ◌*◌, ◌/◌, ◌%◌, ◌^◌, ◌<◌, ◌≤◌, eqb, ltb, Bool, true, false, List, map, length, get_or, set, bit_and, bit_or, inl, inr, refl, sym, subst, ap, ◌∙◌, arith}
use Rattle.std.specs.Prelude.{replicate, slice_index, slice_set}
use Rattle.std.specs.Int.{bit_at}
use Rattle.std.specs.List.{range_with_len}
use Rattle.std.proofs.Math.Pow.{pow-lt}
use Rattle.std.proofs.lemmas.Bool.{cases_eq, cases_lt, le-ltb}
use Rattle.std.proofs.lemmas.List.{ext_get_or, get_or_past, get_or-replicate, get_or-set_same, get_or-set_other, length-replicate, length-set, set_past}
use Rattle.std.proofs.lemmas.List.FromFn.{get_or-map-range_with_len, length-map-range_with_len}
use Rattle.std.proofs.lemmas.Nat.Bits.{bit_at-lt, bit_at-pow_other, bit_at-pow_same, bit_at-zero, bit_at_or, shr_and_one}
use Rattle.rule_traits.specs.declared.TheConstants.{MAX_KINDS}
use Rattle.bot_player.specs.KindFlags.{flag_in, flag_of, flags_in, no_flags, with_flag}

-- The first so many flags.
abbrev first_in : (n : ℕ) → (words : List ℕ) → List Bool
first_in n words = map (flag_in words) (range_with_len 0 n)

size_in : (n : ℕ) (words : List ℕ) → length (first_in n words) ≡ n
size_in n words = length-map-range_with_len (flag_in words) 0 n

read_in : (n : ℕ) (words : List ℕ) (k : ℕ) → k < n → get_or (first_in n words) k false ≡ flag_in words k
read_in n words k below = get_or-map-range_with_len (flag_in words) 0 n k k false below (omega arith)

-- In words of 0 no flag is set.
zero_in : (n i : ℕ) → slice_index (replicate n 0) i ≡ 0
zero_in n i = elim (cases_lt i n) [
  | inl below ↦ get_or-replicate n i 0 0 below
  | inr past ↦ get_or_past (replicate n 0) i 0 (omega (arith, length-replicate {A = ℕ} n 0, past))
]

none_up_to : (n m : ℕ) → first_in n (replicate m 0) ≡ replicate n false
none_up_to n m =
    ext_get_or false (first_in n (replicate m 0)) (replicate n false)
    (size_in n (replicate m 0) ∙ sym (length-replicate n false)) each
  where
    off : (i : ℕ) → flag_in (replicate m 0) i ≡ false
    off i =
        ap (λ (word : ℕ). eqb (bit_at word (i % 64)) 1) (zero_in m (i / 64))
        ∙ ap (λ (b : ℕ). eqb b 1) (bit_at-zero (i % 64))

    each :
        (i : ℕ) → i < length (first_in n (replicate m 0)) →
        get_or (first_in n (replicate m 0)) i false ≡ get_or (replicate n false) i false
    each i within =
        let below : i < n = omega (arith, within, size_in n (replicate m 0)) in
        read_in n (replicate m 0) i below ∙ off i ∙ sym (get_or-replicate n i false false below)

pub none_in : (m : ℕ) → flags_in (replicate m 0) ≡ no_flags
unfolding flags_in
none_in m = none_up_to MAX_KINDS m

-- The flag of a kind is its bit.
pub bit_in :
    (words : List ℕ) (kind at : ℕ) → kind < MAX_KINDS → at ≡ kind / 64 →
    eqb (bit_and (slice_index words at / 2 ^ (kind % 64)) 1) 1 ≡ flag_of (flags_in words) kind
unfolding flags_in
bit_in words kind at below same =
    ap (λ (b : ℕ). eqb b 1) (shr_and_one (slice_index words at) (kind % 64))
    ∙ ap (λ (i : ℕ). eqb (bit_at (slice_index words i) (kind % 64)) 1) same
    ∙ sym (read_in MAX_KINDS words kind below)

pub past_in :
    (words : List ℕ) (kind : ℕ) → MAX_KINDS ≤ kind → ltb kind MAX_KINDS ≡ flag_of (flags_in words) kind
unfolding flags_in
past_in words kind past =
    le-ltb kind MAX_KINDS past
    ∙ sym (get_or_past (first_in MAX_KINDS words) kind false (omega (arith, size_in MAX_KINDS words, past)))

pub unset_in :
    (words : List ℕ) (kind : ℕ) (on : Bool) → MAX_KINDS ≤ kind →
    flags_in words ≡ with_flag (flags_in words) kind on
unfolding flags_in
unset_in words kind true past =
    sym (set_past (first_in MAX_KINDS words) kind true (omega (arith, size_in MAX_KINDS words, past)))
unset_in words kind false past = refl

-- To set the bit sets the flag.
abbrev with_bit : (words : List ℕ) → (at place : ℕ) → List ℕ
with_bit words at place = slice_set words at (bit_or (slice_index words at) (2 ^ place))

bit_set : (words : List ℕ) (kind : ℕ) → kind / 64 < length words → flag_in (with_bit words (kind / 64) (kind % 64)) kind ≡ true
bit_set words kind within =
    ap (λ (word : ℕ). eqb (bit_at word place) 1)
    (get_or-set_same words (kind / 64) (bit_or word (2 ^ place)) 0 within)
    ∙ ap (λ (b : ℕ). eqb b 1) one
  where
    place : ℕ
    place = kind % 64

    word : ℕ
    word = slice_index words (kind / 64)

    one : bit_at (bit_or word (2 ^ place)) place ≡ 1
    one = omega (arith, bit_at_or word (2 ^ place) place, bit_at-pow_same place, bit_at-lt word place)

bit_kept :
    (words : List ℕ) (kind i : ℕ) → kind / 64 < length words → (i ≡ kind → ⊥) →
    flag_in (with_bit words (kind / 64) (kind % 64)) i ≡ flag_in words i
bit_kept words kind i within other = elim (cases_eq (i / 64) (kind / 64)) [
  | inl same ↦ in_word same
  | inr apart ↦ ap (λ (word : ℕ). eqb (bit_at word (i % 64)) 1)
      (get_or-set_other words (kind / 64) (i / 64) (bit_or (slice_index words (kind / 64)) (2 ^ (kind % 64))) 0 apart)
]
  where
    in_word :
        i / 64 ≡ kind / 64 → flag_in (with_bit words (kind / 64) (kind % 64)) i ≡ flag_in words i
    in_word same =
        let word : ℕ = slice_index words (kind / 64) in
        let apart : i % 64 ≡ kind % 64 → ⊥ = λ e. other (omega (arith, same, e)) in
        let bit : bit_at (bit_or word (2 ^ (kind % 64))) (i % 64) ≡ bit_at word (i % 64) =
        omega (arith, bit_at_or word (2 ^ (kind % 64)) (i % 64), bit_at-pow_other (kind % 64) (i % 64) apart) in
        ap (λ (at : ℕ). eqb (bit_at (slice_index (with_bit words (kind / 64) (kind % 64)) at) (i % 64)) 1) same
        ∙ ap (λ (w : ℕ). eqb (bit_at w (i % 64)) 1)
        (get_or-set_same words (kind / 64) (bit_or word (2 ^ (kind % 64))) 0 within)
        ∙ ap (λ (b : ℕ). eqb b 1) bit
        ∙ ap (λ (at : ℕ). eqb (bit_at (slice_index words at) (i % 64)) 1) (sym same)

set_up_to :
    (n : ℕ) (words : List ℕ) (kind : ℕ) → kind < n → kind / 64 < length words →
    first_in n (with_bit words (kind / 64) (kind % 64)) ≡ slice_set (first_in n words) kind true
set_up_to n words kind below within =
    ext_get_or false (first_in n after) (slice_set (first_in n words) kind true)
    (size_in n after ∙ sym (length-set (first_in n words) kind true ∙ size_in n words)) each
  where
    after : List ℕ
    after = with_bit words (kind / 64) (kind % 64)

    each :
        (i : ℕ) → i < length (first_in n after) →
        get_or (first_in n after) i false ≡ get_or (slice_set (first_in n words) kind true) i false
    each i inside =
        let low : i < n = omega (arith, inside, size_in n after) in
        elim (cases_eq i kind) [
          | inl same ↦ read_in n after i low
              ∙ subst (λ (j : ℕ). flag_in after j ≡ get_or (set (first_in n words) kind true) j false) (sym same)
              (bit_set words kind within
              ∙ sym (get_or-set_same (first_in n words) kind true false (omega (arith, size_in n words, below))))
          | inr other ↦ read_in n after i low
              ∙ bit_kept words kind i within other
              ∙ sym (read_in n words i low)
              ∙ sym (get_or-set_other (first_in n words) kind i true false other)
        ]

pub set_in :
    (words : List ℕ) (kind at : ℕ) → kind < MAX_KINDS → at ≡ kind / 64 → length words ≡ 16 →
    flags_in (slice_set words at (bit_or (slice_index words at) (1 * 2 ^ (kind % 64) % 18446744073709551616)))
    ≡ slice_set (flags_in words) kind true
unfolding flags_in
set_in words kind at below same size =
    ap (λ (p : ℕ). first_in MAX_KINDS (slice_set words at (bit_or (slice_index words at) p))) mask
    ∙ ap (λ (i : ℕ). first_in MAX_KINDS (with_bit words i (kind % 64))) same
    ∙ set_up_to MAX_KINDS words kind below (omega (arith, below, size))
  where
    mask : 1 * 2 ^ (kind % 64) % 18446744073709551616 ≡ 2 ^ (kind % 64)
    mask =
        let low : 2 ^ (kind % 64) < 18446744073709551616 = pow-lt {i = kind % 64} {j = 64} (omega arith) in
        omega (arith, low)
