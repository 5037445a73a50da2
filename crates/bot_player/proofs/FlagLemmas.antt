-- Flags that are set, and the laws of "or" that they need.
use Rattle.std.proofs.Common.{◌≡◌, ℕ, ◌<◌, eqb, Bool, true, false, ◌&&◌, ◌||◌, List, length, get_or, set, inl, inr, refl, sym, subst, ap, ◌∙◌, arith}
use Rattle.std.specs.Prelude.{slice_set}
use Rattle.std.proofs.lemmas.Bool.{cases_eq, cases_lt, eq-eqb, ne_eqb}
use Rattle.std.proofs.lemmas.List.{get_or_past, get_or-replicate, get_or-set_same, get_or-set_other, length-replicate, length-set, set_past}
use Rattle.rule_traits.specs.declared.TheConstants.{MAX_KINDS}
use Rattle.bot_player.specs.KindFlags.{flag_of, no_flags, with_flag}

pub or_false : (x : Bool) → x ≡ x || false
or_false true = refl
or_false false = refl

pub or_assoc : (x y z : Bool) → (x || y) || z ≡ x || (y || z)
or_assoc true y z = refl
or_assoc false y z = refl

-- A flag that is set is set; the others are as before.
pub flag_set :
    (flags : List Bool) (k j : ℕ) → k < length flags →
    flag_of (slice_set flags k true) j ≡ flag_of flags j || eqb k j
flag_set flags k j within = elim (cases_eq k j) [
  | inl same ↦ rw (eq-eqb k j same) (
      subst (λ (n : ℕ). get_or (set flags k true) n false ≡ get_or flags n false || true) same
      (get_or-set_same flags k true false within ∙ to_true (get_or flags k false)))
  | inr other ↦ rw (ne_eqb k j other)
      (get_or-set_other flags k j true false (λ e. other (sym e)) ∙ or_false (get_or flags j false))
]
  where
    to_true : (x : Bool) → true ≡ x || true
    to_true true = refl
    to_true false = refl

-- The same of a number that may have no flag.
flag_of_kind :
    (flags : List Bool) (k j : ℕ) → length flags ≡ MAX_KINDS → j < MAX_KINDS →
    flag_of (slice_set flags k true) j ≡ flag_of flags j || eqb k j
flag_of_kind flags k j size below = elim (cases_lt k (length flags)) [
  | inl within ↦ flag_set flags k j within
  | inr past ↦ rw (ne_eqb k j (λ same. absurd (omega (arith, same, past, size, below))))
      (ap (λ (fs : List Bool). get_or fs j false) (set_past flags k true past)
      ∙ or_false (get_or flags j false))
]

-- The flag of a kind, after that of a kind was set, if it was to be.
pub flag_with :
    (flags : List Bool) (k j : ℕ) (on : Bool) → length flags ≡ MAX_KINDS → j < MAX_KINDS →
    flag_of (with_flag flags k on) j ≡ flag_of flags j || (on && eqb k j)
flag_with flags k j true size below = flag_of_kind flags k j size below
flag_with flags k j false size below = or_false (flag_of flags j)

pub size_with :
    (flags : List Bool) (k : ℕ) (on : Bool) → length flags ≡ MAX_KINDS →
    length (with_flag flags k on) ≡ MAX_KINDS
size_with flags k true size = length-set flags k true ∙ size
size_with flags k false size = size

-- No flag is set at first.
pub none_set : (k : ℕ) → flag_of no_flags k ≡ false
none_set k = elim (cases_lt k MAX_KINDS) [
  | inl below ↦ get_or-replicate MAX_KINDS k false false below
  | inr past ↦ get_or_past no_flags k false (omega (arith, length-replicate MAX_KINDS false, past))
]
