-- The numbers of actors by rising id, and what a change at a place makes of them.
use Rattle.std.proofs.Common.{◌≡◌, ℕ, zero, suc, ◌+◌, ◌<◌, ◌≤◌, ◌==◌, Bool, true, false, List, [], ◌∷◌, length}
use Rattle.std.proofs.Common.{refl, sym, ap, subst, ◌∙◌, ◌⊎◌, inl, inr, get_or, set, arith}
use Rattle.std.specs.List.{insert, remove}
use Rattle.std.specs.List.Sorted.{IsNonDecreasingBy}
use Rattle.std.specs.Prelude.{nat_lt}
use Rattle.std.proofs.lemmas.List.Sums.{sum_by-cons}
use Rattle.game_model.specs.declared.limits.TheConstants.{MAX_ACTORS}
use Rattle.std.proofs.lemmas.Bool.Decides.{nat_tests}
use Rattle.sync_hash.specs.declared.actor_number.ActorNumber.{ActorNumber}
use Rattle.sync_hash.specs.Kept.{RiseFrom, has_id, is_at, number_in, numbers_sum, place_for}
use Rattle.sync_hash.specs.Kept.{with_number, without_number}

-- Ids that rise from a number on rise from a lower one on.
pub rise_lower : (low least : ℕ) (l : List ActorNumber) → low ≤ least → RiseFrom least l → RiseFrom low l
rise_lower low least [] below rise = tt
rise_lower low least (a ∷ l) below rise = (omega (arith, rise.0), rise.1)

-- Each id is at least the one from which they rise.
least_at : (least : ℕ) (l : List ActorNumber) (d : ActorNumber) (i : ℕ) → RiseFrom least l → i < length l → least ≤ (get_or l i d).id
least_at least [] d i rise there = absurd (omega arith)
least_at least (a ∷ l) d zero rise there = rise.0
least_at least (a ∷ l) d (suc i) rise there =
    let above : a.id + 1 ≤ (get_or l i d).id = least_at (a.id + 1) l d i rise.1 (omega arith) in
    omega (arith, rise.0, above)

pub ids_rise : (least : ℕ) (l : List ActorNumber) → RiseFrom least l → IsNonDecreasingBy (λ (a : ActorNumber). a.id) l
ids_rise least [] rise i j d before there = absurd (omega arith)
ids_rise least (a ∷ l) rise zero zero d before there = omega arith
ids_rise least (a ∷ l) rise zero (suc j) d before there =
    let above : a.id + 1 ≤ (get_or l j d).id = least_at (a.id + 1) l d j rise.1 (omega arith) in
    omega (arith, above)
ids_rise least (a ∷ l) rise (suc i) zero d before there = absurd (omega arith)
ids_rise least (a ∷ l) rise (suc i) (suc j) d before there = ids_rise (a.id + 1) l rise.1 i j d (omega arith) (omega arith)

-- The place before which all ids are below, and from which on none is, is the number of ids below.
pub place_is :
    (l : List ActorNumber) (id r : ℕ) (d : ActorNumber) → r ≤ length l → ((k : ℕ) → k < r → nat_lt (get_or l k d).id id ≡ true) →
    (r < length l → nat_lt (get_or l r d).id id ≡ false) → r ≡ place_for l id
place_is [] id r d bound below from = omega arith
place_is (a ∷ l) id zero d bound below from = rw (from (omega arith)) refl
place_is (a ∷ l) id (suc r) d bound below from =
    rw (below 0 (omega arith))
    (ap suc (place_is l id r d (omega arith) (λ k before. below (suc k) (omega arith)) (λ there. from (omega arith))) ∙ omega arith)

-- An id below those that rise is not there.
record NotThere (l : List ActorNumber) (id : ℕ) : Type 0 where
  number : number_in l id ≡ 0
  without : without_number l id ≡ l
  none : has_id l id ≡ false

below_all : (least id : ℕ) (l : List ActorNumber) → RiseFrom least l → id < least → NotThere l id
below_all least id [] rise below = record { number = refl; without = refl; none = refl }
below_all least id (a ∷ l) rise below =
    let rest = below_all (a.id + 1) id l rise.1 (omega (arith, rise.0)) in
    let other : (a.id == id) ≡ false = grind (arith, nat_tests, rise.0) in
    record {
      number = rw other rest.number;
      without = rw other (ap (λ r. a ∷ r) rest.without);
      none = rw other rest.none;
    }

-- An id below another one comes before its place.
place_after :
    (a : ActorNumber) (l : List ActorNumber) (id : ℕ) → nat_lt a.id id ≡ true →
    place_for (a ∷ l) id ≡ suc (place_for l id)
place_after a l id is = rw is (omega arith)

-- An id that is at a place is no less than those before it.
at_least :
    (least : ℕ) (l : List ActorNumber) (g id : ℕ) → RiseFrom least l → is_at l g id ≡ true → least ≤ id
at_least least [] g id rise at = absurd cc
at_least least (a ∷ l) zero id rise at =
    let named : a.id ≡ id = grind (arith, nat_tests, at) in
    omega (arith, rise.0, named)
at_least least (a ∷ l) (suc g) id rise at =
    omega (arith, rise.0, at_least (a.id + 1) l g id rise.1 at)

-- A place where the id is.
pub guess_is :
    (least : ℕ) (l : List ActorNumber) (g id : ℕ) → RiseFrom least l → is_at l g id ≡ true → g ≡ place_for l id
guess_is least [] g id rise at = absurd cc
guess_is least (a ∷ l) zero id rise at =
    let named : a.id ≡ id = grind (arith, nat_tests, at) in
    let not_below : nat_lt a.id id ≡ false = grind (arith, nat_tests, named) in
    rw not_below refl
guess_is least (a ∷ l) (suc g) id rise at =
    let above : a.id + 1 ≤ id = at_least (a.id + 1) l g id rise.1 at in
    let below : nat_lt a.id id ≡ true = grind (arith, nat_tests, above) in
    ap suc (guess_is (a.id + 1) l g id rise.1 at) ∙ sym (place_after a l id below)

pub guess_within : (l : List ActorNumber) (g id : ℕ) → is_at l g id ≡ true → g ≤ length l
guess_within [] g id at = absurd cc
guess_within (a ∷ l) zero id at = omega arith
guess_within (a ∷ l) (suc g) id at = let more = guess_within l g id at in omega (arith, more)

-- What a change does where the id has its place.
pub record Present (l : List ActorNumber) (id number place : ℕ) (d : ActorNumber) : Type 0 where
  pub set_there : with_number l id number ≡ set l place (record { id = id; number = number })
  pub removed : without_number l id ≡ remove l place
  pub before : number_in l id ≡ (get_or l place d).number
  pub there : place < length l

-- What a change does where the id has none.
pub record Absent (l : List ActorNumber) (id number place : ℕ) : Type 0 where
  pub inserted : with_number l id number ≡ insert l place (record { id = id; number = number })
  pub without : without_number l id ≡ l
  pub before : number_in l id ≡ 0
  pub none : has_id l id ≡ false

pub present :
    (least : ℕ) (l : List ActorNumber) (id number : ℕ) (d : ActorNumber) → RiseFrom least l →
    is_at l (place_for l id) id ≡ true → Present l id number (place_for l id) d
present least [] id number d rise at = absurd cc
present least (a ∷ l) id number d rise at =
    by_order (nat_lt a.id id) refl (λ there. present (a.id + 1) l id number d rise.1 there) where
      by_order :
          (lower : Bool) → nat_lt a.id id ≡ lower →
          (is_at l (place_for l id) id ≡ true → Present l id number (place_for l id) d) →
          Present (a ∷ l) id number (place_for (a ∷ l) id) d
      by_order true is again =
          let step = place_after a l id is in
          let rest = again (subst (λ p. is_at (a ∷ l) p id ≡ true) step at) in
          let other : (a.id == id) ≡ false = grind (arith, nat_tests) in
          let P : ℕ → Type 0 = λ p. Present (a ∷ l) id number p d in
          subst P (sym step) (record {
            set_there = rw is (ap (λ r. a ∷ r) rest.set_there);
            removed = rw other (ap (λ r. a ∷ r) rest.removed);
            before = rw other rest.before;
            there = omega (arith, rest.there);
          })
      by_order false is again =
          let same : (a.id == id) ≡ true = rw is at at in
          let equal : a.id ≡ id = grind (arith, nat_tests) in
          let rest = below_all (a.id + 1) id l rise.1 (omega arith) in
          record {
            set_there = rw (is, same) refl;
            removed = rw (is, same) rest.without;
            before = rw (is, same) refl;
            there = rw is (omega arith);
          }

pub absent :
    (least : ℕ) (l : List ActorNumber) (id number : ℕ) → RiseFrom least l → is_at l (place_for l id) id ≡ false →
    Absent l id number (place_for l id)
absent least [] id number rise at = record { inserted = refl; without = refl; before = refl; none = refl }
absent least (a ∷ l) id number rise at =
    by_order (nat_lt a.id id) refl (λ none. absent (a.id + 1) l id number rise.1 none) where
      by_order :
          (lower : Bool) → nat_lt a.id id ≡ lower →
          (is_at l (place_for l id) id ≡ false → Absent l id number (place_for l id)) →
          Absent (a ∷ l) id number (place_for (a ∷ l) id)
      by_order true is again =
          let step = place_after a l id is in
          let rest = again (subst (λ p. is_at (a ∷ l) p id ≡ false) step at) in
          let other : (a.id == id) ≡ false = grind (arith, nat_tests) in
          let P : ℕ → Type 0 = λ p. Absent (a ∷ l) id number p in
          subst P (sym step) (record {
            inserted = rw is (ap (λ r. a ∷ r) rest.inserted);
            without = rw other (ap (λ r. a ∷ r) rest.without);
            before = rw other rest.before;
            none = rw other rest.none;
          })
      by_order false is again =
          let other : (a.id == id) ≡ false = rw is at at in
          let above : id < a.id = grind (arith, nat_tests) in
          let rest = below_all (a.id + 1) id l rise.1 (omega arith) in
          record {
            inserted = rw (is, other) refl;
            without = rw other (ap (λ r. a ∷ r) rest.without);
            before = rw other rest.number;
            none = rw other rest.none;
          }

-- One more number makes at most one more.
pub length_with :
    (l : List ActorNumber) (id number : ℕ) → length (with_number l id number) ≤ length l + 1
length_with [] id number = omega arith
length_with (a ∷ l) id number = by_order (nat_lt a.id id) refl (a.id == id) refl (length_with l id number) where
  by_order :
      (lower : Bool) → nat_lt a.id id ≡ lower → (same : Bool) → (a.id == id) ≡ same →
      length (with_number l id number) ≤ length l + 1 →
      length (with_number (a ∷ l) id number) ≤ length (a ∷ l) + 1
  by_order true is same equal rest = rw is (omega (arith, rest))
  by_order false is true equal rest = rw (is, equal) (omega arith)
  by_order false is false equal rest = rw (is, equal) (omega arith)

-- Numbers that rise still rise with one more, and without one.
pub rise_with :
    (least : ℕ) (l : List ActorNumber) (id number : ℕ) → RiseFrom least l → least ≤ id →
    RiseFrom least (with_number l id number)
rise_with least [] id number rise from = (from, tt)
rise_with least (a ∷ l) id number rise from =
    by_order (nat_lt a.id id) refl (a.id == id) refl (λ above. rise_with (a.id + 1) l id number rise.1 above) where
      by_order :
          (lower : Bool) → nat_lt a.id id ≡ lower → (same : Bool) → (a.id == id) ≡ same →
          (a.id + 1 ≤ id → RiseFrom (a.id + 1) (with_number l id number)) →
          RiseFrom least (with_number (a ∷ l) id number)
      by_order true is same equal again =
          let below : a.id < id = grind (arith, nat_tests) in
          rw is (rise.0, again (omega arith))
      by_order false is true equal again =
          let eq : a.id ≡ id = grind (arith, nat_tests) in
          rw (is, equal) (from, rise_lower (id + 1) (a.id + 1) l (omega arith) rise.1)
      by_order false is false equal again =
          let above : id < a.id = grind (arith, nat_tests) in
          rw (is, equal) (from, (omega arith, rise.1))

pub rise_without :
    (least : ℕ) (l : List ActorNumber) (id : ℕ) → RiseFrom least l → RiseFrom least (without_number l id)
rise_without least [] id rise = tt
rise_without least (a ∷ l) id rise = by_same (a.id == id) refl (rise_without (a.id + 1) l id rise.1) where
  by_same :
      (same : Bool) → (a.id == id) ≡ same → RiseFrom (a.id + 1) (without_number l id) →
      RiseFrom least (without_number (a ∷ l) id)
  by_same true is rest = rw is (rise_lower least (a.id + 1) (without_number l id) (omega (arith, rise.0)) rest)
  by_same false is rest = rw is (rise.0, rest)

-- What a change does to the sum of the numbers.
sum_cons : (a : ActorNumber) (l : List ActorNumber) → numbers_sum (a ∷ l) ≡ a.number + numbers_sum l
sum_cons a l = sum_by-cons (λ (x : ActorNumber). x.number) a l

pub sum_with :
    (least : ℕ) (l : List ActorNumber) (id number : ℕ) → RiseFrom least l →
    numbers_sum (with_number l id number) + number_in l id ≡ numbers_sum l + number
sum_with least [] id number rise = omega arith
sum_with least (a ∷ l) id number rise =
    by_order (nat_lt a.id id) refl (a.id == id) refl (sum_with (a.id + 1) l id number rise.1) where
      by_order :
          (lower : Bool) → nat_lt a.id id ≡ lower → (same : Bool) → (a.id == id) ≡ same →
          numbers_sum (with_number l id number) + number_in l id ≡ numbers_sum l + number →
          numbers_sum (with_number (a ∷ l) id number) + number_in (a ∷ l) id ≡ numbers_sum (a ∷ l) + number
      by_order true is true equal rest = absurd (grind (arith, nat_tests))
      by_order true is false equal rest =
          rw (is, equal) (omega (arith, rest, sum_cons a l, sum_cons a (with_number l id number)))
      by_order false is true equal rest =
          rw (is, equal) (omega (arith, sum_cons a l, sum_cons (record { id = id; number = number }) l))
      by_order false is false equal rest =
          let above : id < a.id = grind (arith, nat_tests) in
          let none = below_all (a.id + 1) id l rise.1 (omega arith) in
          rw (is, equal) (omega (arith, none.number, sum_cons (record { id = id; number = number }) (a ∷ l)))

pub sum_without :
    (least : ℕ) (l : List ActorNumber) (id : ℕ) → RiseFrom least l →
    numbers_sum (without_number l id) + number_in l id ≡ numbers_sum l
sum_without least [] id rise = refl
sum_without least (a ∷ l) id rise = by_same (a.id == id) refl (sum_without (a.id + 1) l id rise.1) where
  by_same :
      (same : Bool) → (a.id == id) ≡ same → numbers_sum (without_number l id) + number_in l id ≡ numbers_sum l →
      numbers_sum (without_number (a ∷ l) id) + number_in (a ∷ l) id ≡ numbers_sum (a ∷ l)
  by_same true is rest =
      let equal : a.id ≡ id = grind (arith, nat_tests) in
      let none = below_all (a.id + 1) id l rise.1 (omega arith) in
      rw (is, none.without) (omega (arith, sum_cons a l))
  by_same false is rest = rw is (omega (arith, rest, sum_cons a l, sum_cons a (without_number l id)))

-- The same at a place that was searched for.
pub present_at :
    (l : List ActorNumber) (id number place : ℕ) (d : ActorNumber) → RiseFrom 0 l → place ≡ place_for l id →
    is_at l place id ≡ true → Present l id number place d
present_at l id number place d rise is holds =
    subst (λ p. is_at l p id ≡ true → Present l id number p d) (sym is) (present 0 l id number d rise) holds

pub absent_at :
    (l : List ActorNumber) (id number place : ℕ) → RiseFrom 0 l → place ≡ place_for l id →
    is_at l place id ≡ false → Absent l id number place
absent_at l id number place rise is holds =
    subst (λ p. is_at l p id ≡ false → Absent l id number p) (sym is) (absent 0 l id number rise) holds

-- There is room for an id that is not there.
pub has_room :
    (l : List ActorNumber) (id : ℕ) → has_id l id ≡ false → (has_id l id ≡ true) ⊎ (length l < MAX_ACTORS) →
    length l < MAX_ACTORS
has_room l id none (inl there) = absurd cc
has_room l id none (inr room) = room
