-- When there is no difference.
use Rattle.std.specs.Prelude.{◌≡◌, ℕ, zero, suc, ◌+◌, ◌<◌, ◌==◌, Bool, true, false, if◌then◌else◌}
use Rattle.std.specs.Prelude.{List, [], ◌∷◌, ◌++◌, length, slice_get, Option, Some, None}
use Rattle.std.specs.Bool.{Decides}
use Rattle.std.proofs.Common.{refl, sym, ap, ap₂, ◌∙◌, arith, get_or}
use Rattle.std.proofs.lemmas.Bool.Decides.{Decides-and, Decides-eqb}
use Rattle.std.proofs.lemmas.List.{same_lists}
use Rattle.std.proofs.lemmas.Option.{slice_get-get_or}
use Rattle.std.proofs.lemmas.Slice.Eq.{slice_eq-Decides}
use Rattle.world_units.specs.CellEquality.{cell_decides}
use Rattle.activities.specs.ActivityEquality.{queue_decides}
use Rattle.game_model.specs.declared.actor.Leg.{Leg}
use Rattle.game_model.specs.declared.builds.Build.{Build}
use Rattle.game_orders.specs.EntryEquality.{entry_decides}
use Rattle.compare_command.specs.declared.subject.Subject.{Subject}
use Rattle.compare_command.specs.Difference.{Difference, Values, Differs, Numbers, Flags, Cells}
use Rattle.compare_command.specs.Difference.{Legs, Acts, Builds, Entries, Hashes, are_same, compared}
use Rattle.compare_command.specs.Difference.{compared_if, same_build, same_builds, same_flag}
use Rattle.compare_command.specs.Difference.{same_leg}
use Rattle.compare_command.specs.Each.{each}
use Rattle.compare_command.specs.Laws.{AreEqual}

-- ---- values that are the same are equal

flag_decides : (a b : Bool) → Decides (same_flag a b) (a ≡ b)
flag_decides true true = ((λ same. refl), (λ same. refl))
flag_decides true false = ((λ never. cc), (λ same. cc))
flag_decides false true = ((λ never. cc), (λ same. cc))
flag_decides false false = ((λ same. refl), (λ same. refl))

abbrev leg_with : ℕ → ℕ → Leg
leg_with dir progress = record { dir = dir; progress = progress }

leg_decides : (a b : Option Leg) → Decides (same_leg a b) (a ≡ b)
leg_decides None None = ((λ same. refl), (λ same. refl))
leg_decides None (Some b) = ((λ never. cc), (λ same. cc))
leg_decides (Some a) None = ((λ never. cc), (λ same. cc))
leg_decides (Some a) (Some b) =
    let both =
    Decides-and (a.dir == b.dir) (a.progress == b.progress) (Decides-eqb a.dir b.dir)
    (Decides-eqb a.progress b.progress) in (
      (λ same. let parts = both.0 same in
          ap₂ (λ (d p : ℕ). Some (leg_with d p)) parts.0 parts.1),
      (λ same. let leg : a ≡ b = cc in
          both.1 (ap (λ (l : Leg). l.dir) leg, ap (λ (l : Leg). l.progress) leg)),
    )

abbrev build_with : ℕ → ℕ → Build
build_with kind left = record { kind = kind; left = left }

build_decides : (a b : Build) → Decides (same_build a b) (a ≡ b)
build_decides a b =
    let both =
    Decides-and (a.kind == b.kind) (a.left == b.left) (Decides-eqb a.kind b.kind)
    (Decides-eqb a.left b.left) in (
      (λ same. let parts = both.0 same in ap₂ build_with parts.0 parts.1),
      (λ same. both.1 (ap (λ (l : Build). l.kind) same, ap (λ (l : Build). l.left) same)),
    )

pub same_decides : (v : Values) → Decides (are_same v) (AreEqual v)
unfolding are_same
same_decides (Numbers a b) = Decides-eqb a b
same_decides (Flags a b) = flag_decides a b
same_decides (Cells a b) = cell_decides a b
same_decides (Legs a b) = leg_decides a b
same_decides (Acts a b) = queue_decides a b
same_decides (Builds a b) = slice_eq-Decides build_decides a b (same_builds a b) refl
same_decides (Entries a b) = entry_decides a b
same_decides (Hashes a b) = Decides-eqb a b

same_when : (of : Subject) (v : Values) → compared of v ≡ [] → are_same v ≡ true
same_when of v none = by_test (are_same v) refl none
  where
    by_test : (same : Bool) → are_same v ≡ same →
        (if same then [] else Differs of v ∷ []) ≡ [] → are_same v ≡ true
    by_test true is empty = is
    by_test false is empty = absurd cc

pub equal_when : (of : Subject) (v : Values) → compared of v ≡ [] → AreEqual v
equal_when of v none = (same_decides v).0 (same_when of v none)

pub none_when : (of : Subject) (v : Values) → AreEqual v → compared of v ≡ []
none_when of v equal = let same : are_same v ≡ true = (same_decides v).1 equal in rw same refl

-- ---- several of them

pub both_none :
    (some more : List Difference) → some ++ more ≡ [] → (some ≡ []) × (more ≡ [])
both_none [] more none = (refl, none)
both_none (d ∷ some) more none = absurd cc

pub none_both :
    (some more : List Difference) → some ≡ [] → more ≡ [] → some ++ more ≡ []
none_both some more none none' = ap₂ (λ (a b : List Difference). a ++ b) none none'

pub each_none :
    (found : ℕ → List Difference) (from count n : ℕ) → each found from count ≡ [] → n < count →
    found (from + n) ≡ []
each_none found from zero n none within = absurd (omega (arith, within))
each_none found from (suc count) zero none within =
    let here : from + 0 ≡ from = omega arith in
    ap found here ∙ (both_none (found from) (each found (from + 1) count) none).0
each_none found from (suc count) (suc n) none within =
    let later : from + suc n ≡ (from + 1) + n = omega arith in
    ap found later
    ∙ each_none found (from + 1) count n
    (both_none (found from) (each found (from + 1) count) none).1 (omega (arith, within))

pub none_each :
    (found : ℕ → List Difference) (from count : ℕ) → ((n : ℕ) → found n ≡ []) →
    each found from count ≡ []
none_each found from zero none = refl
none_each found from (suc count) none =
    none_both (found from) (each found (from + 1) count) (none from)
    (none_each found (from + 1) count none)

-- ---- items of lists

pub same_got :
    {T : Type 0} (of : Subject) (values : T → T → Values) (xs ys : List T) (k : ℕ) (d : T) →
    ((a b : T) → compared of (values a b) ≡ [] → a ≡ b) → k < length xs → k < length ys →
    compared_if of values (slice_get xs k) (slice_get ys k) ≡ [] → get_or xs k d ≡ get_or ys k d
same_got {T = T} of values xs ys k d equal within beside none =
    equal (get_or xs k d) (get_or ys k d)
    (sym (ap₂ (λ (a b : Option T). compared_if of values a b) (slice_get-get_or xs k d within)
    (slice_get-get_or ys k d beside))
    ∙ none)

-- Lists whose items have no difference are equal.
pub same_items :
    {T : Type 0} (of : ℕ → Subject) (values : T → T → Values) (xs ys : List T) →
    ((n : ℕ) (a b : T) → compared (of n) (values a b) ≡ [] → a ≡ b) → length xs ≡ length ys →
    ((k : ℕ) → k < length xs →
    compared_if (of k) values (slice_get xs k) (slice_get ys k) ≡ []) →
    xs ≡ ys
same_items of values xs ys equal many none =
    same_lists xs ys many (λ k d within.
    same_got (of k) values xs ys k d (equal k) within (omega (arith, within, many)) (none k within))

-- Values of one list have no difference.
pub none_if :
    {T : Type 0} (of : Subject) (values : T → T → Values) (o : Option T) →
    ((a : T) → compared of (values a a) ≡ []) → compared_if of values o o ≡ []
none_if of values None none = refl
none_if of values (Some a) none = none a
